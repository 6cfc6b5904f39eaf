use Rattle.volume_map.specs.Slots.{seen}
use Rattle.state_model.specs.Loads.{table_slot}
use Rattle.volume_map.proofs.Heads.{head_noted}
use Rattle.volume_map.proofs.Steps.{walks_on}
use Rattle.volume_map.proofs.walk.step.Goals as goal

pub returns-clause-answer : goal.returns-clause-answer
returns-clause-answer g c = walks_on _ (λ content. table_slot content c.args.per c.args.extents.now) c.args.number (seen c.in_ok-found.found.slot) c.note.result c.args.walk.now c.note.new.walk c.in_ok-found.ensures.answer c.note.ensures.answer c.note.ensures.noted

pub returns-clause-heads : goal.returns-clause-heads
returns-clause-heads g c =
    head_noted _ c.args.per c.args.extents.now c.args.number c.note.result c.args.walk.now.heads.items c.note.new.walk.heads.items c.in_ok-found.found.head c.note.ensures.heads c.in_ok-found.ensures.head
