use Rattle.state_model.specs.Loads.{boot_block, slot_of}
use Rattle.volume_map.specs.Slots.{seen}
use Rattle.volume_map.proofs.Steps.{alone}
use Rattle.volume_map.proofs.table.boot_record.Goals as goal

pub returns-clause-answer : goal.returns-clause-answer
returns-clause-answer g c = alone _ _ (λ content. slot_of (content (boot_block c.args.geometry.now c.args.number))) c.args.number (seen c.in_ok-slot.slot) c.judged.result (rw c.boot_block.ensures.value at c.in_ok-slot.ensures.answer) c.judged.ensures
