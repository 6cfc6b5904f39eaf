use Rattle.state_model.specs.Loads.{table_slot}
use Rattle.volume_links.proofs.Seeing.{nowhere, not_there}
use Rattle.volume_links.proofs.scanning.take_record.Goals as goal

pub returns-then-not-branch-clause-seen : goal.returns-then-not-branch-clause-seen
returns-then-not-branch-clause-seen g c =
    nowhere _ (λ content. table_slot content c.args.per c.args.extents.now c.args.number) c.args.per c.args.number c.args.links.now.items (not_there _ (λ content. table_slot content c.args.per c.args.extents.now c.args.number) c.in_ok-read_body.field-0 _ c.if-not-branch.true c.in_ok-read_body.ensures.slot)
