use Rattle.state_model.specs.Loads.{table_slot}
use Rattle.volume_links.proofs.Scanned.{scans_on}
use Rattle.volume_links.proofs.scanning.step.Goals as goal

pub returns-clause-answer : goal.returns-clause-answer
returns-clause-answer g c =
    scans_on _ c.args.per c.args.cut (λ content. table_slot content c.args.per c.args.extents.now) c.args.number c.in_ok-seen.seen c.judge.result c.args.scan.now (record { links = c.take_record.new.links; refusal = c.judge.new.refusal }) c.in_ok-seen.ensures.seen c.judge.ensures
