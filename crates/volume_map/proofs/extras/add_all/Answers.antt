use Rattle.volume_map.proofs.Owners.{adds_record}
use Rattle.volume_map.proofs.extras.add_all.Goals as goal

pub loop-number-preserved : goal.loop-number-preserved
loop-number-preserved c = adds_record _ c.args.records.now c.loop-number.number c.loop-number.extras c.add_record.new.extras c.loop-number.invariant c.in_ok-add_record.ensures
