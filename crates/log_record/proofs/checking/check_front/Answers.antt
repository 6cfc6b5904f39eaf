use Rattle.log_record.proofs.Checked.{front_inside}
use Rattle.log_record.proofs.checking.check_front.Goals as goal

pub returns-clause-inside : goal.returns-clause-inside
returns-clause-inside c = front_inside c.args.entry.now c.front_fault.result c.front_fault.ensures
