use Rattle.log_record.proofs.Checked.{first_low}
use Rattle.log_record.proofs.checking.check_update.Goals as goal

pub returns-clause-first : goal.returns-clause-first
returns-clause-first c = first_low c.args.entry.now c.update_fault.result c.update_fault.ensures
