use Rattle.change_plan.proofs.Reading.{files_are_read}
use Rattle.change_plan.proofs.laws.files_are_read.Goals as goal

pub returns : goal.returns
returns c = files_are_read c.reads_the_table.ensures
