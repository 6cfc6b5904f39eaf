use Rattle.plan_table.proofs.First.{first_number}
use Rattle.plan_table.proofs.laws.new_number_is_first.Goals as goal

pub returns : goal.returns
returns c = first_number
