use Rattle.log_model.proofs.Origins.{tail_nothing}
use Rattle.log_model.proofs.laws.tail_counts_for_nothing.Goals as goal

pub returns : goal.returns
returns c = tail_nothing
