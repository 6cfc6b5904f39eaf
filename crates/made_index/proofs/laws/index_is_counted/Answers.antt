use Rattle.made_index.proofs.Counting.{counted}
use Rattle.made_index.proofs.laws.index_is_counted.Goals as goal

pub returns : goal.returns
returns c = counted
