use Rattle.state_store.proofs.Sparing.{all_spared}
use Rattle.state_store.proofs.laws.puts_spare.Goals as goal

pub returns : goal.returns
returns c = all_spared
