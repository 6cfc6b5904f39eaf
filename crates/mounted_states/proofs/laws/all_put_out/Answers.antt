use Rattle.mounted_states.proofs.PutOut.{all_put_out}
use Rattle.mounted_states.proofs.laws.all_put_out.Goals as goal

pub returns : goal.returns
returns c = all_put_out
