use Rattle.step_model.proofs.NeverFull.{used_bytes}
use Rattle.step_model.proofs.laws.used_bytes.Goals as goal

pub returns : goal.returns
returns c = used_bytes
