use Rattle.log_model.proofs.Origins.{kernel}
use Rattle.log_model.proofs.laws.crash_kernel.Goals as goal

pub returns : goal.returns
returns c = kernel
