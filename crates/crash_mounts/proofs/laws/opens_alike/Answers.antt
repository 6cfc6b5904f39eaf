use Rattle.crash_mounts.proofs.Opening.{opens_alike}
use Rattle.crash_mounts.proofs.laws.opens_alike.Goals as goal

pub returns : goal.returns
returns c = opens_alike
