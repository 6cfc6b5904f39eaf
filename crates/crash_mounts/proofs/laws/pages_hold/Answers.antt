use Rattle.crash_mounts.proofs.Holding.{pages_hold}
use Rattle.crash_mounts.proofs.laws.pages_hold.Goals as goal

pub returns : goal.returns
returns c = pages_hold
