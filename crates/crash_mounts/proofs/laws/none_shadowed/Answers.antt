use Rattle.crash_mounts.proofs.Clearing.{none_shadowed}
use Rattle.crash_mounts.proofs.laws.none_shadowed.Goals as goal

pub returns : goal.returns
returns c = none_shadowed
