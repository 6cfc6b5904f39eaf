use Rattle.crash_mounts.proofs.Holding.{logs_are_files}
use Rattle.crash_mounts.proofs.laws.logs_are_files.Goals as goal

pub returns : goal.returns
returns c = logs_are_files
