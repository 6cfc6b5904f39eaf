use Rattle.crash_mounts.proofs.Logs.{logs_stay_clear}
use Rattle.crash_mounts.proofs.laws.logs_stay_clear.Goals as goal

pub returns : goal.returns
returns c = logs_stay_clear
