use Rattle.run_model.proofs.Kept.{run_keeps_states}
use Rattle.run_model.proofs.laws.run_keeps_states.Goals as goal

pub returns : goal.returns
returns g c = run_keeps_states g.R.DiskRun.step g.R.DiskRun.Bears g.R.DiskRun.left
