use Rattle.run_model.proofs.Kept.{store_keeps_states}
use Rattle.run_model.proofs.laws.store_keeps_states.Goals as goal

pub returns : goal.returns
returns g c = store_keeps_states g.R.DiskRun.step g.R.DiskRun.Bears g.R.DiskRun.left g.R.DiskRun.left_then
