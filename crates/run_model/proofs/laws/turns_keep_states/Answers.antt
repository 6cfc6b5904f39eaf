use Rattle.run_model.proofs.Kept.{turns_keep_states}
use Rattle.run_model.proofs.laws.turns_keep_states.Goals as goal

pub returns : goal.returns
returns g c = turns_keep_states g.R.DiskRun.step g.R.DiskRun.Bears g.R.DiskRun.left g.R.DiskRun.left_then
