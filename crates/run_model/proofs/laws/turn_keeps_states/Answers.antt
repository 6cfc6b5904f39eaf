use Rattle.run_model.proofs.Kept.{turn_keeps_states}
use Rattle.run_model.proofs.laws.turn_keeps_states.Goals as goal

pub returns : goal.returns
returns g c = turn_keeps_states g.R.DiskRun.step g.R.DiskRun.Bears g.R.DiskRun.left_then
