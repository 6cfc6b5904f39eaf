use Rattle.change_run.proofs.Bounds.{lap_bound}
use Rattle.change_run.proofs.laws.laps_bounded.Goals as goal

pub returns : goal.returns
returns g = lap_bound
