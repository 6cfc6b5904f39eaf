use Rattle.volume_sync.proofs.Runs.{runs_turned}
use Rattle.volume_sync.proofs.laws.turns_run.Goals as goal

pub returns : goal.returns
returns g c = runs_turned g.D.Device.gives g.D.Device.sector_count g.D.Device.moment_of g.D.Device.changes_of
