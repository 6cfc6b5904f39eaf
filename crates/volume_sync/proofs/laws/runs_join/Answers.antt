use Rattle.volume_sync.proofs.Runs.{runs_joined}
use Rattle.volume_sync.proofs.laws.runs_join.Goals as goal

pub returns : goal.returns
returns g c = runs_joined g.D.Device.gives g.D.Device.sector_count g.D.Device.moment_of g.D.Device.changes_of
