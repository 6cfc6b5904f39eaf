use Rattle.mounted_states.proofs.Calls.{keeps_found}
use Rattle.mounted_states.proofs.laws.stores_keep_found.Goals as goal

pub returns : goal.returns
returns g c = keeps_found g.D.Device.gives g.D.Device.sector_count g.D.Device.changes_of g.D.Device.fault_count g.D.Device.moment_of c.mounts_stay.ensures
