use Rattle.volume_core.proofs.Histories.{leaves_trees}
use Rattle.volume_core.proofs.volume.Volume.left.Goals as goal

pub returns : goal.returns
returns g c = leaves_trees g.D.Device.gives g.D.Device.sector_count g.D.Device.changes_of c.args.self.now c.trees_mount.ensures
