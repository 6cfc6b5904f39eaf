use Rattle.crash_trees.proofs.Closing.{close_leaves}
use Rattle.crash_trees.proofs.laws.close_leaves.Goals as goal

pub returns : goal.returns
returns g c = close_leaves g.D.Device.gives g.D.Device.sector_count g.D.Device.moment_of g.D.Device.changes_of c.needed_is_all.ensures c.endings_tell.ensures c.crashes_mount.ensures c.mounted_by_record.ensures
