use Rattle.crash_trees.proofs.Mounting.{trees_mount}
use Rattle.crash_trees.proofs.laws.trees_mount.Goals as goal

pub returns : goal.returns
returns c = trees_mount c.needed_is_all.ensures c.windows_tell.ensures c.crashes_mount.ensures c.mounted_by_record.ensures
