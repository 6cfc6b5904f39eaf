use Rattle.start_mounts.proofs.Mounting.{starts_mount}
use Rattle.start_mounts.proofs.laws.stopped_starts_mount.Goals as goal

pub returns : goal.returns
returns c =
    starts_mount c.mounts_hold_states.ensures c.needed_are_safe.ensures c.stopped_mounts_mount.ensures c.needed_is_all.ensures c.opens_alike.ensures c.states_load.ensures c.mounted_by_record.ensures c.mounted_passes.ensures
