use Rattle.mounted_states.proofs.Starting.{all_may}
use Rattle.mounted_states.proofs.laws.stores_may_be_changed.Goals as goal

pub returns : goal.returns
returns c = all_may c.mounts_hold_states.ensures c.needed_are_safe.ensures c.needed_is_all.ensures c.windows_tell.ensures c.stores_spare.ensures c.mounted_by_record.ensures c.mounted_passes.ensures
