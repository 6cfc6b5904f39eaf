use Rattle.mounted_states.proofs.Starting.{all_begin}
use Rattle.mounted_states.proofs.laws.stores_begin.Goals as goal

pub returns : goal.returns
returns c = all_begin c.mounts_hold_states.ensures c.needed_are_safe.ensures c.needed_is_all.ensures c.stores_spare.ensures c.windows_tell.ensures
