use Rattle.mounted_states.proofs.Showing.{all_show}
use Rattle.mounted_states.proofs.laws.stores_show_mounted.Goals as goal

pub returns : goal.returns
returns c = all_show c.mounts_hold_states.ensures c.needed_are_safe.ensures c.needed_is_all.ensures c.windows_tell.ensures
