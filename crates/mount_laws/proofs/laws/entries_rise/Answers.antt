use Rattle.mount_laws.proofs.Rising.{entries_rise}
use Rattle.mount_laws.proofs.laws.entries_rise.Goals as goal

pub returns : goal.returns
returns c = entries_rise
