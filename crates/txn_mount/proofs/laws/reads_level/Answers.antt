use Rattle.txn_mount.proofs.Reading.{reads_are_level}
use Rattle.txn_mount.proofs.laws.reads_level.Goals as goal

pub returns : goal.returns
returns c = reads_are_level
