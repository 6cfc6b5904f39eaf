use Rattle.mount_laws.proofs.Placed.{by_record}
use Rattle.mount_laws.proofs.laws.mounted_by_record.Goals as goal

pub returns : goal.returns
returns c = by_record
