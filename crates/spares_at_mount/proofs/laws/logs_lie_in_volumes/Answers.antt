use Rattle.spares_at_mount.proofs.Lying.{lies_in_log, alike_lies}
use Rattle.spares_at_mount.proofs.laws.logs_lie_in_volumes.Goals as goal

pub returns : goal.returns
returns c = record { lies = lies_in_log; alike = alike_lies }
