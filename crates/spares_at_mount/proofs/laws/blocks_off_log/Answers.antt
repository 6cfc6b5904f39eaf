use Rattle.spares_at_mount.proofs.Mounting.{judged_apart, apart_known}
use Rattle.spares_at_mount.proofs.laws.blocks_off_log.Goals as goal

pub returns : goal.returns
returns c = record { judged = judged_apart; known = apart_known }
