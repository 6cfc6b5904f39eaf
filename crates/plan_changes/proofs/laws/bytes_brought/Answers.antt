use Rattle.plan_changes.proofs.Bringing.{bytes_come}
use Rattle.plan_changes.proofs.laws.bytes_brought.Goals as goal

pub returns : goal.returns
returns c = bytes_come
