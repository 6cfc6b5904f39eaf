use Rattle.plan_changes.proofs.Falling.{rooms_are}
use Rattle.plan_changes.proofs.laws.rooms_fall.Goals as goal

pub returns : goal.returns
returns c = rooms_are
