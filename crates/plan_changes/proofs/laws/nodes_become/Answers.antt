use Rattle.plan_changes.proofs.Becoming.{nodes_are}
use Rattle.plan_changes.proofs.laws.nodes_become.Goals as goal

pub returns : goal.returns
returns c = nodes_are
