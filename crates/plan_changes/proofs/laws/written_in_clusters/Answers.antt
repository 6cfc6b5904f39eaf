use Rattle.plan_changes.proofs.Writing.{written_so}
use Rattle.plan_changes.proofs.laws.written_in_clusters.Goals as goal

pub returns : goal.returns
returns c = written_so
