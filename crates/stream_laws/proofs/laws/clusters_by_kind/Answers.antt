use Rattle.stream_laws.proofs.Weighing.{clusters_by_kind as by_kind, owned_by_kind}
use Rattle.stream_laws.proofs.laws.clusters_by_kind.Goals as goal

pub returns : goal.returns
returns c = record { all = by_kind; owned = owned_by_kind }
