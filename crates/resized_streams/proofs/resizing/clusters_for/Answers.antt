use Rattle.std.proofs.Common.{sym, subst}
use Rattle.record_streams.specs.state_model.Clusters.{IsClusterSize}
use Rattle.resized_streams.proofs.Chosen.{few_for}
use Rattle.resized_streams.proofs.resizing.clusters_for.Goals as goal

pub returns-clause-few : goal.returns-clause-few
returns-clause-few c = few_for c.sectors-bytes.result c.args.size (subst IsClusterSize (sym c.sectors-bytes.ensures.value) c.sectors-bytes.ensures.size)
