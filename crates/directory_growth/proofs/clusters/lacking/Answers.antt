use Rattle.std.proofs.Common.{ap, arith}
use Rattle.state_model.specs.Loads.{total_clusters}
use Rattle.data_plan.proofs.record_streams.Spelled.{total_few}
use Rattle.directory_growth.proofs.clusters.lacking.Goals as goal

pub total_clusters-has-requires : goal.total_clusters-has-requires
total_clusters-has-requires c = omega (arith, ap total_clusters c.as_slice.ensures.value, total_few 0 0 c.args.extents.now.runs c.requires (omega arith))
