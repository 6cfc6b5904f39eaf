use Rattle.std.proofs.Common.{ap, arith}
use Rattle.record_streams.specs.state_model.Loads.{total_clusters}
use Rattle.resized_streams.proofs.Chosen.{total_grown}
use Rattle.resized_streams.proofs.resizing.lengthened.Goals as goal

pub allocated_in-requires : goal.allocated_in-requires
allocated_in-requires c = omega (arith, ap total_clusters c.in_ok-runs.ensures, total_grown c.args.extents.now.runs c.args.more.now, c.requires.few)
