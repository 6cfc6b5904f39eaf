use Rattle.std.proofs.Common.{ap, ◌∙◌, arith}
use Rattle.record_streams.specs.state_model.Loads.{total_clusters}
use Rattle.record_streams.specs.stream_runs.Runs.{merged}
use Rattle.record_streams.proofs.stream_runs.Merging.{total-merged}
use Rattle.resized_streams.proofs.Chosen.{few_front}
use Rattle.resized_streams.proofs.resizing.shortened.Goals as goal

pub merged-requires : goal.merged-requires
merged-requires c = omega (arith, ap total_clusters c.in_ok-kept.ensures, few_front c.clusters_for.result c.args.extents.now.runs c.requires.spelled)

pub allocated_in-requires : goal.allocated_in-requires
allocated_in-requires c =
    let total = ap total_clusters c.in_ok-runs.ensures ∙ total-merged c.in_ok-kept.kept in
    omega (arith, total, ap total_clusters c.in_ok-kept.ensures, few_front c.clusters_for.result c.args.extents.now.runs c.requires.spelled)
