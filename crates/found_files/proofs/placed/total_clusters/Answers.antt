use Rattle.std.proofs.Common.{◌≤◌, List, sym, subst, arith}
use Rattle.record_model.specs.declared.runs.Run.{Run}
use Rattle.record_model.specs.Pairs.{cluster_limit}
use Rattle.written_made.proofs.record_streams.Spelled.{total_few}
use Rattle.state_model.specs.Loads.{total_clusters}
use Rattle.found_files.proofs.placed.total_clusters.Goals as goal

pub total_clusters-requires : goal.total_clusters-requires
total_clusters-requires c =
    let few = total_few 0 0 c.args.runs.now c.requires (omega arith) in
    subst (λ (l : List Run). total_clusters l ≤ cluster_limit) (sym c.as_slice.ensures.value) (omega (arith, few))
