use Rattle.std.proofs.Common.{◌≤◌, List, sym, subst, arith}
use Rattle.record_model.specs.declared.runs.Run.{Run}
use Rattle.record_model.specs.Pairs.{cluster_limit}
use Rattle.record_streams.proofs.Spelled.{total_few}
use Rattle.state_model.specs.Loads.{total_clusters}
use Rattle.place_makes.proofs.steady.has_placed.Goals as goal

pub total_clusters-requires : goal.total_clusters-requires
total_clusters-requires c =
    let few = total_few 0 0 c.args.extents.now.runs (c.have_spelling.ensures.0 c.if-have_spelling.true) (omega arith) in
    subst (λ (l : List Run). total_clusters l ≤ cluster_limit) (sym c.as_slice.ensures.value) (omega (arith, few))
