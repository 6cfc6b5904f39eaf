use Rattle.std.proofs.Common.{◌≤◌, List, sym, subst, arith}
use Rattle.record_model.specs.declared.runs.Run.{Run}
use Rattle.record_model.specs.Pairs.{cluster_limit}
use Rattle.draft_growth.proofs.record_streams.Spelled.{total_few}
use Rattle.draft_growth.specs.state_model.Loads.{total_clusters}
use Rattle.planned_streams.proofs.tables.may_grow.Goals as goal

pub total_clusters-requires : goal.total_clusters-requires
total_clusters-requires c =
    let few = total_few 0 0 c.args.extents.now.runs (c.have_spelling.ensures.0 c.if-not-have_spelling.false) (omega arith) in
    subst (λ (l : List Run). total_clusters l ≤ cluster_limit) (sym c.as_slice.ensures.value) (omega (arith, few))
