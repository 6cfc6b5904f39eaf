use Rattle.std.proofs.Common.{ℕ, List, ◌*◌, ◌/◌, subst, ap, arith}
use Rattle.volume_map.specs.record_model.declared.runs.Run.{Run}
use Rattle.map_change.specs.Touching.{AgreeBelow}
use Rattle.map_change.proofs.Places.{keeps_places}
use Rattle.map_change.proofs.keeping.kept_records.Goals as goal

pub returns-clause-places : goal.returns-clause-places
returns-clause-places c =
    let placed = ap (λ (k : ℕ). c.min-clusters.result * k / 2) c.sectors.ensures.value in
    keeps_places c.args.per c.args.old.now c.args.new.now c.min-2.result c.min-clusters.result c.agree_below.result (omega (arith, c.sectors.ensures.some, c.sectors.ensures.value))
    (subst (λ (l : List Run). AgreeBelow l c.args.new.now.runs c.agree_below.result) c.as_slice.ensures.value
    (subst (λ (l : List Run). AgreeBelow c.as_slice.result.now l c.agree_below.result) c.as_slice-2.ensures.value c.agree_below.ensures)) (omega (arith, c.min-clusters.ensures)) (omega (arith, c.min-2.ensures, c.min.ensures, c.min-count.ensures))
    (omega (arith, c.min-2.ensures, c.min.ensures, c.min-count.ensures)) (omega (arith, c.min-2.ensures, c.min.ensures, placed)) (λ m below. c.begun_below.ensures m (omega (arith, below, c.min-2.ensures)))
