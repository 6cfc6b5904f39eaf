-- Chosen clusters lie among those that there are.
use Rattle.std.proofs.Common.{ℕ, ◌+◌, ◌≤◌, Bool, List, [], ◌∷◌, length, Option, sym, subst, arith}
use Rattle.std.specs.Prelude.{IfSome, All}
use Rattle.std.proofs.lemmas.List.Elements.{All-cons, All-nil}
use Rattle.record_model.specs.declared.runs.Run.{Run}
use Rattle.draft_bitmaps.specs.space_model.Choosing.{with_run, chosen}
use Rattle.draft_bitmaps.specs.space_model.Laws.{AreFree}
use Rattle.draft_bitmaps.proofs.space_model.Searching.{length-with_run}
use Rattle.draft_bitmaps.proofs.space_model.Lawful.{chosen_are_free}
use Rattle.draft_growth.specs.Clusters.{IsInside}

free_inside : (limit : ℕ) (bits : List Bool) (vcn : ℕ) (runs : List Run) → length bits ≤ limit → AreFree bits vcn runs → All (IsInside limit) runs
free_inside limit bits vcn [] few free = All-nil (IsInside limit)
free_inside limit bits vcn (r ∷ runs) few free =
    let first = free.0 in
    let is = free.1 in
    All-cons (IsInside limit) r runs
    (subst (λ (o : Option ℕ). IfSome o (λ lcn. lcn + r.len ≤ limit)) (sym is.lcn) (omega (arith, is.clear.inside, few)))
    (free_inside limit (with_run first r.len bits) (vcn + r.len) runs (omega (arith, length-with_run first r.len bits, few)) free.2)

pub chosen_inside : (limit : ℕ) (bits : List Bool) (last : Option ℕ) (n : ℕ) → length bits ≤ limit → All (IsInside limit) (chosen bits last n)
chosen_inside limit bits last n few = free_inside limit bits 0 (chosen bits last n) few (chosen_are_free.free bits last n)
