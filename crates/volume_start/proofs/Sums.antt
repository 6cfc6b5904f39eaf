-- The sectors of runs that are left of a list.
use Rattle.std.proofs.Common.{◌≡◌, ℕ, zero, suc, ◌+◌, ◌<◌, ◌≤◌, List, [], ◌∷◌, length, get_or, drop, refl, sym, ap, ◌∙◌, arith}
use Rattle.std.specs.Prelude.{sum_by}
use Rattle.std.proofs.lemmas.List.Sums.{sum_by-cons}
use Rattle.log_page.specs.declared.places.Extent.{Extent}

abbrev pub sectors_in : List Extent → ℕ
sectors_in runs = sum_by (λ (e : Extent). e.sectors) runs

-- those from a run on are its own, and those behind it
pub sectors_from : (runs : List Extent) (i : ℕ) (d : Extent) → i < length runs → sectors_in (drop i runs) ≡ (get_or runs i d).sectors + sectors_in (drop (i + 1) runs)
sectors_from [] i d lt = absurd (omega (arith, lt))
sectors_from (e ∷ runs) zero d lt = sum_by-cons (λ (x : Extent). x.sectors) e runs
sectors_from (e ∷ runs) (suc i) d lt = (let next : suc i + 1 ≡ suc (i + 1) = omega arith in sectors_from runs i d (omega (arith, lt)) ∙ ap (λ (k : ℕ). (get_or runs i d).sectors + sectors_in (drop k (e ∷ runs))) (sym next))

-- and none are left at the end
pub none_left : (runs : List Extent) (i : ℕ) → length runs ≤ i → sectors_in (drop i runs) ≡ 0
none_left [] zero le = refl
none_left [] (suc i) le = refl
none_left (e ∷ runs) zero le = absurd (omega (arith, le))
none_left (e ∷ runs) (suc i) le = none_left runs i (omega (arith, le))
