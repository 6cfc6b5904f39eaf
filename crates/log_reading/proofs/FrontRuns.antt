-- The front of a log's runs: how it is gathered, and the sectors of its runs.
use Rattle.std.proofs.Common.{◌≡◌, ℕ, ◌+◌, ◌-◌, ◌<◌, ◌≤◌, min, Bool, true, false, List, [], ◌∷◌, ◌++◌, length, get_or, drop, Option, Some, refl, sym, ap, ◌∙◌, subst, ⊎_elim, append_assoc, append-nil, arith}
use Rattle.std.specs.Prelude.{if◌then◌else◌, nat_lt}
use Rattle.std.proofs.lemmas.Bool.{ltb-true, ltb-false, lt-ltb, le-ltb, cases_lt}
use Rattle.std.proofs.lemmas.List.{at_drop_more, at_drop_all}
use Rattle.log_page.specs.declared.places.Extent.{Extent}
use Rattle.log_reading.specs.LogPages.{sector_in}
use Rattle.log_reading.specs.Rows.{with_run, front_runs}
use Rattle.log_reading.proofs.Ahead.{passed, inside}

abbrev pub run_of : ℕ → ℕ → Extent
run_of first sectors = record { first = first; sectors = sectors }

-- ---- how it is gathered

with_rest : (b : Bool) (run : Extent) (runs : List Extent) → (if b then run ∷ runs else runs) ≡ (if b then run ∷ [] else []) ++ runs
with_rest true run runs = refl
with_rest false run runs = refl

pub one_cut : (runs : List Extent) (i left count : ℕ) (d : Extent) (old new all : List Extent) → i < length runs → count ≡ min (get_or runs i d).sectors left → new ≡ old ++ with_run (get_or runs i d).first count []
    → old ++ front_runs (drop i runs) left ≡ all → new ++ front_runs (drop (i + 1) runs) (left - count) ≡ all
one_cut runs i left count d old new all lt is made so_far =
    let here : front_runs (drop i runs) left ≡ with_run (get_or runs i d).first count [] ++ front_runs (drop (i + 1) runs) (left - count) =
    at_drop_more (λ (rs : List Extent). front_runs rs left) runs i d lt
    ∙ ap (λ (n : ℕ). with_run (get_or runs i d).first n (front_runs (drop (i + 1) runs) (left - n))) (sym is)
    ∙ with_rest (nat_lt 0 count) (run_of (get_or runs i d).first count) (front_runs (drop (i + 1) runs) (left - count)) in
    ap (λ (xs : List Extent). xs ++ front_runs (drop (i + 1) runs) (left - count)) made
    ∙ append_assoc old (with_run (get_or runs i d).first count []) (front_runs (drop (i + 1) runs) (left - count))
    ∙ ap (λ (xs : List Extent). old ++ xs) (sym here)
    ∙ so_far

pub all_cut : (runs : List Extent) (i left : ℕ) (items all : List Extent) → length runs ≤ i → items ++ front_runs (drop i runs) left ≡ all → items ≡ all
all_cut runs i left items all past so_far =
    sym (append-nil items) ∙ sym (ap (λ (xs : List Extent). items ++ xs) (at_drop_all (λ (rs : List Extent). front_runs rs left) runs i past)) ∙ so_far

-- ---- its runs have sectors, and no more than so many in all

abbrev pub AreFilled : ℕ → List Extent → Type 0
AreFilled left [] = Unit {0}
AreFilled left (run ∷ runs) = (0 < run.sectors) × ((run.sectors ≤ left) × AreFilled (left - run.sectors) runs)

filled_with : (b : Bool) (first sectors left : ℕ) (runs : List Extent) → nat_lt 0 sectors ≡ b → sectors ≤ left → AreFilled (left - sectors) runs → AreFilled left (if b then run_of first sectors ∷ runs else runs)
filled_with true first sectors left runs is le filled = (ltb-true 0 sectors is, (le, filled))
filled_with false first sectors left runs is le filled =
    let none : sectors ≤ 0 = ltb-false 0 sectors is in
    let same : left - sectors ≡ left = omega arith in
    subst (λ (n : ℕ). AreFilled n runs) same filled

pub front_filled : (runs : List Extent) (left : ℕ) → AreFilled left (front_runs runs left)
front_filled [] left = tt
front_filled (run ∷ runs) left = filled_with (nat_lt 0 (min run.sectors left)) run.first (min run.sectors left) left (front_runs runs (left - min run.sectors left)) refl (omega arith) (front_filled runs (left - min run.sectors left))

-- ---- its sectors are those of all runs

sector_with : (b : Bool) (first sectors n : ℕ) (runs : List Extent) → nat_lt 0 sectors ≡ b → sector_in (if b then run_of first sectors ∷ runs else runs) n ≡ (if nat_lt n sectors then Some (first + n) else sector_in runs (n - sectors))
sector_with true first sectors n runs is = refl
sector_with false first sectors n runs is =
    let none : sectors ≤ 0 = ltb-false 0 sectors is in
    let same : n ≡ n - sectors = omega arith in
    ap (sector_in runs) same ∙ sym (ap (λ (b : Bool). if b then Some (first + n) else sector_in runs (n - sectors)) (le-ltb n sectors (omega arith)))

abbrev cut_sector : Extent → List Extent → ℕ → ℕ → Bool → Option ℕ
cut_sector run runs left n b = if b then Some (run.first + n) else sector_in (front_runs runs (left - min run.sectors left)) (n - min run.sectors left)

pub front_sector : (runs : List Extent) (left n : ℕ) → n < left → sector_in (front_runs runs left) n ≡ sector_in runs n
front_sector [] left n lt = refl
front_sector (run ∷ runs) left n lt =
    sector_with (nat_lt 0 (min run.sectors left)) run.first (min run.sectors left) n (front_runs runs (left - min run.sectors left)) refl
    ∙ ⊎_elim (λ (h : n < run.sectors). here h) (λ (h : run.sectors ≤ n). behind h (front_sector runs (left - min run.sectors left) (n - min run.sectors left) (omega arith))) (cases_lt n run.sectors)
  where
    here : n < run.sectors → cut_sector run runs left n (nat_lt n (min run.sectors left)) ≡ sector_in (run ∷ runs) n
    here h = ap (cut_sector run runs left n) (lt-ltb n (min run.sectors left) (omega arith)) ∙ sym (inside run runs n h)

    behind : run.sectors ≤ n → sector_in (front_runs runs (left - min run.sectors left)) (n - min run.sectors left) ≡ sector_in runs (n - min run.sectors left) → cut_sector run runs left n (nat_lt n (min run.sectors left)) ≡ sector_in (run ∷ runs) n
    behind h rest =
        let all : n - min run.sectors left ≡ n - run.sectors = omega arith in
        ap (cut_sector run runs left n) (le-ltb n (min run.sectors left) (omega arith))
        ∙ rest
        ∙ ap (sector_in runs) all
        ∙ sym (passed run runs n (n - run.sectors) (omega arith))
