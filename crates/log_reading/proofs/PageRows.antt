-- Runs that lie in rows of whole pages, by their sectors.
use Rattle.std.proofs.Common.{◌≡◌, ℕ, ◌+◌, ◌-◌, ◌%◌, ◌<◌, ◌≤◌, Bool, true, false, List, [], ◌∷◌, length, get_or, drop, Option, Some, None, unwrap_or, refl, sym, ap, ◌∙◌, ⊎_elim, arith}
use Rattle.std.specs.Prelude.{if◌then◌else◌, nat_le, ◌==◌, ◌&&◌}
use Rattle.std.proofs.lemmas.Bool.{leb-true, le-leb, eqb-true, eq-eqb, ne_eqb, and_from, and_parts, cases_lt}
use Rattle.std.proofs.lemmas.List.{at_drop_more, at_drop_all}
use Rattle.log_page.specs.declared.places.Extent.{Extent}
use Rattle.log_reading.specs.LogPages.{sector_in}
use Rattle.log_reading.specs.Rows.{lies_next, goes_on, are_whole}
use Rattle.log_reading.proofs.Ahead.{passed, inside}
use Rattle.log_reading.proofs.FrontRuns.{AreFilled}

-- ---- the walk

pub whole_stops : (limit left end : ℕ) (runs : List Extent) (i : ℕ) (d : Extent) → i < length runs → goes_on limit left end (get_or runs i d) ≡ false → are_whole limit left end (drop i runs) ≡ false
whole_stops limit left end runs i d lt stops =
    at_drop_more (are_whole limit left end) runs i d lt
    ∙ ap (λ (b : Bool). if b then are_whole limit (left - (get_or runs i d).sectors) ((get_or runs i d).first + (get_or runs i d).sectors) (drop (i + 1) runs) else false) stops

pub whole_goes_on : (limit left end : ℕ) (runs : List Extent) (i : ℕ) (d : Extent) → i < length runs → goes_on limit left end (get_or runs i d) ≡ true
    → are_whole limit left end (drop i runs) ≡ are_whole limit (left - (get_or runs i d).sectors) ((get_or runs i d).first + (get_or runs i d).sectors) (drop (i + 1) runs)
whole_goes_on limit left end runs i d lt goes =
    at_drop_more (are_whole limit left end) runs i d lt
    ∙ ap (λ (b : Bool). if b then are_whole limit (left - (get_or runs i d).sectors) ((get_or runs i d).first + (get_or runs i d).sectors) (drop (i + 1) runs) else false) goes

pub whole_ends : (limit left end : ℕ) (runs : List Extent) (i : ℕ) → length runs ≤ i → are_whole limit left end (drop i runs) ≡ (left == 0)
whole_ends limit left end runs i past = at_drop_all (are_whole limit left end) runs i past

-- ---- one run

record Goes (limit left end : ℕ) (run : Extent) : Type 0 where
  few : run.sectors ≤ left
  begins : left % 8 ≡ 0 → run.first % 8 ≡ 0
  follows : 0 < left % 8 → run.first ≡ end
  within : run.first + run.sectors ≤ limit

abbrev next_by : ℕ → ℕ → Bool → Bool
next_by end first b = if b then first % 8 == 0 else first == end

begins_from : (left end first : ℕ) → lies_next left end first ≡ true → left % 8 ≡ 0 → first % 8 ≡ 0
begins_from left end first is zero = eqb-true (first % 8) 0 (sym (ap (next_by end first) (eq-eqb (left % 8) 0 zero)) ∙ is)

follows_from : (left end first : ℕ) → lies_next left end first ≡ true → 0 < left % 8 → first ≡ end
follows_from left end first is more = eqb-true first end (sym (ap (next_by end first) (ne_eqb (left % 8) 0 (λ zero. absurd (omega arith)))) ∙ is)

lies_from : (left end first : ℕ) → (left % 8 ≡ 0 → first % 8 ≡ 0) → (0 < left % 8 → first ≡ end) → lies_next left end first ≡ true
lies_from left end first begins follows =
    ⊎_elim
    (λ (more : 0 < left % 8). ap (next_by end first) (ne_eqb (left % 8) 0 (λ zero. absurd (omega arith))) ∙ eq-eqb first end (follows more))
    (λ (none : left % 8 ≤ 0). (let zero : left % 8 ≡ 0 = omega arith in ap (next_by end first) (eq-eqb (left % 8) 0 zero) ∙ eq-eqb (first % 8) 0 (begins zero)))
    (cases_lt 0 (left % 8))

goes_from : (limit left end : ℕ) (run : Extent) → goes_on limit left end run ≡ true → Goes limit left end run
unfolding goes_on
goes_from limit left end run is =
    let all = and_parts (nat_le run.sectors left && lies_next left end run.first && nat_le run.first limit) (nat_le run.sectors (limit - run.first)) is in
    let front = and_parts (nat_le run.sectors left && lies_next left end run.first) (nat_le run.first limit) all.0 in
    let first = and_parts (nat_le run.sectors left) (lies_next left end run.first) front.0 in
    let here : run.first ≤ limit = leb-true run.first limit front.1 in
    let room : run.sectors ≤ limit - run.first = leb-true run.sectors (limit - run.first) all.1 in
    record {
      few = leb-true run.sectors left first.0;
      begins = begins_from left end run.first first.1;
      follows = follows_from left end run.first first.1;
      within = omega arith;
    }

goes_by : (limit left end : ℕ) (run : Extent) → Goes limit left end run → goes_on limit left end run ≡ true
unfolding goes_on
goes_by limit left end run goes =
    let here : run.first ≤ limit = omega (arith, goes.within) in
    let room : run.sectors ≤ limit - run.first = omega (arith, goes.within) in
    and_from (nat_le run.sectors left && lies_next left end run.first && nat_le run.first limit) (nat_le run.sectors (limit - run.first))
    (and_from (nat_le run.sectors left && lies_next left end run.first) (nat_le run.first limit) (and_from (nat_le run.sectors left) (lies_next left end run.first) (le-leb run.sectors left goes.few) (lies_from left end run.first goes.begins goes.follows)) (le-leb run.first limit here))
    (le-leb run.sectors (limit - run.first) room)

-- ---- one sector

-- The sector with this number lies below the limit, as far into a cluster as into its page, and where it isn't the first of its page,
-- right behind the one before it; the first one of all behind this end.
pub record Stands (limit left end : ℕ) (runs : List Extent) (n : ℕ) : Type 0 where
  pub sector : ℕ
  pub is : sector_in runs n ≡ Some sector
  pub below : sector < limit
  pub even : (sector + (left - n)) % 8 ≡ 0
  pub first : n ≡ 0 → 0 < left % 8 → sector ≡ end
  pub next : (m s : ℕ) → n ≡ m + 1 → 0 < (left - n) % 8 → sector_in runs m ≡ Some s → sector ≡ s + 1

pub same_sector : (a b : ℕ) → Some a ≡ Some b → a ≡ b
same_sector a b e = ap (λ (o : Option ℕ). unwrap_or o 0) e

here : (limit left end : ℕ) (run : Extent) (runs : List Extent) (n : ℕ) → (end + left) % 8 ≡ 0 → Goes limit left end run → n < run.sectors → Stands limit left end (run ∷ runs) n
here limit left end run runs n even goes lt =
    let start : (run.first + left) % 8 ≡ 0 = ⊎_elim (λ (more : 0 < left % 8). (let same = goes.follows more in omega arith)) (λ (none : left % 8 ≤ 0). (let same = goes.begins (omega arith) in omega arith)) (cases_lt 0 (left % 8)) in
    let few = goes.few in
    record {
      sector = run.first + n;
      is = inside run runs n lt;
      below = omega (arith, goes.within);
      even = omega arith;
      first = λ zero more. omega (arith, goes.follows more);
      next = λ m s e more is. (let before : run.first + m ≡ s = same_sector (run.first + m) s (sym (inside run runs m (omega arith)) ∙ is) in omega arith);
    }

behind : (limit left end : ℕ) (run : Extent) (runs : List Extent) (n : ℕ) → 0 < run.sectors → run.sectors ≤ n → Stands limit (left - run.sectors) (run.first + run.sectors) runs (n - run.sectors) → Stands limit left end (run ∷ runs) n
behind limit left end run runs n some le t = record {
  sector = t.sector;
  is = passed run runs n (n - run.sectors) (omega arith) ∙ t.is;
  below = t.below;
  even = (let place : (t.sector + (left - run.sectors - (n - run.sectors))) % 8 ≡ 0 = t.even in let same : left - run.sectors - (n - run.sectors) ≡ left - n = omega arith in sym (ap (λ (k : ℕ). (t.sector + k) % 8) same) ∙ place);
  first = λ zero more. absurd (omega arith);
  next = λ m s e more is. ⊎_elim (λ (h : m < run.sectors). joint m s e more is h) (λ (h : run.sectors ≤ m). later m s e more is h) (cases_lt m run.sectors);
}
  where
    joint : (m s : ℕ) → n ≡ m + 1 → 0 < (left - n) % 8 → sector_in (run ∷ runs) m ≡ Some s → m < run.sectors → t.sector ≡ s + 1
    joint m s e more is h =
        let before : run.first + m ≡ s = same_sector (run.first + m) s (sym (inside run runs m h) ∙ is) in
        let same : left - n ≡ left - run.sectors = omega arith in
        let left_more : 0 < (left - run.sectors) % 8 = omega (arith, ap (λ (k : ℕ). k % 8) same) in
        let at_end : t.sector ≡ run.first + run.sectors = t.first (omega arith) left_more in
        omega arith

    later : (m s : ℕ) → n ≡ m + 1 → 0 < (left - n) % 8 → sector_in (run ∷ runs) m ≡ Some s → run.sectors ≤ m → t.sector ≡ s + 1
    later m s e more is h =
        let same : left - run.sectors - (n - run.sectors) ≡ left - n = omega arith in
        t.next (m - run.sectors) s (omega arith) (omega (arith, ap (λ (k : ℕ). k % 8) same)) (sym (passed run runs m (m - run.sectors) (omega arith)) ∙ is)

-- ---- all sectors

both_true : (b rest : Bool) → (if b then rest else false) ≡ true → (b ≡ true) × (rest ≡ true)
both_true true rest is = (refl, is)
both_true false rest is = absurd (clash is)
  where
    clash : false ≡ true → ⊥
    clash x = cc

pub all_stand : (limit left end : ℕ) (runs : List Extent) → AreFilled left runs → (end + left) % 8 ≡ 0 → are_whole limit left end runs ≡ true → (n : ℕ) → n < left → Stands limit left end runs n
all_stand limit left end [] filled even whole n lt = absurd (omega (arith, eqb-true left 0 whole))
all_stand limit left end (run ∷ runs) filled even whole n lt =
    let parts = both_true (goes_on limit left end run) (are_whole limit (left - run.sectors) (run.first + run.sectors) runs) whole in
    let goes = goes_from limit left end run parts.0 in
    let few = goes.few in
    let start : (run.first + left) % 8 ≡ 0 = ⊎_elim (λ (more : 0 < left % 8). (let same = goes.follows more in omega arith)) (λ (none : left % 8 ≤ 0). (let same = goes.begins (omega arith) in omega arith)) (cases_lt 0 (left % 8)) in
    let same : run.first + run.sectors + (left - run.sectors) ≡ run.first + left = omega arith in
    let rest_even : (run.first + run.sectors + (left - run.sectors)) % 8 ≡ 0 = ap (λ (k : ℕ). k % 8) same ∙ start in
    ⊎_elim
    (λ (h : n < run.sectors). here limit left end run runs n even goes h)
    (λ (h : run.sectors ≤ n). behind limit left end run runs n filled.0 h (all_stand limit (left - run.sectors) (run.first + run.sectors) runs filled.1.1 rest_even parts.1 (n - run.sectors) (omega arith)))
    (cases_lt n run.sectors)

-- the runs behind the first one
shifted : (limit left end : ℕ) (run : Extent) (runs : List Extent) (m : ℕ) → 0 < run.sectors → run.sectors + m < left → Stands limit left end (run ∷ runs) (run.sectors + m) → Stands limit (left - run.sectors) (run.first + run.sectors) runs m
shifted limit left end run runs m some lt t =
    let same : left - (run.sectors + m) ≡ left - run.sectors - m = omega arith in
    let same_rest : (left - (run.sectors + m)) % 8 ≡ (left - run.sectors - m) % 8 = ap (λ (k : ℕ). k % 8) same in
    record {
      sector = t.sector;
      is = sym (passed run runs (run.sectors + m) m (omega arith)) ∙ t.is;
      below = t.below;
      even = sym (ap (λ (k : ℕ). (t.sector + k) % 8) same) ∙ t.even;
      first = λ zero more. (let none : left - run.sectors ≡ left - (run.sectors + m) = omega arith in let rest : 0 < (left - (run.sectors + m)) % 8 = omega (arith, ap (λ (k : ℕ). k % 8) none) in
          let after = t.next (run.sectors - 1) (run.first + (run.sectors - 1)) (omega arith) rest (inside run runs (run.sectors - 1) (omega arith)) in omega arith);
      next = λ k s e more is. t.next (run.sectors + k) s (omega arith) (omega arith) (passed run runs (run.sectors + k) k (omega arith) ∙ is);
    }

pub no_sector : {P : Type 0} → (s : ℕ) → None ≡ Some s → P
no_sector s e = absurd (clash e)
  where
    clash : None ≡ Some s → ⊥
    clash x = cc

pub are_whole_by : (limit left end : ℕ) (runs : List Extent) → AreFilled left runs → ((n : ℕ) → n < left → Stands limit left end runs n) → are_whole limit left end runs ≡ true
are_whole_by limit left end [] filled stand =
    ⊎_elim (λ (more : 0 < left). (let t = stand 0 more in no_sector t.sector t.is)) (λ (none : left ≤ 0). eq-eqb left 0 (omega arith)) (cases_lt 0 left)
are_whole_by limit left end (run ∷ runs) filled stand =
    let some = filled.0 in
    let few = filled.1.0 in
    let t = stand 0 (omega arith) in
    let u = stand (run.sectors - 1) (omega arith) in
    let begun : run.first + 0 ≡ t.sector = same_sector (run.first + 0) t.sector (sym (inside run runs 0 some) ∙ t.is) in
    let last : run.first + (run.sectors - 1) ≡ u.sector = same_sector (run.first + (run.sectors - 1)) u.sector (sym (inside run runs (run.sectors - 1) (omega arith)) ∙ u.is) in
    let below = u.below in
    let even = t.even in
    let goes = goes_by limit left end run (record { few = few; begins = λ zero. omega arith; follows = λ more. omega (arith, t.first refl more); within = omega arith }) in
    ap (λ (b : Bool). if b then are_whole limit (left - run.sectors) (run.first + run.sectors) runs else false) goes
    ∙ are_whole_by limit (left - run.sectors) (run.first + run.sectors) runs filled.1.1 (λ m lt. shifted limit left end run runs m some (omega arith) (stand (run.sectors + m) (omega arith)))
