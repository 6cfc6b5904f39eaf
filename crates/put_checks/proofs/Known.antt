-- A block that shares no sector with the runs of a log, nor with a block by which it is found, is known to the store; and one that is known shares none with such a block.
use Rattle.std.proofs.Common.{◌≡◌, ℕ, zero, suc, ◌+◌, ◌-◌, ◌*◌, ◌<◌, ◌≤◌, Bool, true, false, List, [], ◌∷◌, Option, Some, None, refl, sym, ap, ap₂, ◌∙◌, subst, arith}
use Rattle.std.specs.Prelude.{◌&&◌, ◌||◌, not, nat_le, nat_lt, if◌then◌else◌, unwrap_or}
use Rattle.std.specs.List.{list_any, list_all, range_with_len}
use Rattle.std.proofs.lemmas.Bool.{le-leb, leb-true, lt-ltb, ltb-true}
use Rattle.disk_model.specs.declared.block.Block.{Block}
use Rattle.disk_model.specs.Sectors.{sectors, overlap}
use Rattle.sector_device.specs.Disks.{is_within}
use Rattle.log_page.specs.declared.places.Extent.{Extent}
use Rattle.log_page.specs.declared.places.LogPlace.{LogPlace}
use Rattle.log_reading.specs.LogPages.{sector_in, sector_below, log_sector}
use Rattle.log_reading.specs.Rings.{IsPageAt, IsRingPlace}
use Rattle.state_store.specs.log_area.Areas.{page_first}
use Rattle.store_model.specs.Volumes.{is_free}
use Rattle.state_store.specs.txn_model.Values.{is_own}
use Rattle.put_checks.specs.Checks.{meets_run}

-- ---- tests

pub and_left : (x y : Bool) → (x && y) ≡ true → x ≡ true
and_left true y is = refl
and_left false y is = absurd cc

pub and_right : (x y : Bool) → (x && y) ≡ true → y ≡ true
and_right true y is = is
and_right false y is = absurd cc

pub both : (x y : Bool) → x ≡ true → y ≡ true → (x && y) ≡ true
both x y a b = ap₂ (λ (s t : Bool). s && t) a b

pub not_false : (x : Bool) → not x ≡ true → x ≡ false
not_false true is = absurd cc
not_false false is = refl

or_right : (x y : Bool) → y ≡ true → (x || y) ≡ true
or_right true y is = refl
or_right false y is = is

or_left : (x y : Bool) → x ≡ true → (x || y) ≡ true
or_left true y is = refl
or_left false y is = absurd cc

clash : (x : Bool) → x ≡ true → x ≡ false → ⊥
clash true a b = absurd cc
clash false a b = absurd cc

by_both : {P : Type 0} (x : Bool) → (x ≡ true → P) → (x ≡ false → P) → P
by_both true is_so isnt = is_so refl
by_both false is_so isnt = isnt refl

range_all : (p : ℕ → Bool) (n from : ℕ) → ((k : ℕ) → from ≤ k → k < from + n → p k ≡ true) → list_all p (range_with_len from n) ≡ true
range_all p zero from each = refl
range_all p (suc n) from each = both (p from) (list_all p (range_with_len (from + 1) n)) (each from (omega arith) (omega arith)) (range_all p n (from + 1) (λ k le lt. each k (omega (arith, le)) (omega (arith, lt))))

all_range : (p : ℕ → Bool) (n from k : ℕ) → list_all p (range_with_len from n) ≡ true → from ≤ k → k < from + n → p k ≡ true
all_range p zero from k all le lt = absurd (omega (arith, le, lt))
all_range p (suc n) from k all le lt = by_both (nat_lt from k)
    (λ later. all_range p n (from + 1) k (and_right (p from) (list_all p (range_with_len (from + 1) n)) all) (let l = ltb-true from k later in omega (arith, l)) (omega (arith, lt)))
    (λ here. let e : from ≡ k = same here in subst (λ (j : ℕ). p j ≡ true) e (and_left (p from) (list_all p (range_with_len (from + 1) n)) all))
  where
    same : nat_lt from k ≡ false → from ≡ k
    same isnt = at_most (k - from) refl
      where
        at_most : (d : ℕ) → k - from ≡ d → from ≡ k
        at_most zero is = omega (arith, is, le)
        at_most (suc d) is = absurd (clash (nat_lt from k) (lt-ltb from k (omega (arith, is))) isnt)

any_range : {P : Type 0} (p : ℕ → Bool) (n from : ℕ) → list_any p (range_with_len from n) ≡ true → ((k : ℕ) → k < from + n → p k ≡ true → P) → P
any_range p zero from some each = absurd cc
any_range p (suc n) from some each = by_both (p from) (λ here. each from (omega arith) here)
    (λ none. any_range p n (from + 1) (later none) (λ k lt is. each k (omega (arith, lt)) is))
  where
    later : p from ≡ false → list_any p (range_with_len (from + 1) n) ≡ true
    later none = sym (ap (λ (x : Bool). x || list_any p (range_with_len (from + 1) n)) none) ∙ some

-- ---- the runs of the log

within_is : (first count s : ℕ) → is_within first count s ≡ true → (first ≤ s) × (s < first + count)
within_is first count s is = (leb-true first s (and_left (nat_le first s) (nat_lt s (first + count)) is), ltb-true s (first + count) (and_right (nat_le first s) (nat_lt s (first + count)) is))

module _ (b : Block) (s : ℕ) (low : b.first ≤ s) (high : s < b.first + sectors b.kind) where
  in_run : (e : Extent) (n : ℕ) → n < e.sectors → e.first + n ≡ s → meets_run b e ≡ true
  in_run e n lt at = both (nat_lt 0 e.sectors) (nat_lt b.first (e.first + e.sectors) && nat_lt e.first (b.first + sectors b.kind)) (lt-ltb 0 e.sectors (omega (arith, lt)))
      (both (nat_lt b.first (e.first + e.sectors)) (nat_lt e.first (b.first + sectors b.kind)) (lt-ltb b.first (e.first + e.sectors) (omega (arith, low, lt, at))) (lt-ltb e.first (b.first + sectors b.kind) (omega (arith, high, at))))

  some_same : (x y : ℕ) → Some x ≡ Some y → x ≡ y
  some_same x y e = cc

  in_runs : (runs : List Extent) (n : ℕ) → sector_in runs n ≡ Some s → list_any (meets_run b) runs ≡ true
  in_runs [] n is = absurd cc
  in_runs (e ∷ runs) n is = by_both (nat_lt n e.sectors)
      (λ here. or_left (meets_run b e) (list_any (meets_run b) runs) (in_run e n (ltb-true n e.sectors here) (some_same (e.first + n) s (sym (ap (λ (x : Bool). if x then Some (e.first + n) else sector_in runs (n - e.sectors)) here) ∙ is))))
      (λ later. or_right (meets_run b e) (list_any (meets_run b) runs) (in_runs runs (n - e.sectors) (sym (ap (λ (x : Bool). if x then Some (e.first + n) else sector_in runs (n - e.sectors)) later) ∙ is)))

  below_is : (count : ℕ) (o : Option ℕ) → sector_below count o ≡ Some s → o ≡ Some s
  below_is count None is = absurd cc
  below_is count (Some x) is = by_both (nat_lt x count)
      (λ here. sym (ap (λ (t : Bool). if t then Some x else None) here) ∙ is)
      (λ past. absurd (let e : None ≡ Some s = sym (ap (λ (t : Bool). if t then Some x else None) past) ∙ is in cc))

  in_log : (place : LogPlace) (n : ℕ) → log_sector place n ≡ Some s → sector_in place.runs n ≡ Some s
  in_log place n is = by_both (nat_lt (512 * n) place.initialised)
      (λ here. below_is place.device (sector_in place.runs n) (sym (ap (λ (t : Bool). if t then sector_below place.device (sector_in place.runs n) else None) here) ∙ is))
      (λ past. absurd (let e : None ≡ Some s = sym (ap (λ (t : Bool). if t then sector_below place.device (sector_in place.runs n) else None) past) ∙ is in cc))

  page_first_is : (place : LogPlace) (k first : ℕ) → IsPageAt place k first → page_first place k ≡ first
  page_first_is place k first p =
      ap (λ (n : ℕ). unwrap_or (log_sector place n) 0) (at_zero (8 * k)) ∙ ap (λ (o : Option ℕ). unwrap_or o 0) (p.row 0 (omega arith)) ∙ sym (at_zero first)
    where
      at_zero : (n : ℕ) → n ≡ n + 0
      at_zero n = omega arith

  on_page : (place : LogPlace) → IsRingPlace place → (k : ℕ) → k < place.pages → is_within (page_first place k) 8 s ≡ true → list_any (meets_run b) place.runs ≡ true
  on_page place ring k lt within =
      let page = ring.pages k lt in
      let at = within_is (page_first place k) 8 s within in
      let first : page_first place k ≡ page.0 = page_first_is place k page.0 page.1 in
      let i : ℕ = s - page.0 in
      in_runs place.runs (8 * k + i) (in_log place (8 * k + i) (page.1.row i (omega (arith, at.0, at.1, first)) ∙ ap (λ (n : ℕ). Some n) (omega (arith, at.0, first))))

  in_found : (bs : List Block) → list_any (λ (d : Block). is_within d.first (sectors d.kind) s) bs ≡ true → list_any (overlap b) bs ≡ true
  in_found [] is = absurd cc
  in_found (d ∷ bs) is = by_both (is_within d.first (sectors d.kind) s)
      (λ here. or_left (overlap b d) (list_any (overlap b) bs) (meets (within_is d.first (sectors d.kind) s here)))
      (λ none. or_right (overlap b d) (list_any (overlap b) bs) (in_found bs (sym (ap (λ (x : Bool). x || list_any (λ (y : Block). is_within y.first (sectors y.kind) s) bs) none) ∙ is)))
    where
      meets : (d.first ≤ s) × (s < d.first + sectors d.kind) → overlap b d ≡ true
      meets at = both (nat_lt b.first (d.first + sectors d.kind)) (nat_lt d.first (b.first + sectors b.kind)) (lt-ltb b.first (d.first + sectors d.kind) (omega (arith, low, at.1))) (lt-ltb d.first (b.first + sectors b.kind) (omega (arith, high, at.0)))

  no_own : (place : LogPlace) (found : List Block) → IsRingPlace place → list_any (meets_run b) place.runs ≡ false → list_any (overlap b) found ≡ false → not (is_own place found s) ≡ true
  no_own place found ring beside off = by_both (is_own place found s) (λ own. absurd (by_both (list_any (λ k. is_within (page_first place k) 8 s) (range_with_len 0 place.pages))
      (λ paged. any_range (λ k. is_within (page_first place k) 8 s) place.pages 0 paged (λ k lt is. clash (list_any (meets_run b) place.runs) (on_page place ring k (omega (arith, lt)) is) beside))
      (λ none. clash (list_any (overlap b) found) (in_found found (sym (ap (λ (x : Bool). x || list_any (λ (y : Block). is_within y.first (sectors y.kind) s) found) none) ∙ own)) off)))
      (λ free. ap not free)

pub free_apart : (place : LogPlace) (found : List Block) (b : Block) → IsRingPlace place → list_any (meets_run b) place.runs ≡ false → list_any (overlap b) found ≡ false → is_free (is_own place found) b ≡ true
free_apart place found b ring beside off = range_all (λ s. not (is_own place found s)) (sectors b.kind) b.first (λ s low high. no_own b s low high place found ring beside off)

-- ---- and of a known block

meets_at : (b d : Block) → overlap b d ≡ true → 0 < sectors b.kind → 0 < sectors d.kind → (s : ℕ) × ((b.first ≤ s) × (s < b.first + sectors b.kind)) × (is_within d.first (sectors d.kind) s ≡ true)
meets_at b d is some other =
    let left = ltb-true b.first (d.first + sectors d.kind) (and_left (nat_lt b.first (d.first + sectors d.kind)) (nat_lt d.first (b.first + sectors b.kind)) is) in
    let right = ltb-true d.first (b.first + sectors b.kind) (and_right (nat_lt b.first (d.first + sectors d.kind)) (nat_lt d.first (b.first + sectors b.kind)) is) in
    by_both (nat_le b.first d.first)
    (λ low. (d.first, (leb-true b.first d.first low, right), both (nat_le d.first d.first) (nat_lt d.first (d.first + sectors d.kind)) (le-leb d.first d.first (omega arith)) (lt-ltb d.first (d.first + sectors d.kind) (omega (arith, other)))))
    (λ high. let more : d.first ≤ b.first = at_least high in (b.first, (omega arith, omega (arith, some)), both (nat_le d.first b.first) (nat_lt b.first (d.first + sectors d.kind)) (le-leb d.first b.first more) (lt-ltb b.first (d.first + sectors d.kind) left)))
  where
    at_least : nat_le b.first d.first ≡ false → d.first ≤ b.first
    at_least isnt = by_order (b.first - d.first) refl
      where
        by_order : (n : ℕ) → b.first - d.first ≡ n → d.first ≤ b.first
        by_order zero is = absurd (clash (nat_le b.first d.first) (le-leb b.first d.first (omega (arith, is))) isnt)
        by_order (suc n) is = omega (arith, is)

pub found_apart : (place : LogPlace) (found : List Block) (b : Block) → ((d : Block) → 0 < sectors d.kind) → is_free (is_own place found) b ≡ true → list_any (overlap b) found ≡ false
found_apart place found b sized free = go found (λ s is. or_right (list_any (λ k. is_within (page_first place k) 8 s) (range_with_len 0 place.pages)) (list_any (λ (y : Block). is_within y.first (sectors y.kind) s) found) is)
  where
    go : (bs : List Block) → ((s : ℕ) → list_any (λ (y : Block). is_within y.first (sectors y.kind) s) bs ≡ true → is_own place found s ≡ true) → list_any (overlap b) bs ≡ false
    go [] own = refl
    go (d ∷ bs) own = by_both (overlap b d)
        (λ meets. absurd (let at = meets_at b d meets (sized b) (sized d) in
        clash (is_own place found at.0) (own at.0 (or_left (is_within d.first (sectors d.kind) at.0) (list_any (λ (y : Block). is_within y.first (sectors y.kind) at.0) bs) at.2))
        (not_false (is_own place found at.0) (all_range (λ s. not (is_own place found s)) (sectors b.kind) b.first at.0 free at.1.0 at.1.1))))
        (λ none. ap (λ (x : Bool). x || list_any (overlap b) bs) none ∙ go bs (λ s is. own s (or_right (is_within d.first (sectors d.kind) s) (list_any (λ (y : Block). is_within y.first (sectors y.kind) s) bs) is)))
