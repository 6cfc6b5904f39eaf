-- What the walks over a log's runs say of its place.
use Rattle.std.proofs.Common.{◌≡◌, ℕ, zero, suc, ◌+◌, ◌-◌, ◌*◌, ◌/◌, ◌%◌, ◌^◌, ◌<◌, ◌≤◌, ◌↔◌, min, Bool, true, false, List, Option, Some, None, refl, sym, ap, ◌∙◌, subst, ⊎_elim, arith}
use Rattle.std.specs.Prelude.{if◌then◌else◌, nat_le, nat_lt, ◌&&◌}
use Rattle.std.specs.List.Sorted.{IsPermutation, IsNonDecreasingBy}
use Rattle.std.proofs.lemmas.Bool.{leb-true, ltb-true, le-leb, lt-ltb, and_from, and_parts, cases_lt}
use Rattle.log_page.specs.declared.places.Extent.{Extent}
use Rattle.log_page.specs.declared.places.LogPlace.{LogPlace}
use Rattle.log_reading.specs.LogPages.{sector_in, sector_below, log_sector}
use Rattle.log_reading.specs.Rings.{IsPageAt, IsRingPlace}
use Rattle.log_reading.specs.Rows.{front_runs, are_whole, are_apart, has_ring}
use Rattle.log_reading.proofs.FrontRuns.{front_filled, front_sector}
use Rattle.log_reading.proofs.PageRows.{Stands, same_sector, no_sector, all_stand, are_whole_by}
use Rattle.log_reading.proofs.SharedSectors.{times, times-permutation, Rise, sorted_rise, apart_once, once_apart, held_twice, is_held_twice}

abbrev pub sectors_of : LogPlace → ℕ
sectors_of place = 8 * place.pages

abbrev pub limit_of : LogPlace → ℕ
limit_of place = min place.device (8 * place.clusters)

-- the runs of its pages
abbrev pub parts_of : LogPlace → List Extent
parts_of place = front_runs place.runs (8 * place.pages)

-- ---- a sector of the log

if_some : (b : Bool) (o : Option ℕ) (s : ℕ) → (if b then o else None) ≡ Some s → (b ≡ true) × (o ≡ Some s)
if_some true o s is = (refl, is)
if_some false o s is = no_sector s is

from_below : (device : ℕ) (o : Option ℕ) (s : ℕ) → sector_below device o ≡ Some s → (o ≡ Some s) × (s < device)
from_below device None s is = no_sector s is
from_below device (Some t) s is =
    let parts = if_some (nat_lt t device) (Some t) s is in
    let same = same_sector t s parts.1 in
    (parts.1, omega (arith, ltb-true t device parts.0))

from_log : (place : LogPlace) (n s : ℕ) → log_sector place n ≡ Some s → (sector_in place.runs n ≡ Some s) × (s < place.device)
from_log place n s is = from_below place.device (sector_in place.runs n) s (if_some (nat_lt (512 * n) place.initialised) (sector_below place.device (sector_in place.runs n)) s is).1

to_log : (place : LogPlace) (n s : ℕ) → 512 * n < place.initialised → sector_in place.runs n ≡ Some s → s < place.device → log_sector place n ≡ Some s
to_log place n s less is inside =
    ap (λ (b : Bool). if b then sector_below place.device (sector_in place.runs n) else None) (lt-ltb (512 * n) place.initialised less)
    ∙ ap (sector_below place.device) is
    ∙ ap (λ (b : Bool). if b then Some s else None) (lt-ltb s place.device inside)

-- ---- its size

record HasRing (place : LogPlace) : Type 0 where
  ring : 4 < place.pages
  small : place.pages < 2 ^ 52
  initialised : 4096 * place.pages ≤ place.initialised

ring_from : (place : LogPlace) → has_ring place ≡ true → HasRing place
ring_from place is =
    let all = and_parts (nat_lt 4 place.pages && nat_lt place.pages (2 ^ 52)) (nat_le (4096 * place.pages) place.initialised) is in
    let few = and_parts (nat_lt 4 place.pages) (nat_lt place.pages (2 ^ 52)) all.0 in
    record { ring = ltb-true 4 place.pages few.0; small = ltb-true place.pages (2 ^ 52) few.1; initialised = leb-true (4096 * place.pages) place.initialised all.1 }

ring_by : (place : LogPlace) → IsRingPlace place → has_ring place ≡ true
ring_by place ring =
    let least = ring.ring in
    let last = ring.pages (place.pages - 1) (omega arith) in
    let all = last.1.initialised in
    and_from (nat_lt 4 place.pages && nat_lt place.pages (2 ^ 52)) (nat_le (4096 * place.pages) place.initialised)
    (and_from (nat_lt 4 place.pages) (nat_lt place.pages (2 ^ 52)) (lt-ltb 4 place.pages least) (lt-ltb place.pages (2 ^ 52) ring.small))
    (le-leb (4096 * place.pages) place.initialised (omega arith))

-- ---- its pages

abbrev StandsAt : LogPlace → ℕ → Type 0
StandsAt place n = Stands (limit_of place) (sectors_of place) 0 (parts_of place) n

-- a page whose first sector stands like this
page_here : (place : LogPlace) → HasRing place → ((n : ℕ) → n < sectors_of place → StandsAt place n) → (n : ℕ) → n < place.pages → (t : StandsAt place (8 * n)) → IsPageAt place n t.sector
page_here place has stands n inside t =
    let even = t.even in
    let below = t.below in
    record {
      begun = omega arith;
      volume = omega arith;
      row = λ i lt. lies i lt;
      initialised = omega (arith, has.initialised);
    }
  where
    along : (i : ℕ) → i < 8 → sector_in (parts_of place) (8 * n + i) ≡ Some (t.sector + i)
    along zero lt =
        let here : 8 * n + 0 ≡ 8 * n = omega arith in
        let same : t.sector ≡ t.sector + 0 = omega arith in
        ap (sector_in (parts_of place)) here ∙ t.is ∙ ap Some same
    along (suc i) lt =
        let u = stands (8 * n + suc i) (omega arith) in
        let next : u.sector ≡ t.sector + i + 1 = u.next (8 * n + i) (t.sector + i) (omega arith) (omega arith) (along i (omega arith)) in
        let same : u.sector ≡ t.sector + suc i = omega arith in
        u.is ∙ ap Some same

    lies : (i : ℕ) → i < 8 → log_sector place (8 * n + i) ≡ Some (t.sector + i)
    lies i lt =
        let u = stands (8 * n + i) (omega arith) in
        let same : u.sector ≡ t.sector + i = same_sector u.sector (t.sector + i) (sym u.is ∙ along i lt) in
        let below = u.below in
        to_log place (8 * n + i) (t.sector + i) (omega (arith, has.initialised)) (sym (front_sector place.runs (8 * place.pages) (8 * n + i) (omega arith)) ∙ along i lt) (omega arith)

page_at : (place : LogPlace) → HasRing place → ((n : ℕ) → n < sectors_of place → StandsAt place n) → (n : ℕ) → n < place.pages → (first : ℕ) × IsPageAt place n first
page_at place has stands n inside = let t = stands (8 * n) (omega arith) in (t.sector, page_here place has stands n inside t)

-- a sector of a page that lies there
stands_in : (place : LogPlace) (s : ℕ) → s < sectors_of place → (first : ℕ) → IsPageAt place (s / 8) first → StandsAt place s
stands_in place s inside first page =
    let volume = page.volume in
    let begun = page.begun in
    let lies_there = lies (s % 8) (omega arith) in
    let device = on_device (s % 8) (omega arith) in
    let same : 8 * (s / 8) + s % 8 ≡ s = omega arith in
    record {
      sector = first + s % 8;
      is = sym (ap (sector_in (parts_of place)) same) ∙ lies_there;
      below = omega arith;
      even = omega arith;
      first = λ zero more. absurd (omega arith);
      next = λ m t e more is. right_behind m t (omega arith) (omega arith) is;
    }
  where
    on_device : (i : ℕ) → i < 8 → first + i < place.device
    on_device i lt = (from_log place (8 * (s / 8) + i) (first + i) (page.row i lt)).1

    lies : (i : ℕ) → i < 8 → sector_in (parts_of place) (8 * (s / 8) + i) ≡ Some (first + i)
    lies i lt = front_sector place.runs (8 * place.pages) (8 * (s / 8) + i) (omega arith) ∙ (from_log place (8 * (s / 8) + i) (first + i) (page.row i lt)).0

    right_behind : (m t : ℕ) → s ≡ m + 1 → 0 < s % 8 → sector_in (parts_of place) m ≡ Some t → first + s % 8 ≡ t + 1
    right_behind m t e more is =
        let same : 8 * (s / 8) + (s % 8 - 1) ≡ m = omega arith in
        let before : first + (s % 8 - 1) ≡ t = same_sector (first + (s % 8 - 1)) t (sym (lies (s % 8 - 1) (omega arith)) ∙ ap (sector_in (parts_of place)) same ∙ is) in
        omega arith

stands_by : (place : LogPlace) → IsRingPlace place → (s : ℕ) → s < sectors_of place → StandsAt place s
stands_by place ring s inside = let page = ring.pages (s / 8) (omega arith) in stands_in place s inside page.0 page.1

whole_by : (place : LogPlace) → IsRingPlace place → are_whole (limit_of place) (sectors_of place) 0 (parts_of place) ≡ true
whole_by place ring = are_whole_by (limit_of place) (sectors_of place) 0 (parts_of place) (front_filled place.runs (8 * place.pages)) (stands_by place ring)

-- ---- what is decided

false_is : (P : Type 0) → (P → ⊥) → (false ≡ true) ↔ P
false_is P never = (λ is. absurd (clash is), λ p. absurd (never p))
  where
    clash : false ≡ true → ⊥
    clash x = cc

pub no_ring : (place : LogPlace) → has_ring place ≡ false → (false ≡ true) ↔ IsRingPlace place
no_ring place none = false_is (IsRingPlace place) (λ ring. clash (sym none ∙ ring_by place ring))
  where
    clash : false ≡ true → ⊥
    clash x = cc

pub not_whole : (place : LogPlace) (parts : List Extent) → parts ≡ parts_of place → are_whole (limit_of place) (sectors_of place) 0 parts ≡ false → (false ≡ true) ↔ IsRingPlace place
not_whole place parts is none = false_is (IsRingPlace place) (λ ring. clash (sym none ∙ ap (are_whole (limit_of place) (sectors_of place) 0) is ∙ whole_by place ring))
  where
    clash : false ≡ true → ⊥
    clash x = cc

ring_of : (place : LogPlace) (sorted : List Extent) → has_ring place ≡ true → are_whole (limit_of place) (sectors_of place) 0 (parts_of place) ≡ true → IsPermutation (parts_of place) sorted → Rise 0 sorted → are_apart 0 0 sorted ≡ true → IsRingPlace place
ring_of place sorted is whole moved rise apart =
    let has = ring_from place is in
    let zero_even : (0 + sectors_of place) % 8 ≡ 0 = omega arith in
    record {
      ring = has.ring;
      small = has.small;
      pages = page_at place has (all_stand (limit_of place) (sectors_of place) 0 (parts_of place) (front_filled place.runs (8 * place.pages)) zero_even whole);
      apart = λ i j s lt inside one other. absurd (clash i j s lt inside one other);
    }
  where
    here : (n s : ℕ) → n < 8 * place.pages → log_sector place n ≡ Some s → sector_in (parts_of place) n ≡ Some s
    here n s lt at = front_sector place.runs (8 * place.pages) n lt ∙ (from_log place n s at).0

    clash : (i j s : ℕ) → i < j → j < 8 * place.pages → log_sector place i ≡ Some s → log_sector place j ≡ Some s → ⊥
    clash i j s lt inside one other =
        let two = held_twice (parts_of place) i j s lt (here i s (omega arith) one) (here j s inside other) in
        let single = (apart_once 0 0 sorted rise apart s).0 in
        omega (arith, times-permutation (parts_of place) sorted s moved)

apart_by : (place : LogPlace) (sorted : List Extent) → are_whole (limit_of place) (sectors_of place) 0 (parts_of place) ≡ true → IsPermutation (parts_of place) sorted → Rise 0 sorted → IsRingPlace place → are_apart 0 0 sorted ≡ true
apart_by place sorted whole moved rise ring = once_apart 0 0 sorted rise (λ x from to. absurd (omega arith)) (λ x. ⊎_elim (λ (h : 1 < times sorted x). absurd (two x h)) (λ (h : times sorted x ≤ 1). h) (cases_lt 1 (times sorted x)))
  where
    on_log : (n x : ℕ) → n < 8 * place.pages → sector_in (parts_of place) n ≡ Some x → log_sector place n ≡ Some x
    on_log n x lt at =
        let has = ring_from place (ring_by place ring) in
        let t = stands_by place ring n lt in
        let same : t.sector ≡ x = same_sector t.sector x (sym t.is ∙ at) in
        let below = t.below in
        to_log place n x (omega (arith, has.initialised)) (sym (front_sector place.runs (8 * place.pages) n lt) ∙ at) (omega arith)

    two : (x : ℕ) → 1 < times sorted x → ⊥
    two x more =
        let found = is_held_twice (8 * place.pages) (parts_of place) x (front_filled place.runs (8 * place.pages)) (omega (arith, times-permutation (parts_of place) sorted x moved)) in
        ring.apart found.0 found.1.0 x found.1.1.0 found.1.1.1.0 (on_log found.0 x (omega (arith, found.1.1.0, found.1.1.1.0)) found.1.1.1.1.0) (on_log found.1.0 x found.1.1.1.0 found.1.1.1.1.1)

decided : (place : LogPlace) (sorted : List Extent) → has_ring place ≡ true → are_whole (limit_of place) (sectors_of place) 0 (parts_of place) ≡ true → IsPermutation (parts_of place) sorted → IsNonDecreasingBy (λ (r : Extent). r.first) sorted
    → (are_apart 0 0 sorted ≡ true) ↔ IsRingPlace place
decided place sorted has whole moved rising =
    let rise = sorted_rise (8 * place.pages) (parts_of place) sorted (front_filled place.runs (8 * place.pages)) moved rising in
    (ring_of place sorted has whole moved rise, apart_by place sorted whole moved rise)

-- where its pages lie in rows, it is a ring's place exactly where its sorted runs are apart
pub is_ring : (place : LogPlace) (parts sorted : List Extent) → parts ≡ parts_of place → has_ring place ≡ true → are_whole (limit_of place) (sectors_of place) 0 parts ≡ true → IsPermutation parts sorted → IsNonDecreasingBy (λ (r : Extent). r.first) sorted
    → (are_apart 0 0 sorted ≡ true) ↔ IsRingPlace place
is_ring place parts sorted is has whole moved rising =
    decided place sorted has (sym (ap (are_whole (limit_of place) (sectors_of place) 0) is) ∙ whole) (subst (λ (runs : List Extent). IsPermutation runs sorted) is moved) rising
