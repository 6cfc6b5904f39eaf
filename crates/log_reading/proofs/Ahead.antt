-- The runs that are left of a log, and the pages that were passed over.
use Rattle.std.proofs.Common.{◌≡◌, ℕ, ◌+◌, ◌-◌, ◌*◌, ◌<◌, ◌≤◌, Bool, true, false, List, [], ◌∷◌, length, get_or, drop, Option, Some, None, refl, sym, ap, ◌∙◌, ⊎_elim, arith}
use Rattle.std.specs.Prelude.{if◌then◌else◌, nat_lt}
use Rattle.std.proofs.lemmas.Bool.{ltb-true, ltb-false, lt-ltb, le-ltb, and_from, and_parts, cases_lt}
use Rattle.std.proofs.lemmas.List.{drop_more, drop_all}
use Rattle.log_page.specs.declared.places.Extent.{Extent}
use Rattle.log_page.specs.declared.places.LogPlace.{LogPlace}
use Rattle.log_reading.specs.declared.laps.Sought.{Sought}
use Rattle.log_reading.specs.LogPages.{sector_in, sector_below, log_sector}
use Rattle.log_reading.specs.Laps.{is_read, NoneBetween, IsNext, IsBehind}

-- ---- sectors

-- a sector after a run
pub passed : (run : Extent) (runs : List Extent) (n m : ℕ) → n ≡ run.sectors + m → sector_in (run ∷ runs) n ≡ sector_in runs m
passed run runs n m e =
    let rest : n - run.sectors ≡ m = omega arith in
    ap (λ (b : Bool). if b then Some (run.first + n) else sector_in runs (n - run.sectors)) (le-ltb n run.sectors (omega arith)) ∙ ap (sector_in runs) rest

-- one of a run
pub inside : (run : Extent) (runs : List Extent) (n : ℕ) → n < run.sectors → sector_in (run ∷ runs) n ≡ Some (run.first + n)
inside run runs n lt = ap (λ (b : Bool). if b then Some (run.first + n) else sector_in runs (n - run.sectors)) (lt-ltb n run.sectors lt)

above : (device s : ℕ) → sector_below device (Some s) ≡ None → device ≤ s
above device s e = by_cases (nat_lt s device) refl
  where
    by_cases : (b : Bool) → nat_lt s device ≡ b → device ≤ s
    by_cases true is = absurd (clash (sym (ap (λ (t : Bool). if t then Some s else None) is) ∙ e))
      where
        clash : Some s ≡ None → ⊥
        clash x = cc
    by_cases false is = ltb-false s device is

-- where one of a run is past the device's end, each after it in the run is
past_end : (device : ℕ) (run : Extent) (runs : List Extent) (a n : ℕ) → a ≤ n → n < run.sectors → sector_below device (sector_in (run ∷ []) a) ≡ None → sector_below device (sector_in (run ∷ runs) n) ≡ None
past_end device run runs a n le lt none =
    let first : device ≤ run.first + a = above device (run.first + a) (sym (ap (sector_below device) (inside run [] a (omega arith))) ∙ none) in
    ap (sector_below device) (inside run runs n lt) ∙ ap (λ (b : Bool). if b then Some (run.first + n) else None) (le-ltb (run.first + n) device (omega arith))

-- one that lies in the first run lies there whatever follows
in_first : (device : ℕ) (run : Extent) (runs : List Extent) (n s : ℕ) → sector_below device (sector_in (run ∷ []) n) ≡ Some s → sector_below device (sector_in (run ∷ runs) n) ≡ Some s
in_first device run runs n s some = by_cases (nat_lt n run.sectors) refl
  where
    by_cases : (b : Bool) → nat_lt n run.sectors ≡ b → sector_below device (sector_in (run ∷ runs) n) ≡ Some s
    by_cases true is =
        let lt = ltb-true n run.sectors is in
        ap (sector_below device) (inside run runs n lt ∙ sym (inside run [] n lt)) ∙ some
    by_cases false is = absurd (clash (sym (ap (λ (t : Bool). sector_below device (if t then Some (run.first + n) else None)) is) ∙ some))
      where
        clash : None ≡ Some s → ⊥
        clash x = cc

-- ---- pages

if_none : (b : Bool) (o : Option ℕ) → o ≡ None → (if b then o else None) ≡ None
if_none true o e = e
if_none false o e = refl

none_at : (place : LogPlace) (n : ℕ) (o : Option ℕ) → sector_in place.runs n ≡ o → sector_below place.device o ≡ None → log_sector place n ≡ None
none_at place n o is none = if_none (nat_lt (512 * n) place.initialised) (sector_below place.device (sector_in place.runs n)) (ap (sector_below place.device) is ∙ none)

-- from a page on that isn't read none is
unread : (place : LogPlace) (from : ℕ) → is_read place from ≡ false → NoneBetween place from place.pages
unread place from not_read n le lt = by_cases (nat_lt (512 * (8 * n)) place.initialised) refl
  where
    clash : true ≡ false → ⊥
    clash x = cc

    by_cases : (b : Bool) → nat_lt (512 * (8 * n)) place.initialised ≡ b → log_sector place (8 * n) ≡ None
    by_cases true is =
        let small = ltb-true (512 * (8 * n)) place.initialised is in
        absurd (clash (sym (and_from (nat_lt from place.pages) (nat_lt (4096 * from) place.initialised) (lt-ltb from place.pages (omega arith)) (lt-ltb (4096 * from) place.initialised (omega arith))) ∙ not_read))
    by_cases false is = ap (λ (b : Bool). if b then sector_below place.device (sector_in place.runs (8 * n)) else None) is

-- ---- the walk

-- none of the pages up to the one that is sought begins on the device, and it and those after it begin where the runs that are left say
pub record IsSought (place : LogPlace) (from index : ℕ) (sought : Sought) : Type 0 where
  pub later : from ≤ sought.page
  pub between : NoneBetween place from sought.page
  pub rest : (k : ℕ) → sector_in place.runs (8 * (sought.page + k)) ≡ sector_in (drop index place.runs) (8 * k + sought.ahead)

pub begun : (place : LogPlace) (sought : Sought) → sought.ahead ≡ 8 * sought.page → IsSought place sought.page 0 sought
begun place sought e = record {
  later = omega arith;
  between = λ n le lt. absurd (omega arith);
  rest = λ k. (let same : 8 * (sought.page + k) ≡ 8 * k + sought.ahead = omega arith in ap (sector_in place.runs) same);
}

-- the run that is next
run_here : (runs : List Extent) (index : ℕ) (d run : Extent) → index < length runs → run ≡ get_or runs index d → drop index runs ≡ run ∷ drop (index + 1) runs
run_here runs index d run lt is = drop_more runs index d lt ∙ ap (λ (r : Extent). r ∷ drop (index + 1) runs) (sym is)

-- it is passed over with the pages that begin in it past the device's end
pub run_passed : (place : LogPlace) (from index : ℕ) (d run : Extent) (old new : Sought) → index < length place.runs → run ≡ get_or place.runs index d → sector_below place.device (sector_in (run ∷ []) old.ahead) ≡ None
    → IsBehind run.sectors old new → IsSought place from index old → IsSought place from (index + 1) new
run_passed place from index d run old new lt is none next so_far = record {
  later = omega (arith, next.later, so_far.later);
  between = λ n le below. ⊎_elim (λ (h : n < old.page). so_far.between n le h) (λ (h : old.page ≤ n). in_run n h below) (cases_lt n old.page);
  rest = after;
}
  where
    at : (j : ℕ) → sector_in place.runs (8 * (old.page + j)) ≡ sector_in (run ∷ drop (index + 1) place.runs) (8 * j + old.ahead)
    at j = so_far.rest j ∙ ap (λ (rs : List Extent). sector_in rs (8 * j + old.ahead)) (run_here place.runs index d run lt is)

    in_run : (n : ℕ) → old.page ≤ n → n < new.page → log_sector place (8 * n) ≡ None
    in_run n le below =
        let j : ℕ = n - old.page in
        let same : 8 * n ≡ 8 * (old.page + j) = omega arith in
        let few = next.between n le below in
        none_at place (8 * n) (sector_in (run ∷ drop (index + 1) place.runs) (8 * j + old.ahead)) (ap (sector_in place.runs) same ∙ at j)
        (past_end place.device run (drop (index + 1) place.runs) old.ahead (8 * j + old.ahead) (omega arith) (omega arith) none)

    after : (k : ℕ) → sector_in place.runs (8 * (new.page + k)) ≡ sector_in (drop (index + 1) place.runs) (8 * k + new.ahead)
    after k =
        let j : ℕ = new.page - old.page + k in
        let same : 8 * (new.page + k) ≡ 8 * (old.page + j) = omega (arith, next.later) in
        ap (sector_in place.runs) same ∙ at j ∙ passed run (drop (index + 1) place.runs) (8 * j + old.ahead) (8 * k + new.ahead) (omega (arith, next.later, next.ahead))

-- the page that is sought begins in it
pub page_found : (place : LogPlace) (from index : ℕ) (d run : Extent) (sought : Sought) (s : ℕ) → index < length place.runs → run ≡ get_or place.runs index d → is_read place sought.page ≡ true → sector_below place.device (sector_in (run ∷ []) sought.ahead) ≡ Some s
    → IsSought place from index sought → IsNext place from (record { page = sought.page; sector = s })
page_found place from index d run sought s lt is read some so_far =
    let parts = and_parts (nat_lt sought.page place.pages) (nat_lt (4096 * sought.page) place.initialised) read in
    let known : 512 * (8 * sought.page) ≡ 4096 * sought.page = omega arith in
    let here : 8 * sought.page ≡ 8 * (sought.page + 0) = omega arith in
    let ahead : 8 * 0 + sought.ahead ≡ sought.ahead = omega arith in
    let tail = drop (index + 1) place.runs in
    let lies : sector_in place.runs (8 * sought.page) ≡ sector_in (run ∷ tail) sought.ahead =
    ap (sector_in place.runs) here ∙ so_far.rest 0 ∙ ap (λ (rs : List Extent). sector_in rs (8 * 0 + sought.ahead)) (run_here place.runs index d run lt is) ∙ ap (sector_in (run ∷ tail)) ahead in
    record {
      later = so_far.later;
      inside = ltb-true sought.page place.pages parts.0;
      sector = ap (λ (b : Bool). if b then sector_below place.device (sector_in place.runs (8 * sought.page)) else None) (ap (λ (at : ℕ). nat_lt at place.initialised) known ∙ parts.1) ∙ ap (sector_below place.device) lies ∙ in_first place.device run tail sought.ahead s some;
      between = so_far.between;
    }

-- the page that is sought isn't read
pub none_read : (place : LogPlace) (from index : ℕ) (sought : Sought) → is_read place sought.page ≡ false → IsSought place from index sought → NoneBetween place from place.pages
none_read place from index sought read so_far n le lt =
    ⊎_elim (λ (h : n < sought.page). so_far.between n le h) (λ (h : sought.page ≤ n). unread place sought.page read n h lt) (cases_lt n sought.page)

-- no run is left
pub none_left : (place : LogPlace) (from index : ℕ) (sought : Sought) → length place.runs ≤ index → IsSought place from index sought → NoneBetween place from place.pages
none_left place from index sought past so_far n le lt = ⊎_elim (λ (h : n < sought.page). so_far.between n le h) (λ (h : sought.page ≤ n). after h) (cases_lt n sought.page)
  where
    after : sought.page ≤ n → log_sector place (8 * n) ≡ None
    after h =
        let j : ℕ = n - sought.page in
        let same : 8 * n ≡ 8 * (sought.page + j) = omega arith in
        none_at place (8 * n) None (ap (sector_in place.runs) same ∙ so_far.rest j ∙ ap (λ (rs : List Extent). sector_in rs (8 * j + sought.ahead)) (drop_all index place.runs past)) refl
