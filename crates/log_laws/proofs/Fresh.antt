-- The next lap is above those that are said, and no page is whole at it.
use Rattle.std.proofs.Common.{◌≡◌, ℕ, ◌+◌, ◌*◌, ◌/◌, ◌^◌, ◌<◌, ◌≤◌, Bool, true, false, cond, nat_eq, List, [], length, take, slice_index, Option, Some, None, refl, sym, ap, ◌∙◌, inl, inr, arith}
use Rattle.std.specs.List.{starts_with}
use Rattle.std.specs.Cmp.Lexicographic.{pointwise}
use Rattle.std.proofs.lemmas.Bool.{cases_Bool, cases_lt}
use Rattle.std.proofs.lemmas.List.{ext_get_or, get_or-take, get_or_past, length-take}
use Rattle.std.proofs.lemmas.Nat.{le-div}
use Rattle.std.proofs.Math.Nat.{one-le-pow, div-mul-le_self, div-lt_iff_lt-mul}
use Rattle.log_page.specs.disk_model.Numbers.{field}
use Rattle.log_page.specs.disk_model.Fixups.{restored}
use Rattle.log_page.proofs.disk_model.Fields.{field_same}
use Rattle.log_page.proofs.disk_model.Protection.{length-restored, slice_index-restored, true_byte-within}
use Rattle.log_page.specs.declared.restart.Restart.{Restart}
use Rattle.log_page.specs.Places.{page_bytes, first_page, entries_at, place_bits, lsn_at, lap_of, page_of, page_lsn, is_in_ring}
use Rattle.log_page.specs.RecordPages.{no_reading, record_signature, last_lsn, is_whole_page}
use Rattle.log_page.specs.LiveLogs.{live_log, said_lsn, greatest_lsn, lap_above, next_lap}
use Rattle.log_page.proofs.PlacesFit.{says_place}
use Rattle.log_laws.specs.Tables.{lap_behind, kth_page, is_kth_whole}
use Rattle.log_laws.specs.NextLaps.{IsSaid, IsGreatest}
use Rattle.log_laws.proofs.Behind.{none_behind}
use Rattle.log_laws.proofs.Logs.{outside, oldest_begun, oldest_inside, table_read}
use Rattle.log_laws.proofs.Ringing.{whole_parts}
use Rattle.log_laws.proofs.Greatest.{AtLeast, all_below, found_greatest, found_none}

-- ---- laps of LSNs

width_some : (pages : ℕ) → 0 < 2 ^ place_bits pages
width_some pages = let some : 1 ≤ 2 ^ place_bits pages = one-le-pow (place_bits pages) 2 (omega arith) in omega arith

laps_rise : (pages a b : ℕ) → a ≤ b → lap_of pages a ≤ lap_of pages b
laps_rise pages a b le =
    let w = 2 ^ place_bits pages in
    let back = div-mul-le_self a w in
    let fits : a / w * w ≤ b = omega arith in
    le-div (a / w) b w (width_some pages) fits

before_lap : (pages lsn lap offset : ℕ) → lap_of pages lsn < lap → lsn < lsn_at pages lap offset
before_lap pages lsn lap offset lt =
    let w = 2 ^ place_bits pages in
    let below : lsn < lap * w = (div-lt_iff_lt-mul (width_some pages)).0 lt in
    let place = offset / 8 in
    omega arith

-- ---- the next lap

pub next_is : (pages : ℕ) (raw : ℕ → List ℕ) (chosen : Option Restart) (lsn : ℕ) → IsGreatest pages raw chosen lsn → next_lap pages raw chosen ≡ 1 + lap_of pages lsn
next_is pages raw chosen lsn most = ap (lap_above pages) (found_greatest pages raw chosen lsn most)

pub first_is : (pages : ℕ) (raw : ℕ → List ℕ) (chosen : Option Restart) → ((lsn : ℕ) → IsSaid pages raw chosen lsn → ⊥) → next_lap pages raw chosen ≡ 1
first_is pages raw chosen none = ap (lap_above pages) (found_none pages raw chosen none)

pub above : (pages : ℕ) (raw : ℕ → List ℕ) (chosen : Option Restart) (lsn : ℕ) → IsSaid pages raw chosen lsn → lap_of pages lsn < next_lap pages raw chosen
above pages raw chosen lsn said = by (all_below pages raw chosen lsn said)
  where
    by : AtLeast (greatest_lsn pages raw chosen) lsn → lap_of pages lsn < next_lap pages raw chosen
    by (g, is, le) =
        let next : next_lap pages raw chosen ≡ 1 + lap_of pages g = ap (lap_above pages) is in
        let rise = laps_rise pages lsn g le in
        omega arith

pub greater_from : (pages : ℕ) (raw : ℕ → List ℕ) (chosen : Option Restart) (lsn lap offset : ℕ) → IsSaid pages raw chosen lsn → next_lap pages raw chosen ≤ lap → lsn < lsn_at pages lap offset
greater_from pages raw chosen lsn lap offset said le = let lt = above pages raw chosen lsn said in before_lap pages lsn lap offset (omega arith)

-- ---- the front of a page as it stands on the disk

same_byte : (raw : List ℕ) (i : ℕ) → i < 510 → slice_index (restored raw) i ≡ slice_index raw i
same_byte raw i few = elim (cases_lt i (length raw)) [
  | inl lt ↦ slice_index-restored raw i lt ∙ true_byte-within raw i (omega arith)
  | inr past ↦ get_or_past (restored raw) i 0 (omega (arith, length-restored raw)) ∙ sym (get_or_past raw i 0 past)
]

same_front : (raw : List ℕ) (n : ℕ) → n < 510 → take n (restored raw) ≡ take n raw
same_front raw n few =
    let size = length-restored raw in
    let short = length-take n (restored raw) in
    let short' = length-take n raw in
    ext_get_or 0 (take n (restored raw)) (take n raw) (omega arith) (λ i lt.
    let inside : i < n = omega arith in
    get_or-take n (restored raw) i 0 inside ∙ same_byte raw i (omega arith) ∙ sym (get_or-take n raw i 0 inside))

says_last : (raw : List ℕ) → starts_with nat_eq (restored raw) record_signature ≡ true → said_lsn raw ≡ Some (last_lsn (restored raw))
says_last raw begins =
    let same : starts_with nat_eq raw record_signature ≡ true = ap (pointwise nat_eq record_signature) (sym (same_front raw 4 (omega arith))) ∙ begins in
    let lsn : field 0x08 8 (restored raw) ≡ field 0x08 8 raw = field_same 0x08 0x08 8 (restored raw) raw (λ k lt. same_byte raw (0x08 + k) (omega arith)) in
    ap (λ (b : Bool). cond b (Some (field 0x08 8 raw)) None) same ∙ ap Some (sym lsn)

-- a page that is whole says an LSN of the lap of its place
pub whole_says : (pages : ℕ) (raw : List ℕ) (lap page : ℕ) → page_bytes * pages < 2 ^ 64 → page < pages → is_whole_page pages raw (page_lsn pages lap page) ≡ true → (lsn : ℕ) × (said_lsn raw ≡ Some lsn) × (lap_of pages lsn ≡ lap)
whole_says pages raw lap page small inside whole =
    let parts = whole_parts pages raw (page_lsn pages lap page) whole in
    (last_lsn (restored raw), says_last raw parts.begins, parts.lap ∙ (says_place pages lap (page_bytes * page + entries_at) small (omega arith) (omega arith)).0)

pub none_whole : (pages : ℕ) (raw : ℕ → List ℕ) (chosen : Option Restart) (lap page : ℕ) → page_bytes * pages < 2 ^ 64 → first_page ≤ page → page < pages → next_lap pages raw chosen ≤ lap → is_whole_page pages (raw page) (page_lsn pages lap page) ≡ false
none_whole pages raw chosen lap page small begun inside le = elim (cases_Bool (is_whole_page pages (raw page) (page_lsn pages lap page))) [
  | inr torn ↦ torn
  | inl whole ↦
      let said = whole_says pages (raw page) lap page small inside whole in
      let lt = above pages raw chosen said.0 (inr (record { page = page; begun = begun; inside = inside; says = said.1 })) in
      let same = said.2 in
      absurd (omega arith)
]

-- ---- the live log from a place of such a lap

none_read : (pages : ℕ) (raw : ℕ → List ℕ) (oldest : ℕ) → is_in_ring pages oldest ≡ true → is_kth_whole pages raw oldest 0 ≡ false → live_log pages raw oldest ≡ no_reading
none_read pages raw oldest ring torn = table_read pages raw oldest ring [] (record {
  pieces = [];
  are = record { few = omega arith; whole = λ k lt. absurd (omega arith); stand = λ k lt. absurd (omega arith) };
  ends = inr torn;
  entries_are = refl;
})

pub nothing_read : (pages : ℕ) (raw : ℕ → List ℕ) (chosen : Option Restart) (oldest : ℕ) → page_bytes * pages < 2 ^ 64 → next_lap pages raw chosen ≤ lap_of pages oldest → live_log pages raw oldest ≡ no_reading
nothing_read pages raw chosen oldest small le = elim (cases_Bool (is_in_ring pages oldest)) [
  | inr out ↦ outside pages raw oldest out
  | inl ring ↦
      let begun = oldest_begun pages raw oldest ring in
      let inside = oldest_inside pages raw oldest ring in
      let here = none_behind pages (lap_of pages oldest) (page_of pages oldest) inside in
      let kth = kth_page pages oldest 0 in
      let lap = lap_behind pages (lap_of pages oldest) (page_of pages oldest) 0 in
      none_read pages raw oldest ring (none_whole pages raw chosen lap kth small (omega arith) (omega arith) (omega arith))
]
