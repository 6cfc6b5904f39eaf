-- Whole pages of the ring, one behind the other, by the table and by the walk.
use Rattle.std.proofs.Common.{◌≡◌, ◌⊎◌, ℕ, zero, suc, ◌+◌, ◌-◌, ◌<◌, ◌≤◌, Bool, true, false, cond, List, [], ◌∷◌, ◌++◌, length, get_or, Option, Some, None, refl, sym, ap, ◌∙◌, subst, inl, inr, append_assoc, arith}
use Rattle.std.specs.Prelude.{⊤, nat_eq, is_ok, if◌then◌else◌, ◌==◌, ◌&&◌}
use Rattle.std.specs.List.{starts_with}
use Rattle.std.proofs.lemmas.Bool.{cases_Bool, and_parts, eqb-true, ne_eqb}
use Rattle.log_page.specs.disk_model.Fixups.{fixup_of, restored}
use Rattle.log_page.proofs.disk_model.Protection.{length-restored}
use Rattle.log_page.specs.log_model.declared.entry.Entry.{Entry}
use Rattle.log_page.specs.Places.{first_page, entries_at, lap_of, page_lsn, page_after, lap_after}
use Rattle.log_page.specs.RecordPages.{Reading, no_reading, record_signature, first_lsn, last_lsn, is_record_page, is_whole_page, page_reading}
use Rattle.log_page.specs.LiveLogs.{followed_by, log_from}
use Rattle.log_laws.specs.Tables.{reading, page_behind, lap_behind, entries_of}
use Rattle.log_laws.proofs.Standing.{StandAs, stand_reading, reading_stand}
use Rattle.log_laws.proofs.Behind.{none_behind, one_behind}

-- ---- a page that is whole has bytes

no_signature : (page : List ℕ) → starts_with nat_eq page record_signature ≡ true → 0 < length page
no_signature [] begins = absurd cc
no_signature (b ∷ page) begins = omega arith

pub record WholeParts (pages : ℕ) (raw : List ℕ) (lsn : ℕ) : Type 0 where
  pub begins : starts_with nat_eq (restored raw) record_signature ≡ true
  pub first : first_lsn (restored raw) ≡ lsn
  pub lap : lap_of pages (last_lsn (restored raw)) ≡ lap_of pages lsn

pub whole_parts : (pages : ℕ) (raw : List ℕ) (lsn : ℕ) → is_whole_page pages raw lsn ≡ true → WholeParts pages raw lsn
unfolding is_whole_page
whole_parts pages raw lsn whole =
    let outer = and_parts (is_ok (fixup_of raw)) (is_record_page pages (restored raw) lsn) whole in
    let inner = and_parts (starts_with nat_eq (restored raw) record_signature && (first_lsn (restored raw) == lsn)) (lap_of pages (last_lsn (restored raw)) == lap_of pages lsn) outer.1 in
    let front = and_parts (starts_with nat_eq (restored raw) record_signature) (first_lsn (restored raw) == lsn) inner.0 in
    record { begins = front.0; first = eqb-true _ _ front.1; lap = eqb-true _ _ inner.1 }

pub whole_some : (pages : ℕ) (raw : List ℕ) (lsn : ℕ) → is_whole_page pages raw lsn ≡ true → 0 < length raw
whole_some pages raw lsn whole =
    let parts = whole_parts pages raw lsn whole in
    let some : 0 < length (restored raw) = no_signature (restored raw) parts.begins in
    let size = length-restored raw in
    omega arith

-- ---- two readings

stays : (r next : Reading) (lsn : ℕ) → r.foreign ≡ Some lsn → followed_by r next ≡ r
stays r next lsn e = rw e refl

goes : (r next : Reading) → r.foreign ≡ None → followed_by r next ≡ reading (r.entries ++ next.entries) next.foreign
goes r next e = rw e refl

module _ (pages : ℕ) (raw : ℕ → List ℕ) (lap page from : ℕ) (begun : first_page ≤ page) (inside : page < pages) where
  abbrev ring : ℕ
  ring = pages - first_page

  abbrev pub at_page : ℕ → ℕ
  at_page k = page_behind pages page k

  abbrev pub at_lap : ℕ → ℕ
  at_lap k = lap_behind pages lap page k

  abbrev pub at_lsn : ℕ → ℕ
  at_lsn k = page_lsn pages (at_lap k) (at_page k)

  abbrev pub at_start : ℕ → ℕ
  at_start k = if k == 0 then from else entries_at

  abbrev pub is_whole : ℕ → Bool
  is_whole k = is_whole_page pages (raw (at_page k)) (at_lsn k)

  abbrev pub Holds : ℕ → Option ℕ → List Entry → Type 0
  Holds k foreign entries = StandAs (restored (raw (at_page k))) (at_lsn k) (at_start k) foreign entries

  -- the walk from the k-th page on
  abbrev walk : ℕ → ℕ → Reading
  walk most k = log_from pages raw most (at_lap k) (at_page k) (at_start k)

  abbrev kth_reading : ℕ → Reading
  kth_reading k = page_reading (raw (at_page k)) (at_lsn k) (at_start k)

  -- ---- steps of the walk

  round : (k : ℕ) → walk zero k ≡ no_reading
  unfolding log_from
  round k = refl

  torn : (most k : ℕ) → is_whole k ≡ false → walk most k ≡ no_reading
  unfolding log_from
  torn zero k e = refl
  torn (suc most) k e = rw e refl

  step : (most k : ℕ) → is_whole k ≡ true → walk (suc most) k ≡ followed_by (kth_reading k) (log_from pages raw most (lap_after pages (at_lap k) (at_page k)) (page_after pages (at_page k)) entries_at)
  unfolding log_from
  step most k e = rw e refl

  later : (k : ℕ) → at_start (suc k) ≡ entries_at
  later k = ap (λ (b : Bool). cond b from entries_at) (ne_eqb (suc k) 0 (λ e. omega arith))

  next : (most k : ℕ) → is_whole k ≡ true → k < ring → walk (suc most) k ≡ followed_by (kth_reading k) (walk most (suc k))
  next most k e few =
      let one = one_behind pages lap page k begun inside few in
      step most k e
      ∙ ap (λ (l : ℕ). followed_by (kth_reading k) (log_from pages raw most l (page_after pages (at_page k)) entries_at)) one.1
      ∙ ap (λ (n : ℕ). followed_by (kth_reading k) (log_from pages raw most (at_lap (suc k)) n entries_at)) one.0
      ∙ ap (λ (at : ℕ). followed_by (kth_reading k) (log_from pages raw most (at_lap (suc k)) (at_page (suc k)) at)) (sym (later k))

  some : (k : ℕ) → is_whole k ≡ true → 0 < length (raw (at_page k))
  some k e = whole_some pages (raw (at_page k)) (at_lsn k) e

  -- ---- the table, page by page

  -- the k-th page is whole, and these are its entries
  abbrev pub IsPage : ℕ → List Entry → Type 0
  IsPage k entries = (is_whole k ≡ true) × Holds k None entries

  abbrev pub ArePages : ℕ → List (List Entry) → Type 0
  ArePages k [] = ⊤
  ArePages k (piece ∷ pieces) = IsPage k piece × ArePages (suc k) pieces

  -- the pages end before the k-th one, or in it
  abbrev pub Ends : ℕ → Option ℕ → List Entry → Type 0
  Ends k None last = (last ≡ []) × ((k ≡ ring) ⊎ (is_whole k ≡ false))
  Ends k (Some lsn) last = (k < ring) × (is_whole k ≡ true) × Holds k (Some lsn) last

  -- ---- from the table to the walk

  ended : (most k : ℕ) (foreign : Option ℕ) (last : List Entry) → most + k ≡ ring → Ends k foreign last → walk most k ≡ reading last foreign
  ended most k None last count (none, inl all) =
      let no_more : most ≡ 0 = omega arith in
      ap (λ (m : ℕ). walk m k) no_more ∙ round k ∙ ap (λ (l : List Entry). reading l None) (sym none)
  ended most k None last count (none, inr not_whole) = torn most k not_whole ∙ ap (λ (l : List Entry). reading l None) (sym none)
  ended zero k (Some lsn) last count (few, whole, holds) = absurd (omega arith)
  ended (suc most) k (Some lsn) last count (few, whole, holds) =
      let here : kth_reading k ≡ reading last (Some lsn) = stand_reading (raw (at_page k)) (at_lsn k) (at_start k) (some k whole) (Some lsn) last holds in
      next most k whole few ∙ stays (kth_reading k) (walk most (suc k)) lsn (ap (λ (r : Reading). r.foreign) here) ∙ here

  pub walked : (pieces : List (List Entry)) (most k to : ℕ) (foreign : Option ℕ) (last : List Entry) → most + k ≡ ring → to ≡ k + length pieces → length pieces ≤ most
      → ArePages k pieces → Ends to foreign last → walk most k ≡ reading (entries_of pieces ++ last) foreign
  walked [] most k to foreign last count is few are ends = ended most k foreign last count (subst (λ (n : ℕ). Ends n foreign last) (is ∙ omega arith) ends)
  walked (piece ∷ pieces) zero k to foreign last count is few are ends = absurd (omega arith)
  walked (piece ∷ pieces) (suc most) k to foreign last count is few ((whole, holds), behind) ends =
      let here : kth_reading k ≡ reading piece None = stand_reading (raw (at_page k)) (at_lsn k) (at_start k) (some k whole) None piece holds in
      let rest = walked pieces most (suc k) to foreign last (omega arith) (omega arith) (omega arith) behind ends in
      next most k whole (omega arith)
      ∙ ap (λ (r : Reading). followed_by r (walk most (suc k))) here
      ∙ ap (followed_by (reading piece None)) rest
      ∙ ap (λ (l : List Entry). reading l foreign) (sym (append_assoc piece (entries_of pieces) last))

  -- ---- from the walk to the table

  pub record Walked (most k : ℕ) (foreign : Option ℕ) (entries : List Entry) : Type 0 where
    pub pieces : List (List Entry)
    pub few : length pieces ≤ most
    pub are : ArePages k pieces
    pub last : List Entry
    pub to : ℕ
    pub is : to ≡ k + length pieces
    pub ends : Ends to foreign last
    pub entries_are : entries_of pieces ++ last ≡ entries

  abbrev Found : ℕ → ℕ → Reading → Type 0
  Found most k r = Walked most k r.foreign r.entries

  nothing : (most k : ℕ) → (k ≡ ring) ⊎ (is_whole k ≡ false) → Found most k no_reading
  nothing most k ends = record { pieces = []; few = omega arith; are = tt; last = []; to = k; is = omega arith; ends = (refl, ends); entries_are = refl }

  -- by what is read of the page
  by_reading : (most k : ℕ) (r after : Reading) → k < ring → is_whole k ≡ true → Holds k r.foreign r.entries → Found most (suc k) after → Found (suc most) k (followed_by r after)
  by_reading most k r after few whole holds behind = by r.foreign refl
    where
      by : (foreign : Option ℕ) → r.foreign ≡ foreign → Found (suc most) k (followed_by r after)
      by None none =
          subst (Found (suc most) k) (sym (goes r after none))
          (record {
            pieces = r.entries ∷ behind.pieces;
            few = let le = behind.few in omega arith;
            are = ((whole, subst (λ (o : Option ℕ). Holds k o r.entries) none holds), behind.are);
            last = behind.last;
            to = behind.to;
            is = let e = behind.is in omega arith;
            ends = behind.ends;
            entries_are = append_assoc r.entries (entries_of behind.pieces) behind.last ∙ ap (λ (l : List Entry). r.entries ++ l) behind.entries_are;
          })
      by (Some lsn) stopped =
          subst (Found (suc most) k) (sym (stays r after lsn stopped))
          (record {
            pieces = [];
            few = omega arith;
            are = tt;
            last = r.entries;
            to = k;
            is = omega arith;
            ends = subst (λ (o : Option ℕ). Ends k o r.entries) (sym stopped) (few, whole, subst (λ (o : Option ℕ). Holds k o r.entries) stopped holds);
            entries_are = refl;
          })

  pub found : (most k : ℕ) → most + k ≡ ring → Found most k (walk most k)
  found zero k count = subst (Found zero k) (sym (round k)) (nothing zero k (inl (omega arith)))
  found (suc most) k count = elim (cases_Bool (is_whole k)) [
    | inr not_whole ↦ subst (Found (suc most) k) (sym (torn (suc most) k not_whole)) (nothing (suc most) k (inr not_whole))
    | inl whole ↦
        subst (Found (suc most) k) (sym (next most k whole (omega arith)))
        (by_reading most k (kth_reading k) (walk most (suc k)) (omega arith) whole (reading_stand (raw (at_page k)) (at_lsn k) (at_start k) (some k whole)) (found most (suc k) (omega arith)))
  ]

  -- ---- page by page, and by number

  pub page_at : (pieces : List (List Entry)) (k : ℕ) → ArePages k pieces → (j i : ℕ) → j < length pieces → i ≡ k + j → IsPage i (get_or pieces j [])
  page_at [] k are j i lt is = absurd (omega arith)
  page_at (piece ∷ pieces) k (here, behind) zero i lt is = subst (λ (n : ℕ). IsPage n piece) (omega arith) here
  page_at (piece ∷ pieces) k (here, behind) (suc j) i lt is = page_at pieces (suc k) behind j i (omega arith) (omega arith)

  pub from_pages : (pieces : List (List Entry)) (k : ℕ) → ((j i : ℕ) → j < length pieces → i ≡ k + j → IsPage i (get_or pieces j [])) → ArePages k pieces
  from_pages [] k each = tt
  from_pages (piece ∷ pieces) k each = (each 0 k (omega arith) (omega arith), from_pages pieces (suc k) (λ j i lt is. each (suc j) i (omega arith) (omega arith)))

  -- the walk begins at the page itself
  pub from_here : walk ring 0 ≡ log_from pages raw ring lap page from
  from_here =
      let here = none_behind pages lap page inside in
      ap (λ (l : ℕ). log_from pages raw ring l (at_page 0) from) here.1 ∙ ap (λ (n : ℕ). log_from pages raw ring lap n from) here.0
