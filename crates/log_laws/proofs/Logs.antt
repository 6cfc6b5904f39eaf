-- The live log by the table and by the walk.
use Rattle.std.proofs.Common.{◌≡◌, ◌⊎◌, ℕ, ◌-◌, ◌<◌, ◌≤◌, true, false, List, [], ◌++◌, length, get_or, Option, Some, None, refl, sym, ap, ◌∙◌, subst, inl, inr, arith}
use Rattle.std.proofs.lemmas.Bool.{cases_lt, and_parts, leb-true, ltb-true}
use Rattle.std.proofs.lemmas.List.{append-nil}
use Rattle.log_page.specs.log_model.declared.entry.Entry.{Entry}
use Rattle.log_page.specs.Places.{first_page, lap_of, page_of, is_in_ring}
use Rattle.log_page.specs.RecordPages.{Reading, no_reading}
use Rattle.log_page.specs.LiveLogs.{live_log, log_from, start_in_page}
use Rattle.log_laws.specs.Tables.{reading, entries_of, is_kth_whole, AreWhole, IsLiveLog, IsStoppedLog}
use Rattle.log_laws.proofs.Ringing.{Walked, IsPage, ArePages, Ends, walked, found, page_at, from_pages, from_here}

pub outside : (pages : ℕ) (raw : ℕ → List ℕ) (oldest : ℕ) → is_in_ring pages oldest ≡ false → live_log pages raw oldest ≡ no_reading
unfolding live_log
outside pages raw oldest out = rw out refl

module _ (pages : ℕ) (raw : ℕ → List ℕ) (oldest : ℕ) (ring : is_in_ring pages oldest ≡ true) where
  abbrev lap : ℕ
  lap = lap_of pages oldest

  abbrev page : ℕ
  page = page_of pages oldest

  abbrev from : ℕ
  from = start_in_page pages oldest

  pub oldest_begun : first_page ≤ page
  oldest_begun = leb-true first_page page (and_parts _ _ ring).0

  pub oldest_inside : page < pages
  oldest_inside = ltb-true page pages (and_parts _ _ ring).1

  begins : live_log pages raw oldest ≡ log_from pages raw (pages - first_page) lap page from
  unfolding live_log
  begins = rw ring refl

  abbrev Pages : List (List Entry) → Type 0
  Pages pieces = ArePages pages raw lap page from oldest_begun oldest_inside 0 pieces

  abbrev EndsAt : ℕ → Option ℕ → List Entry → Type 0
  EndsAt k foreign last = Ends pages raw lap page from oldest_begun oldest_inside k foreign last

  -- ---- the first pages

  pages_whole : (pieces : List (List Entry)) → length pieces ≤ pages - first_page → Pages pieces → AreWhole pages raw oldest pieces
  pages_whole pieces few are = record {
    few = few;
    whole = λ k lt. (page_at pages raw lap page from oldest_begun oldest_inside pieces 0 are k k lt (omega arith)).0;
    stand = λ k lt. (page_at pages raw lap page from oldest_begun oldest_inside pieces 0 are k k lt (omega arith)).1;
  }

  whole_pages : (pieces : List (List Entry)) → AreWhole pages raw oldest pieces → Pages pieces
  whole_pages pieces are = from_pages pages raw lap page from oldest_begun oldest_inside pieces 0 (λ j i lt is. one j i lt (is ∙ omega arith))
    where
      one : (j i : ℕ) → j < length pieces → i ≡ j → IsPage pages raw lap page from oldest_begun oldest_inside i (get_or pieces j [])
      one j i lt is = subst (λ (n : ℕ). IsPage pages raw lap page from oldest_begun oldest_inside n (get_or pieces j [])) (sym is) (are.whole j lt, are.stand j lt)

  -- ---- from the table

  reading_by : (pieces : List (List Entry)) (foreign : Option ℕ) (last : List Entry) → AreWhole pages raw oldest pieces → EndsAt (length pieces) foreign last → live_log pages raw oldest ≡ reading (entries_of pieces ++ last) foreign
  reading_by pieces foreign last are ends =
      begins
      ∙ sym (from_here pages raw lap page from oldest_begun oldest_inside)
      ∙ walked pages raw lap page from oldest_begun oldest_inside pieces (pages - first_page) 0 (length pieces) foreign last (omega arith) (omega arith) are.few (whole_pages pieces are) ends

  pub table_read : (entries : List Entry) → IsLiveLog pages raw oldest entries → live_log pages raw oldest ≡ reading entries None
  table_read entries log =
      reading_by log.pieces None [] log.are (refl, log.ends)
      ∙ ap (λ (l : List Entry). reading l None) (append-nil (entries_of log.pieces) ∙ log.entries_are)

  pub table_stopped : (lsn : ℕ) (entries : List Entry) → IsStoppedLog pages raw oldest lsn entries → live_log pages raw oldest ≡ reading entries (Some lsn)
  table_stopped lsn entries log =
      reading_by log.pieces (Some lsn) log.last log.are (log.room, log.whole, log.stops)
      ∙ ap (λ (l : List Entry). reading l (Some lsn)) log.entries_are

  -- ---- from the walk

  abbrev Found : Option ℕ → List Entry → Type 0
  Found foreign entries = Walked pages raw lap page from oldest_begun oldest_inside (pages - first_page) 0 foreign entries

  all_found : (foreign : Option ℕ) (entries : List Entry) → live_log pages raw oldest ≡ reading entries foreign → Found foreign entries
  all_found foreign entries is =
      subst (λ (r : Reading). Found r.foreign r.entries) (from_here pages raw lap page from oldest_begun oldest_inside ∙ sym begins ∙ is) (found pages raw lap page from oldest_begun oldest_inside (pages - first_page) 0 (omega arith))

  live : (entries : List Entry) → Found None entries → IsLiveLog pages raw oldest entries
  live entries w =
      let count : w.to ≡ length w.pieces = w.is ∙ omega arith in
      record {
        pieces = w.pieces;
        are = pages_whole w.pieces w.few w.are;
        ends = (subst (λ (k : ℕ). EndsAt k None w.last) count w.ends).1;
        entries_are = sym (append-nil (entries_of w.pieces)) ∙ ap (λ (l : List Entry). entries_of w.pieces ++ l) (sym w.ends.0) ∙ w.entries_are;
      }

  stopped : (lsn : ℕ) (entries : List Entry) → Found (Some lsn) entries → IsStoppedLog pages raw oldest lsn entries
  stopped lsn entries w =
      let count : w.to ≡ length w.pieces = w.is ∙ omega arith in
      let ends = subst (λ (k : ℕ). EndsAt k (Some lsn) w.last) count w.ends in
      record { pieces = w.pieces; are = pages_whole w.pieces w.few w.are; room = ends.0; whole = ends.1; last = w.last; stops = ends.2; entries_are = w.entries_are }

  pub read_table : (entries : List Entry) → live_log pages raw oldest ≡ reading entries None → IsLiveLog pages raw oldest entries
  read_table entries is = live entries (all_found None entries is)

  pub stopped_table : (lsn : ℕ) (entries : List Entry) → live_log pages raw oldest ≡ reading entries (Some lsn) → IsStoppedLog pages raw oldest lsn entries
  stopped_table lsn entries is = stopped lsn entries (all_found (Some lsn) entries is)

-- ---- one number of pages

-- pages that end can't be fewer than others
not_fewer : (pages : ℕ) (raw : ℕ → List ℕ) (oldest : ℕ) (entries others : List Entry) (a : IsLiveLog pages raw oldest entries) (b : IsLiveLog pages raw oldest others) → length b.pieces ≤ length a.pieces
not_fewer pages raw oldest entries others a b = elim (cases_lt (length a.pieces) (length b.pieces)) [
  | inr le ↦ le
  | inl lt ↦ absurd (by a.ends lt)
]
  where
    by : (length a.pieces ≡ pages - first_page) ⊎ (is_kth_whole pages raw oldest (length a.pieces) ≡ false) → length a.pieces < length b.pieces → ⊥
    by (inl all) lt = let few = b.are.few in omega arith
    by (inr torn) lt = let whole = b.are.whole (length a.pieces) lt in absurd cc

pub one_count : (pages : ℕ) (raw : ℕ → List ℕ) (oldest : ℕ) (entries others : List Entry) (a : IsLiveLog pages raw oldest entries) (b : IsLiveLog pages raw oldest others) → length a.pieces ≡ length b.pieces
one_count pages raw oldest entries others a b =
    let more = not_fewer pages raw oldest entries others a b in
    let fewer = not_fewer pages raw oldest others entries b a in
    omega arith
