-- The live log as a table: whole pages one behind the other in the ring, and on each of them
-- entries one behind the other.
use Rattle.std.specs.Prelude.{◌≡◌, ◌≢◌, ◌⊎◌, ◌↔◌, ℕ, suc, ◌+◌, ◌-◌, ◌*◌, ◌^◌, ◌<◌, ◌≤◌, ◌==◌, nat_le, Bool, true, false, if◌then◌else◌, List, [], ◌∷◌, ◌++◌, length, get_or, Option, Some, None}
use Rattle.std.specs.List.{flat_map}
use Rattle.log_page.specs.disk_model.Fixups.{restored}
use Rattle.log_page.specs.log_model.declared.entry.Entry.{Entry}
use Rattle.log_page.specs.log_model.Entries.{entry_size}
use Rattle.log_page.specs.log_model.EntryLaws.{BeginsEntry}
use Rattle.log_page.specs.Places.{page_bytes, first_page, entries_at, lap_of, page_of, page_lsn, is_in_ring, page_after, lap_after}
use Rattle.log_page.specs.RecordPages.{Reading, no_reading, free_at, lsn_of, bytes_from, is_whole_page, page_reading}
use Rattle.log_page.specs.LiveLogs.{live_log, start_in_page}

-- these entries were read, and then an entry of another shape was met at the place with this LSN,
-- or none was
abbrev pub reading : List Entry → Option ℕ → Reading
reading entries foreign = record { entries = entries; foreign = foreign }

-- ---- on a page whose update sequence was undone; the place of its first entry has the LSN first

-- an entry stands at this offset, ends by the first free byte, and has the LSN of its place
pub record StandsAt (page : List ℕ) (first at : ℕ) (e : Entry) : Type 0 where
  pub begins : BeginsEntry (bytes_from page at) e
  pub own : e.lsn ≡ lsn_of first at

-- an entry belongs at this offset: the page's entries begin there, or it lies before the first free
-- byte
abbrev pub Belongs : List ℕ → ℕ → Type 0
Belongs page at = (at ≡ entries_at) ⊎ (at < free_at page)

-- from this offset on stand these entries one behind the other, and behind the last one belongs
-- none
abbrev pub Stand : List ℕ → ℕ → ℕ → List Entry → Type 0
Stand page first at [] = Belongs page at → ⊥
Stand page first at (e ∷ entries) = StandsAt page first at e × Stand page first (at + entry_size e) entries

-- the same, but behind the last one, at the place with this LSN, belongs an entry and none stands
abbrev pub StandBefore : List ℕ → ℕ → ℕ → ℕ → List Entry → Type 0
StandBefore page first at lsn [] = Belongs page at × ((e : Entry) → StandsAt page first at e → ⊥) × (lsn ≡ lsn_of first at)
StandBefore page first at lsn (e ∷ entries) = StandsAt page first at e × StandBefore page first (at + entry_size e) lsn entries

-- a page is read from an offset on exactly as the table says
pub record PageReadingIsTable : Type 0 where
  pub read : (raw : List ℕ) (first at : ℕ) (entries : List Entry) → 0 < length raw → (page_reading raw first at ≡ reading entries None) ↔ Stand (restored raw) first at entries
  pub stopped : (raw : List ℕ) (first at lsn : ℕ) (entries : List Entry) → 0 < length raw → (page_reading raw first at ≡ reading entries (Some lsn)) ↔ StandBefore (restored raw) first at lsn entries

-- ---- in the ring

-- the page that stands k pages behind this one, once round the ring at most: behind the last page
-- stands the first one
abbrev pub page_behind : ℕ → ℕ → ℕ → ℕ
page_behind pages page k = if nat_le pages (page + k) then page + k - (pages - first_page) else page + k

-- its lap, which is the next one from the ring's first page on
abbrev pub lap_behind : ℕ → ℕ → ℕ → ℕ → ℕ
lap_behind pages lap page k = if nat_le pages (page + k) then lap + 1 else lap

-- the number of the page that stands k pages behind the one with the oldest place
abbrev pub kth_page : ℕ → ℕ → ℕ → ℕ
kth_page pages oldest k = page_behind pages (page_of pages oldest) k

-- the LSN of the place of its first entry
abbrev pub kth_lsn : ℕ → ℕ → ℕ → ℕ
kth_lsn pages oldest k = page_lsn pages (lap_behind pages (lap_of pages oldest) (page_of pages oldest) k) (kth_page pages oldest k)

-- the offset from which on it is read: the oldest place, and on the pages behind it where entries
-- begin
abbrev pub kth_start : ℕ → ℕ → ℕ → ℕ
kth_start pages oldest k = if k == 0 then start_in_page pages oldest else entries_at

-- it is whole at its place
abbrev pub is_kth_whole : ℕ → (ℕ → List ℕ) → ℕ → ℕ → Bool
is_kth_whole pages raw oldest k = is_whole_page pages (raw (kth_page pages oldest k)) (kth_lsn pages oldest k)

-- These are the entries of whole pages one behind the other, from the oldest place on: a piece for
-- each page, of which there are no more than in the ring.
pub record AreWhole (pages : ℕ) (raw : ℕ → List ℕ) (oldest : ℕ) (pieces : List (List Entry)) : Type 0 where
  pub few : length pieces ≤ pages - first_page
  pub whole : (k : ℕ) → k < length pieces → is_kth_whole pages raw oldest k ≡ true
  pub stand : (k : ℕ) → k < length pieces → Stand (restored (raw (kth_page pages oldest k))) (kth_lsn pages oldest k) (kth_start pages oldest k) (get_or pieces k [])

-- all entries of these pages
abbrev pub entries_of : List (List Entry) → List Entry
entries_of pieces = flat_map (λ (piece : List Entry). piece) pieces

-- These entries are those of whole pages one behind the other, and the page behind the last one
-- isn't whole, or that was the whole ring.
pub record IsLiveLog (pages : ℕ) (raw : ℕ → List ℕ) (oldest : ℕ) (entries : List Entry) : Type 0 where
  pub pieces : List (List Entry)
  pub are : AreWhole pages raw oldest pieces
  pub ends : (length pieces ≡ pages - first_page) ⊎ (is_kth_whole pages raw oldest (length pieces) ≡ false)
  pub entries_are : entries_of pieces ≡ entries

-- The same, but the page behind the last one is whole too, and its entries end before one of
-- another shape, at the place with this LSN.
pub record IsStoppedLog (pages : ℕ) (raw : ℕ → List ℕ) (oldest lsn : ℕ) (entries : List Entry) : Type 0 where
  pub pieces : List (List Entry)
  pub are : AreWhole pages raw oldest pieces
  pub room : length pieces < pages - first_page
  pub whole : is_kth_whole pages raw oldest (length pieces) ≡ true
  pub last : List Entry
  pub stops : StandBefore (restored (raw (kth_page pages oldest (length pieces)))) (kth_lsn pages oldest (length pieces)) (kth_start pages oldest (length pieces)) lsn last
  pub entries_are : entries_of pieces ++ last ≡ entries

pub record LiveLogIsTable : Type 0 where
  -- the live log is read from an oldest place in the ring exactly as the table says
  pub read : (pages : ℕ) (raw : ℕ → List ℕ) (oldest : ℕ) (entries : List Entry) → is_in_ring pages oldest ≡ true → (live_log pages raw oldest ≡ reading entries None) ↔ IsLiveLog pages raw oldest entries
  pub stopped : (pages : ℕ) (raw : ℕ → List ℕ) (oldest lsn : ℕ) (entries : List Entry) → is_in_ring pages oldest ≡ true → (live_log pages raw oldest ≡ reading entries (Some lsn)) ↔ IsStoppedLog pages raw oldest lsn entries
  -- it has one number of pages
  pub one : (pages : ℕ) (raw : ℕ → List ℕ) (oldest : ℕ) (entries others : List Entry) (a : IsLiveLog pages raw oldest entries) (b : IsLiveLog pages raw oldest others) → length a.pieces ≡ length b.pieces
  -- from a place outside the ring nothing is read
  pub outside : (pages : ℕ) (raw : ℕ → List ℕ) (oldest : ℕ) → is_in_ring pages oldest ≡ false → live_log pages raw oldest ≡ no_reading

-- the pages that stand behind one of the ring
pub record RingIsRound : Type 0 where
  -- the first of them is that page itself, and behind each stands the page after it
  pub here : (pages lap page : ℕ) → page < pages → (page_behind pages page 0 ≡ page) × (lap_behind pages lap page 0 ≡ lap)
  pub next : (pages lap page k : ℕ) → first_page ≤ page → page < pages → k < pages - first_page
      → (page_after pages (page_behind pages page k) ≡ page_behind pages page (suc k)) × (lap_after pages (lap_behind pages lap page k) (page_behind pages page k) ≡ lap_behind pages lap page (suc k))
  -- all are pages of the ring, and none of them comes twice in one round
  pub inside : (pages page k : ℕ) → first_page ≤ page → page < pages → k < pages - first_page → (first_page ≤ page_behind pages page k) × (page_behind pages page k < pages)
  pub once : (pages page i j : ℕ) → first_page ≤ page → page < pages → i < j → j < pages - first_page → page_behind pages page i ≢ page_behind pages page j
  -- their LSNs rise, by a page's eights of bytes at least
  pub rises : (pages lap page i j : ℕ) → page_bytes * pages < 2 ^ 64 → first_page ≤ page → page < pages → i < j → j < pages - first_page
      → page_lsn pages (lap_behind pages lap page i) (page_behind pages page i) + 512 ≤ page_lsn pages (lap_behind pages lap page j) (page_behind pages page j)
