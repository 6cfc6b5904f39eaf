-- The live log: the entries from the oldest place up to the first page that isn't whole at its expected LSN, once round
-- the ring at most; and the laps by which a new session is told from those before.
use Rattle.std.specs.Prelude.{ℕ, zero, suc, ◌+◌, ◌-◌, ◌%◌, max, nat_eq, if◌then◌else◌, List, ◌++◌, Option, Some, None, option_map}
use Rattle.std.specs.List.{range_with_len, starts_with, fold}
use Rattle.disk_model.specs.Numbers.{field}
use Rattle.log_page.specs.declared.restart.Restart.{Restart}
use Rattle.log_page.specs.Places.{page_bytes, first_page, entries_at, lap_of, offset_of, page_of, page_lsn, is_in_ring, page_after, lap_after}
use Rattle.log_page.specs.RecordPages.{record_signature, is_whole_page, page_reading, Reading, no_reading}

-- one reading, and the next one where the first met no entry of another shape
abbrev pub followed_by : Reading → Reading → Reading
followed_by reading next = by_foreign reading.foreign
  where
    by_foreign : Option ℕ → Reading
    by_foreign (Some lsn) = reading
    by_foreign None = record { entries = reading.entries ++ next.entries; foreign = next.foreign }

-- of so many pages at most, from this page of this lap on, which is read from an offset in it on; the pages are given by their numbers
unfoldable pub log_from : ℕ → (ℕ → List ℕ) → ℕ → ℕ → ℕ → ℕ → Reading
log_from pages raw zero lap page at = no_reading
log_from pages raw (suc most) lap page at =
    if is_whole_page pages (raw page) (page_lsn pages lap page)
    then followed_by (page_reading (raw page) (page_lsn pages lap page) at) (log_from pages raw most (lap_after pages lap page) (page_after pages page) entries_at)
    else no_reading

-- the offset in its page at which an LSN is read: entries begin after the page's header
abbrev pub start_in_page : ℕ → ℕ → ℕ
start_in_page pages lsn = max entries_at (offset_of pages lsn % page_bytes)

-- from the oldest place on; nothing where that lies outside the ring
unfoldable pub live_log : ℕ → (ℕ → List ℕ) → ℕ → Reading
live_log pages raw oldest =
    if is_in_ring pages oldest then log_from pages raw (pages - first_page) (lap_of pages oldest) (page_of pages oldest) (start_in_page pages oldest) else no_reading

-- ---- laps

-- the LSN of a ring page's last entry, as it says itself, whole or not; none where the page doesn't begin as record pages do
abbrev pub said_lsn : List ℕ → Option ℕ
said_lsn raw = if starts_with nat_eq raw record_signature then Some (field 0x08 8 raw) else None

abbrev pub greater : Option ℕ → Option ℕ → Option ℕ
greater None b = b
greater (Some a) None = Some a
greater (Some a) (Some b) = Some (max a b)

-- the greatest of the chosen restart page's current LSN and those that the ring's pages say
unfoldable pub greatest_lsn : ℕ → (ℕ → List ℕ) → Option Restart → Option ℕ
greatest_lsn pages raw chosen =
    fold (λ lsn page. greater lsn (said_lsn (raw page))) (option_map (λ (r : Restart). r.current) chosen) (range_with_len first_page (pages - first_page))

-- one more than the lap of this LSN; 1 where there is none
abbrev pub lap_above : ℕ → Option ℕ → ℕ
lap_above pages (Some lsn) = 1 + lap_of pages lsn
lap_above pages None = 1

-- a new session's first lap: one more than that of the greatest LSN, which has the greatest lap
abbrev pub next_lap : ℕ → (ℕ → List ℕ) → Option Restart → ℕ
next_lap pages raw chosen = lap_above pages (greatest_lsn pages raw chosen)
