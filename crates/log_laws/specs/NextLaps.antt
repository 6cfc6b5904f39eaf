-- The lap after the greatest LSN of a log, and the pages that were there before it.
use Rattle.std.specs.Prelude.{◌≡◌, ◌⊎◌, ◌↔◌, ℕ, ◌+◌, ◌*◌, ◌^◌, ◌<◌, ◌≤◌, false, List, Option, Some, None}
use Rattle.log_page.specs.declared.restart.Restart.{Restart}
use Rattle.log_page.specs.Places.{page_bytes, first_page, lsn_at, lap_of, page_lsn}
use Rattle.log_page.specs.RecordPages.{no_reading, is_whole_page}
use Rattle.log_page.specs.LiveLogs.{live_log, said_lsn, greatest_lsn, next_lap}

-- a page of the ring says this LSN
pub record IsPageSaid (pages : ℕ) (raw : ℕ → List ℕ) (lsn : ℕ) : Type 0 where
  pub page : ℕ
  pub begun : first_page ≤ page
  pub inside : page < pages
  pub says : said_lsn (raw page) ≡ Some lsn

-- the chosen restart page says it
pub record IsRestartSaid (chosen : Option Restart) (lsn : ℕ) : Type 0 where
  pub restart : Restart
  pub is : chosen ≡ Some restart
  pub says : restart.current ≡ lsn

-- one of both
abbrev pub IsSaid : ℕ → (ℕ → List ℕ) → Option Restart → ℕ → Type 0
IsSaid pages raw chosen lsn = IsRestartSaid chosen lsn ⊎ IsPageSaid pages raw lsn

-- it is said, and no greater one is
pub record IsGreatest (pages : ℕ) (raw : ℕ → List ℕ) (chosen : Option Restart) (lsn : ℕ) : Type 0 where
  pub said : IsSaid pages raw chosen lsn
  pub most : (other : ℕ) → IsSaid pages raw chosen other → other ≤ lsn

pub record NextLapIsNew : Type 0 where
  -- the greatest LSN is the greatest of those that are said, and there is none where none is said
  pub greatest : (pages : ℕ) (raw : ℕ → List ℕ) (chosen : Option Restart) (lsn : ℕ) → (greatest_lsn pages raw chosen ≡ Some lsn) ↔ IsGreatest pages raw chosen lsn
  pub none : (pages : ℕ) (raw : ℕ → List ℕ) (chosen : Option Restart) → (greatest_lsn pages raw chosen ≡ None) ↔ ((lsn : ℕ) → IsSaid pages raw chosen lsn → ⊥)
  -- the next lap is above the lap of each that is said, and one more than that of the greatest; the
  -- first one is 1
  pub above : (pages : ℕ) (raw : ℕ → List ℕ) (chosen : Option Restart) (lsn : ℕ) → IsSaid pages raw chosen lsn → lap_of pages lsn < next_lap pages raw chosen
  pub next : (pages : ℕ) (raw : ℕ → List ℕ) (chosen : Option Restart) (lsn : ℕ) → IsGreatest pages raw chosen lsn → next_lap pages raw chosen ≡ 1 + lap_of pages lsn
  pub first : (pages : ℕ) (raw : ℕ → List ℕ) (chosen : Option Restart) → ((lsn : ℕ) → IsSaid pages raw chosen lsn → ⊥) → next_lap pages raw chosen ≡ 1
  -- each LSN from this lap on is above each that is said
  pub greater : (pages : ℕ) (raw : ℕ → List ℕ) (chosen : Option Restart) (lsn lap offset : ℕ) → IsSaid pages raw chosen lsn → next_lap pages raw chosen ≤ lap → lsn < lsn_at pages lap offset
  -- and no page that stands in the ring is whole from this lap on
  pub fresh : (pages : ℕ) (raw : ℕ → List ℕ) (chosen : Option Restart) (lap page : ℕ) → page_bytes * pages < 2 ^ 64 → first_page ≤ page → page < pages → next_lap pages raw chosen ≤ lap → is_whole_page pages (raw page) (page_lsn pages lap page) ≡ false
  -- so from a place of such a lap nothing is read
  pub empty : (pages : ℕ) (raw : ℕ → List ℕ) (chosen : Option Restart) (oldest : ℕ) → page_bytes * pages < 2 ^ 64 → next_lap pages raw chosen ≤ lap_of pages oldest → live_log pages raw oldest ≡ no_reading
