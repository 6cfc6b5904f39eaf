-- The pages of a log that begin on its device, one after another.
use Rattle.std.specs.Prelude.{◌≡◌, ℕ, ◌+◌, ◌*◌, ◌≤◌, ◌<◌, ◌&&◌, Bool, nat_lt, Some, None}
use Rattle.log_page.specs.declared.places.LogPlace.{LogPlace}
use Rattle.log_reading.specs.declared.laps.PageStart.{PageStart}
use Rattle.log_reading.specs.declared.laps.Sought.{Sought}
use Rattle.log_reading.specs.LogPages.{log_sector}

-- the page is one of the log's, and begins below the initialised size
abbrev pub is_read : LogPlace → ℕ → Bool
is_read place n = nat_lt n place.pages && nat_lt (4096 * n) place.initialised

-- of the pages from one up to another none begins on the device
abbrev pub NoneBetween : LogPlace → ℕ → ℕ → Type 0
NoneBetween place from to = (n : ℕ) → from ≤ n → n < to → log_sector place (8 * n) ≡ None

-- the first page from one on that begins on the device, and the sector where it begins
pub record IsNext (place : LogPlace) (from : ℕ) (next : PageStart) : Type 0 where
  pub later : from ≤ next.page
  pub inside : next.page < place.pages
  pub sector : log_sector place (8 * next.page) ≡ Some next.sector
  pub between : NoneBetween place from next.page

-- the first page from one on that begins after the next run, which has so many sectors
pub record IsBehind (sectors : ℕ) (old new : Sought) : Type 0 where
  pub later : old.page ≤ new.page
  pub ahead : 8 * new.page + old.ahead ≡ 8 * old.page + sectors + new.ahead
  pub between : (n : ℕ) → old.page ≤ n → n < new.page → 8 * n + old.ahead < 8 * old.page + sectors
