-- How much of a log lies on a device, by the runs of its sectors.
use Rattle.std.specs.Prelude.{◌≡◌, ℕ, ◌<◌, ◌≤◌, true, false, List, is_some}
use Rattle.image_read.specs.log_page.declared.places.Extent.{Extent}
use Rattle.image_read.specs.log_reading.LogPages.{sector_in, sector_below}

-- Of so many sectors at most that these runs name the first ones lie on a device; and of fewer the next one doesn't.
pub record LieInFront (device all : ℕ) (runs : List Extent) (count : ℕ) : Type 0 where
  pub few : count ≤ all
  pub there : (n : ℕ) → n < count → is_some (sector_below device (sector_in runs n)) ≡ true
  pub ends : count < all → is_some (sector_below device (sector_in runs count)) ≡ false
