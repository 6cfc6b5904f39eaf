-- A log each page of which may be written where it lies, and is then read back.
use Rattle.std.specs.Prelude.{◌≡◌, ℕ, ◌+◌, ◌*◌, ◌/◌, ◌%◌, ◌^◌, ◌<◌, ◌≤◌, Some}
use Rattle.log_page.specs.declared.places.LogPlace.{LogPlace}
use Rattle.log_reading.specs.LogPages.{log_sector}

-- The eight sectors of the page with this number lie in a row on the device from this one on, in one cluster of the volume, and all of their bytes are initialised.
pub record IsPageAt (place : LogPlace) (n first : ℕ) : Type 0 where
  pub begun : first % 8 ≡ 0
  pub volume : first / 8 < place.clusters
  pub row : (i : ℕ) → i < 8 → log_sector place (8 * n + i) ≡ Some (first + i)
  pub initialised : 4096 * (n + 1) ≤ place.initialised

-- There are pages of a ring, and each page lies like this; no sector is that of two places in the log.
pub record IsRingPlace (place : LogPlace) : Type 0 where
  pub ring : 4 < place.pages
  pub small : place.pages < 2 ^ 52
  pub pages : (n : ℕ) → n < place.pages → (first : ℕ) × IsPageAt place n first
  pub apart : (i j s : ℕ) → i < j → j < 8 * place.pages → log_sector place i ≡ Some s → log_sector place j ≡ Some s → ⊥
