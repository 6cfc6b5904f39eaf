-- The pages of a log, by the sectors where they lie.
use Rattle.std.specs.Prelude.{ℕ, ◌+◌, ◌-◌, ◌*◌, ◌^◌, ◌≤◌, ◌<◌, nat_lt, if◌then◌else◌, List, [], ◌∷◌, Option, Some, None, All}
use Rattle.disk_model.specs.declared.block.BlockKind.TheVariants.{Plain}
use Rattle.disk_model.specs.Bytes.{written, zeros}
use Rattle.disk_model.specs.Sectors.{raw_from, zero_sector}
use Rattle.disk_model.specs.Content.{Content}
use Rattle.log_page.specs.declared.places.Extent.{Extent}
use Rattle.log_page.specs.declared.places.LogPlace.{LogPlace}

-- the sector with this number of those that the runs name in order; none past their end
abbrev pub sector_in : List Extent → ℕ → Option ℕ
sector_in [] n = None
sector_in (run ∷ runs) n = if nat_lt n run.sectors then Some (run.first + n) else sector_in runs (n - run.sectors)

-- it is one of so many
abbrev pub sector_below : ℕ → Option ℕ → Option ℕ
sector_below count (Some s) = if nat_lt s count then Some s else None
sector_below count None = None

-- where the log's sector with this number lies on the device, if it begins below the initialised size and lies there
abbrev pub log_sector : LogPlace → ℕ → Option ℕ
log_sector place n = if nat_lt (512 * n) place.initialised then sector_below place.device (sector_in place.runs n) else None

-- the bytes of a sector of which so many are initialised; the others are zeros
unfoldable pub initialised_bytes : ℕ → List ℕ → List ℕ
initialised_bytes valid bytes = written valid (zeros (512 - valid)) bytes

-- what stands in a sector of the device of which so many bytes are initialised; zeros where there is none
abbrev pub sector_bytes : Content → ℕ → Option ℕ → List ℕ
sector_bytes c valid (Some s) = initialised_bytes valid (c (record { first = s; kind = Plain })).bytes
sector_bytes c valid None = zero_sector

-- the bytes of the log's sector with this number
abbrev pub log_bytes : Content → LogPlace → ℕ → List ℕ
log_bytes c place n = sector_bytes c (place.initialised - 512 * n) (log_sector place n)

-- the page of the log with this number, of eight sectors, as it stands on the disk
unfoldable pub page_in : Content → LogPlace → ℕ → List ℕ
page_in c place n = raw_from (log_bytes c place) (8 * n) 8

-- its sectors have numbers of 64 bits
abbrev pub IsSmall : Extent → Type 0
IsSmall run = run.first + run.sectors ≤ 2 ^ 64

-- a place whose sectors and bytes have numbers of 64 bits
pub record IsLogPlace (place : LogPlace) : Type 0 where
  pub runs : All IsSmall place.runs
  pub pages : place.pages < 2 ^ 52
