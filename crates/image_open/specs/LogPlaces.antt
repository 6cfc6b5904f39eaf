-- Where a volume's log lies: the sectors of its stream, the pages that these make, and the volume's end.
use Rattle.std.specs.Prelude.{ℕ, ◌≡◌, ◌*◌, ◌/◌, ◌^◌, ◌≤◌, ◌<◌, min, List, [], map, length, sum_by, Option, Some, None}
use Rattle.std.specs.List.{range_with_len}
use Rattle.disk_model.specs.declared.block.Block.{Block}
use Rattle.disk_model.specs.declared.block.BlockKind.TheVariants.{Plain}
use Rattle.state_model.specs.record_model.declared.runs.Run.{Run}
use Rattle.state_model.specs.declared.stream.Stream.{Stream}
use Rattle.state_model.specs.declared.stream.Stream.TheVariants.{Held, Placed}
use Rattle.state_model.specs.Streams.{holds, block_at}
use Rattle.log_recovery.specs.log_page.declared.places.Extent.{Extent}
use Rattle.log_recovery.specs.log_page.declared.places.LogPlace.{LogPlace}
use Rattle.log_recovery.specs.log_page.Places.{page_bytes}
use Rattle.log_recovery.specs.log_reading.LogPages.{sector_in, sector_below, log_sector}

-- a sector after the end of each device
abbrev pub nowhere : ℕ
nowhere = 2 ^ 62

-- where a block begins; one that there isn't, nowhere
abbrev pub first_of : Option Block → ℕ
first_of (Some b) = b.first
first_of None = nowhere

-- where the sector with this number of a stream in clusters lies
unfoldable pub stream_sector : ℕ → List Run → ℕ → ℕ
stream_sector per runs n = first_of (block_at per runs Plain n)

abbrev pub sector_extent : ℕ → List Run → ℕ → Extent
sector_extent per runs n = record { first = stream_sector per runs n; sectors = 1 }

-- the first so many sectors of a stream, each by itself
unfoldable pub stream_sectors : ℕ → ℕ → List Run → List Extent
stream_sectors per count runs = map (sector_extent per runs) (range_with_len 0 count)

-- a log of so many pages, with these sectors, so many of whose bytes are initialised
abbrev pub log_of : ℕ → ℕ → ℕ → ℕ → List Extent → LogPlace
log_of clusters device pages initialised runs =
    record { runs = runs; initialised = min initialised (page_bytes * pages); pages = pages; clusters = clusters; device = min nowhere device }

unfoldable pub stream_place : ℕ → ℕ → ℕ → Stream → LogPlace
stream_place per clusters device (Held value) = log_of clusters device (length value / page_bytes) 0 []
stream_place per clusters device (Placed e) = log_of clusters device (e.real / page_bytes) e.initialised (stream_sectors per (8 * (e.real / page_bytes)) e.runs)

-- the place of the log with this stream, of a volume of so many clusters on a device of so many sectors; without a stream it has no page
abbrev pub place_of_log : ℕ → ℕ → ℕ → Option Stream → LogPlace
place_of_log per clusters device (Some s) = stream_place per clusters device s
place_of_log per clusters device None = log_of clusters device 0 0 []

-- ---- the same place by fewer runs

-- Two places of one log: as many pages and bytes of it, in the same sectors of the device.
pub record LieAlike (p q : LogPlace) : Type 0 where
  pub sectors : (n : ℕ) → log_sector p n ≡ log_sector q n
  pub initialised : p.initialised ≡ q.initialised
  pub pages : p.pages ≡ q.pages
  pub clusters : p.clusters ≡ q.clusters

-- each VCN from the first of these on and before the second lies in the run, or none of them
abbrev pub IsHeldAlike : ℕ → ℕ → Run → Type 0
IsHeldAlike v next r = (u : ℕ) → v ≤ u → u < next → holds u u r ≡ holds v v r

-- so many sectors, each of which lies on the device where the stream's does
pub record AreSectors (per : ℕ) (runs : List Run) (count : ℕ) (sectors : List Extent) : Type 0 where
  pub size : sum_by (λ (x : Extent). x.sectors) sectors ≡ count
  pub lie : (device n : ℕ) → device ≤ nowhere → n < count → sector_below device (sector_in sectors n) ≡ sector_below device (Some (stream_sector per runs n))
