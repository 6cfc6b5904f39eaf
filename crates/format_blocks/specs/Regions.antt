-- The regions of a new volume stand on the device that was formatted.
use Rattle.std.specs.Prelude.{◌≡◌, ℕ, ◌+◌, ◌*◌, ◌<◌, ◌≤◌, ◌^◌, List, length}
use Rattle.disk_model.specs.Sectors.{sector_of, IsDisk}
use Rattle.sector_device.specs.Sectors.{sector_in}
use Rattle.boot_sector.specs.BootSectors.{most_clusters}
use Rattle.volume_format.specs.declared.layout.Layout.{Layout}
use Rattle.volume_format.specs.Layouts.{mirror_first, record_bits_first, table_first, upper_case_first, log_first, cluster_bits_first, block_first, clusters_of, least_sectors, layout_of}
use Rattle.volume_format.specs.Files.{table_bytes}
use Rattle.volume_format.specs.Indexes.{block_bytes}
use Rattle.volume_format.specs.Images.{boot_bytes, record_bits, upper_case_bytes, log_bytes, cluster_bits, formatted}

-- a device that isn't refused, with a serial number and a time of 64 bits
pub record CanFormat (old : List (List ℕ)) (seed time : ℕ) : Type 0 where
  pub whole : IsDisk old
  pub least : least_sectors ≤ length old
  pub small : clusters_of (length old) ≤ most_clusters
  pub seed_fits : seed < 2 ^ 64
  pub time_fits : time < 2 ^ 64

-- each whole sector of these bytes stands in its place from the front of a cluster on
abbrev pub StandsAt : List (List ℕ) → ℕ → List ℕ → Type 0
StandsAt disk cluster bytes = (k : ℕ) → 512 * (k + 1) ≤ length bytes → sector_of disk (8 * cluster + k) ≡ sector_in bytes k

-- the regions of a volume with this layout stand in their places
pub record HasRegions (v : Layout) (seed time : ℕ) (disk : List (List ℕ)) : Type 0 where
  pub table : StandsAt disk table_first (table_bytes v time 64)
  pub mirror : StandsAt disk mirror_first (table_bytes v time 4)
  pub record_bits_stand : StandsAt disk record_bits_first record_bits
  pub upper_case : StandsAt disk upper_case_first upper_case_bytes
  pub log : StandsAt disk log_first (log_bytes v)
  pub cluster_bits_stand : StandsAt disk (cluster_bits_first v) (cluster_bits v)
  pub block : StandsAt disk (block_first v) (block_bytes v time)
  pub boot : StandsAt disk 0 (boot_bytes v seed)

-- after a device was formatted it has as many sectors as before, each of 512 bytes, and the regions stand on it
pub record IsFormatted (v : Layout) (seed time count : ℕ) (disk : List (List ℕ)) : Type 0 where
  pub counted : length disk ≡ count
  pub whole : IsDisk disk
  pub regions : HasRegions v seed time disk

abbrev pub RegionsStand : Type 0
RegionsStand = (old : List (List ℕ)) (seed time : ℕ) → CanFormat old seed time → IsFormatted (layout_of (length old)) seed time (length old) (formatted old seed time)
