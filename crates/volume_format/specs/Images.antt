-- The sectors of a device after `format`: eight regions over the sectors of before.
use Rattle.std.specs.Prelude.{◌≡◌, ℕ, ◌+◌, ◌*◌, ◌||◌, nat_le, nat_lt, if◌then◌else◌, List, [], ◌∷◌, ◌++◌, length, map, replicate, Option}
use Rattle.std.specs.Option.{option_map}
use Rattle.std.specs.List.{range_with_len}
use Rattle.disk_model.specs.Bytes.{zeros, written}
use Rattle.record_model.specs.Attributes.{unit_bytes}
use Rattle.boot_sector.specs.declared.boot.Boot.{Boot}
use Rattle.boot_sector.specs.BootSectors.{boot_spelling}
use Rattle.sector_device.specs.Sectors.{sectors_of}
use Rattle.upcase_order.specs.Tables.{standard_table}
use Rattle.volume_format.specs.declared.layout.Layout.{Layout}
use Rattle.volume_format.specs.Layouts.{mirror_first, record_bits_first, table_first, upper_case_first, log_first, cluster_bits_first, block_first, used_clusters, layout_of}
use Rattle.volume_format.specs.Files.{table_bytes}
use Rattle.volume_format.specs.Indexes.{block_bytes}

-- bytes from the front of a cluster on
pub record Region : Type 0 where
  pub cluster : ℕ
  pub bytes : List ℕ

abbrev pub put_region : Region → List (List ℕ) → List (List ℕ)
put_region r disk = written (8 * r.cluster) (sectors_of r.bytes) disk

-- ---- the boot sector

-- clusters of eight sectors; `$MFT` is at cluster 4 and `$MFTMirr` at 2
abbrev pub boot_of : Layout → ℕ → Boot
boot_of v seed = record { per_cluster = 8; sectors = v.sectors; mft = table_first; mirror = mirror_first; serial = seed }

-- the boot sector and the fifteen sectors behind it
unfoldable pub boot_bytes : Layout → ℕ → List ℕ
boot_bytes v seed = boot_spelling (boot_of v seed) ++ zeros 7680

-- ---- bitmaps, the log and the table of upper-case units

-- the bits of records 0 to 23 are set, in a cluster
unfoldable pub record_bits : List ℕ
record_bits = 0xFF ∷ 0xFF ∷ 0xFF ∷ zeros 4093

-- a used cluster's bit is set, and so are the bits past the last cluster
abbrev pub cluster_bit : Layout → ℕ → ℕ
cluster_bit v i = if nat_lt i (used_clusters v) || nat_le v.clusters i then 1 else 0

-- eight bits, the lowest first
unfoldable pub cluster_bits_byte : Layout → ℕ → ℕ
cluster_bits_byte v i =
    cluster_bit v (8 * i) + 2 * cluster_bit v (8 * i + 1) + 4 * cluster_bit v (8 * i + 2) + 8 * cluster_bit v (8 * i + 3)
    + 16 * cluster_bit v (8 * i + 4) + 32 * cluster_bit v (8 * i + 5) + 64 * cluster_bit v (8 * i + 6) + 128 * cluster_bit v (8 * i + 7)

unfoldable pub cluster_bits : Layout → List ℕ
cluster_bits v = map (cluster_bits_byte v) (range_with_len 0 (4096 * v.bitmap_clusters))

-- an empty log is all FF
unfoldable pub log_bytes : Layout → List ℕ
log_bytes v = replicate (4096 * v.log_pages) 0xFF

unfoldable pub upper_case_bytes : List ℕ
upper_case_bytes = unit_bytes standard_table

-- ---- the image

-- what is written, in the order in which it is; no two regions share a sector
abbrev pub regions : Layout → ℕ → ℕ → List Region
regions v seed time =
    record { cluster = table_first; bytes = table_bytes v time 64 }
    ∷ record { cluster = mirror_first; bytes = table_bytes v time 4 }
    ∷ record { cluster = record_bits_first; bytes = record_bits }
    ∷ record { cluster = upper_case_first; bytes = upper_case_bytes }
    ∷ record { cluster = log_first; bytes = log_bytes v }
    ∷ record { cluster = cluster_bits_first v; bytes = cluster_bits v }
    ∷ record { cluster = block_first v; bytes = block_bytes v time }
    ∷ record { cluster = 0; bytes = boot_bytes v seed }
    ∷ []

abbrev pub put_regions : List Region → List (List ℕ) → List (List ℕ)
put_regions [] disk = disk
put_regions (r ∷ rs) disk = put_regions rs (put_region r disk)

-- what reads give, where it is known, after these regions were written
abbrev pub Puts : List Region → Option (List (List ℕ)) → Option (List (List ℕ)) → Type 0
Puts rs gives gives_now = gives_now ≡ option_map (put_regions rs) gives

-- The sectors after `format`, from those of before, a serial number and a time. Free clusters and what lies behind the
-- last cluster stay.
unfoldable pub formatted : List (List ℕ) → ℕ → ℕ → List (List ℕ)
formatted old seed time = put_regions (regions (layout_of (length old)) seed time) old
