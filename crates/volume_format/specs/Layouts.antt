-- Where everything of a new volume lies, in clusters of eight sectors of 512 bytes. Clusters 0 and 1 are the boot sector's,
-- 2 is the mirror, 3 the bitmap of the file table, 4 to 19 the file table, 20 to 51 the table of upper-case units; from 52 on
-- lie the log, the bitmap of the clusters and the one index block of the root.
use Rattle.std.specs.Prelude.{◌≡◌, ℕ, ◌+◌, ◌-◌, ◌*◌, ◌/◌, ◌≤◌}
use Rattle.disk_model.specs.Bytes.{up8}
use Rattle.boot_sector.specs.BootSectors.{most_clusters}
use Rattle.volume_format.specs.declared.layout.Layout.{Layout}

abbrev pub mirror_first : ℕ
mirror_first = 2

abbrev pub record_bits_first : ℕ
record_bits_first = 3

abbrev pub table_first : ℕ
table_first = 4

abbrev pub upper_case_first : ℕ
upper_case_first = 20

abbrev pub log_first : ℕ
log_first = 52

abbrev pub cluster_bits_first : Layout → ℕ
cluster_bits_first v = 52 + v.log_pages

abbrev pub block_first : Layout → ℕ
block_first v = 52 + v.log_pages + v.bitmap_clusters

-- the clusters from the first one on that are used
abbrev pub used_clusters : Layout → ℕ
used_clusters v = 53 + v.log_pages + v.bitmap_clusters

-- the clusters that are free
abbrev pub room : Layout → ℕ
room v = v.clusters - used_clusters v

-- the bytes of the bitmap of the clusters: one for eight of them, and a multiple of 8
abbrev pub cluster_bits_bytes : Layout → ℕ
cluster_bits_bytes v = up8 ((v.clusters + 7) / 8)

-- ---- from the sectors of the device

-- the last sector of a device isn't the volume's
abbrev pub volume_sectors : ℕ → ℕ
volume_sectors device = device - 1

abbrev pub clusters_of : ℕ → ℕ
clusters_of device = volume_sectors device / 8

-- the least number of sectors of a device, on which every cluster is used
abbrev pub least_sectors : ℕ
least_sectors = 4537

-- 512 pages, and one more for each 12,288 clusters or part of them
abbrev pub log_pages_of : ℕ → ℕ
log_pages_of clusters = 512 + ((clusters + 4095) / 4096 + 2) / 3

-- a bit for each cluster
abbrev pub bitmap_clusters_of : ℕ → ℕ
bitmap_clusters_of clusters = (clusters + 32767) / 32768

unfoldable pub layout_of : ℕ → Layout
layout_of device = record {
  sectors = volume_sectors device;
  clusters = clusters_of device;
  log_pages = log_pages_of (clusters_of device);
  bitmap_clusters = bitmap_clusters_of (clusters_of device);
}

-- the calls of a device that write so many clusters in pieces of 64 KiB
abbrev pub piece_calls : ℕ → ℕ
piece_calls clusters = (clusters + 15) / 16

-- The writes of a device: one for each region, but one for each piece of the table of upper-case units, the log and the
-- bitmap of the clusters.
abbrev pub device_writes : Layout → ℕ
device_writes v = 5 + piece_calls 32 + piece_calls v.log_pages + piece_calls v.bitmap_clusters

-- all calls of a device: the writes, and the sync
abbrev pub device_calls : Layout → ℕ
device_calls v = device_writes v + 1

-- a layout of a volume: all that is used lies in the volume, and the volume isn't too large
pub record IsLayout (v : Layout) : Type 0 where
  pub inside : used_clusters v ≤ v.clusters
  pub clusters : v.sectors / 8 ≡ v.clusters
  pub small : v.clusters ≤ most_clusters
  pub log_some : 512 ≤ v.log_pages
  pub log_small : v.log_pages ≤ 2048
  pub bitmap_some : 1 ≤ v.bitmap_clusters
  pub bitmap_small : v.bitmap_clusters ≤ 512
  pub bitmap_whole : v.clusters ≤ 32768 * v.bitmap_clusters
