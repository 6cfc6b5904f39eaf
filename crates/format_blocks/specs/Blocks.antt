-- The blocks of a new volume, as they are read.
use Rattle.std.specs.Prelude.{◌≡◌, ℕ, false, ◌+◌, ◌*◌, ◌<◌, ◌≤◌, List, length}
use Rattle.disk_model.specs.declared.block.Block.{Block}
use Rattle.disk_model.specs.declared.block.Body.{Body}
use Rattle.disk_model.specs.declared.block.BlockKind.{BlockKind}
use Rattle.disk_model.specs.declared.block.BlockKind.TheVariants.{Plain, FileRec, Index}
use Rattle.disk_model.specs.Content.{Content, content_of}
use Rattle.disk_model.specs.Sectors.{sector_of}
use Rattle.sector_device.specs.Sectors.{sector_in}
use Rattle.record_model.specs.Records.{record_spelling}
use Rattle.record_model.specs.Nodes.{node_spelling}
use Rattle.boot_sector.specs.BootSectors.{boot_spelling}
use Rattle.volume_format.specs.declared.layout.Layout.{Layout}
use Rattle.volume_format.specs.Layouts.{mirror_first, record_bits_first, table_first, upper_case_first, log_first, cluster_bits_first, block_first, layout_of}
use Rattle.volume_format.specs.Files.{record_of}
use Rattle.volume_format.specs.Indexes.{root_node}
use Rattle.volume_format.specs.Images.{boot_of, record_bits, upper_case_bytes, log_bytes, cluster_bits, formatted}
use Rattle.format_blocks.specs.Regions.{CanFormat}

abbrev pub block : ℕ → BlockKind → Block
block first kind = record { first = first; kind = kind }

-- a body that isn't torn
abbrev pub whole : List ℕ → Body
whole bytes = record { bytes = bytes; torn = false }

-- each whole sector of these bytes is read in its place from the front of a cluster on
abbrev pub HasSectors : Content → ℕ → List ℕ → Type 0
HasSectors c cluster bytes = (k : ℕ) → 512 * (k + 1) ≤ length bytes → c (block (8 * cluster + k) Plain) ≡ whole (sector_in bytes k)

-- what is read of a new volume: its boot sector, the records of the file table and of its mirror, the root's block, and the
-- sectors of bitmaps, the table of upper-case units and the log
pub record HasBlocks (v : Layout) (seed time : ℕ) (c : Content) : Type 0 where
  pub boot : c (block 0 Plain) ≡ whole (boot_spelling (boot_of v seed))
  pub table : (n : ℕ) → n < 64 → c (block (8 * table_first + 2 * n) FileRec) ≡ whole (record_spelling (record_of v time n))
  pub mirror : (n : ℕ) → n < 4 → c (block (8 * mirror_first + 2 * n) FileRec) ≡ whole (record_spelling (record_of v time n))
  pub root : c (block (8 * block_first v) Index) ≡ whole (node_spelling (root_node v time))
  pub record_bits_read : HasSectors c record_bits_first record_bits
  pub upper_case : HasSectors c upper_case_first upper_case_bytes
  pub log : HasSectors c log_first (log_bytes v)
  pub cluster_bits_read : HasSectors c (cluster_bits_first v) (cluster_bits v)

abbrev pub NewBlocksAreRead : Type 0
NewBlocksAreRead = (old : List (List ℕ)) (seed time : ℕ) → CanFormat old seed time → HasBlocks (layout_of (length old)) seed time (content_of (sector_of (formatted old seed time)))
