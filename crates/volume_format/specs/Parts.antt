-- The regions of a new volume that are made in memory before any is written.
use Rattle.std.specs.Prelude.{◌≡◌, ℕ, List, [], ◌∷◌, length}
use Rattle.volume_format.specs.declared.layout.Layout.{Layout}
use Rattle.volume_format.specs.declared.parts.Parts.{Parts}
use Rattle.volume_format.specs.Layouts.{table_first, mirror_first, record_bits_first, upper_case_first, log_first, cluster_bits_first, block_first}
use Rattle.volume_format.specs.Files.{table_bytes}
use Rattle.volume_format.specs.Indexes.{block_bytes}
use Rattle.volume_format.specs.Images.{Region, record_bits, boot_bytes, upper_case_bytes, log_bytes, cluster_bits}

pub record HaveSizes (p : Parts) : Type 0 where
  pub table : length p.table.items ≡ 65536
  pub mirror : length p.mirror.items ≡ 4096
  pub record_bits : length p.record_bits.items ≡ 4096
  pub block : length p.block.items ≡ 4096
  pub boot : length p.boot.items ≡ 8192

pub record ArePartsOf (v : Layout) (seed time : ℕ) (p : Parts) : Type 0 where
  pub table : p.table.items ≡ table_bytes v time 64
  pub mirror : p.mirror.items ≡ table_bytes v time 4
  pub record_bits : p.record_bits.items ≡ record_bits
  pub block : p.block.items ≡ block_bytes v time
  pub boot : p.boot.items ≡ boot_bytes v seed
  pub sizes : HaveSizes p

-- the regions of a volume, with these for what was made in memory
abbrev pub regions_of : Layout → Parts → List Region
regions_of v p =
    record { cluster = table_first; bytes = p.table.items }
    ∷ record { cluster = mirror_first; bytes = p.mirror.items }
    ∷ record { cluster = record_bits_first; bytes = p.record_bits.items }
    ∷ record { cluster = upper_case_first; bytes = upper_case_bytes }
    ∷ record { cluster = log_first; bytes = log_bytes v }
    ∷ record { cluster = cluster_bits_first v; bytes = cluster_bits v }
    ∷ record { cluster = block_first v; bytes = p.block.items }
    ∷ record { cluster = 0; bytes = p.boot.items }
    ∷ []
