-- Boot sectors: reading one, the table of its fields, and the one spelling that is written.
use Rattle.std.specs.Prelude.{◌≡◌, ◌⊎◌, ℕ, ◌-◌, ◌*◌, ◌/◌, ◌<◌, ◌≤◌, ◌^◌, List, [], ◌∷◌, drop, nat_eq, nat_le, nat_lt, ◌==◌, ◌||◌, Bool, if◌then◌else◌, Result, Ok, codes}
use Rattle.std.specs.List.{starts_with}
use Rattle.host_base.specs.Answers.{◌>>=◌, needs}
use Rattle.disk_model.specs.Numbers.{field, spell}
use Rattle.disk_model.specs.Bytes.{part, zeros, written}
use Rattle.boot_sector.specs.declared.boot.Boot.{Boot}
use Rattle.boot_sector.specs.declared.boot.BootFault.{BootFault}
use Rattle.boot_sector.specs.declared.boot.BootFault.TheVariants.{NotNtfs, Geometry, VolumeLarge}

-- NTFS and four spaces
abbrev pub oem_name : List ℕ
oem_name = codes "NTFS    "

-- 55 AA
abbrev pub end_mark : List ℕ
end_mark = 0x55 ∷ 0xAA ∷ []

-- the sectors of a cluster
abbrev pub IsClusterSize : ℕ → Type 0
IsClusterSize n = (n ≡ 1) ⊎ (n ≡ 2) ⊎ (n ≡ 4) ⊎ (n ≡ 8)

-- the bytes that a raw byte says: below 0x80 so many clusters; else it is negative, and -v says 2^v
unfoldable pub bytes_said : ℕ → ℕ → ℕ
bytes_said per_cluster raw = if nat_lt raw 0x80 then raw * per_cluster * 512 else 2 ^ (0x100 - raw)

-- the most clusters that a volume has
abbrev pub most_clusters : ℕ
most_clusters = 16777216

abbrev pub clusters : Boot → ℕ
clusters b = b.sectors / b.per_cluster

-- ---- the reader

-- rule 1
unfoldable pub is_named : List ℕ → Bool
is_named bytes = starts_with nat_eq (drop 0x03 bytes) oem_name

-- rule 2
unfoldable pub is_marked : List ℕ → Bool
is_marked bytes = starts_with nat_eq (drop 0x1FE bytes) end_mark

abbrev pub is_cluster_size : ℕ → Bool
is_cluster_size n = n == 1 || n == 2 || n == 4 || n == 8

unfoldable pub fields_of : List ℕ → Boot
fields_of bytes = record { per_cluster = field 0x0D 1 bytes; sectors = field 0x28 8 bytes; mft = field 0x30 8 bytes; mirror = field 0x38 8 bytes; serial = field 0x48 8 bytes }

-- the test, or the field at this offset
abbrev pub keeps : Bool → ℕ → ℕ → Result (Unit {0}) BootFault
keeps test offset value = needs test (Geometry offset value)

-- rules 1 and 2
unfoldable pub signs_of : List ℕ → Result (Unit {0}) BootFault
signs_of bytes = needs (is_named bytes) (NotNtfs 1) >>= λ _. needs (is_marked bytes) (NotNtfs 2)

-- the fields up to the total sectors
unfoldable pub sizes_fit : List ℕ → Result (Unit {0}) BootFault
sizes_fit bytes =
    keeps (field 0x0B 2 bytes == 512) 0x0B (field 0x0B 2 bytes)
    >>= λ _. keeps (is_cluster_size (field 0x0D 1 bytes)) 0x0D (field 0x0D 1 bytes)
    >>= λ _. keeps (nat_le (field 0x0D 1 bytes) (field 0x28 8 bytes)) 0x28 (field 0x28 8 bytes)

-- the fields behind them
unfoldable pub places_fit : Boot → List ℕ → Result (Unit {0}) BootFault
places_fit b bytes =
    keeps (nat_lt b.mft (clusters b)) 0x30 b.mft
    >>= λ _. keeps (nat_lt b.mirror (clusters b)) 0x38 b.mirror
    >>= λ _. keeps (bytes_said b.per_cluster (field 0x40 1 bytes) == 1024) 0x40 (field 0x40 1 bytes)
    >>= λ _. keeps (bytes_said b.per_cluster (field 0x44 1 bytes) == 4096) 0x44 (field 0x44 1 bytes)

-- the fields, or the first that is at fault in the order of the table
abbrev pub boot_of : List ℕ → Result Boot BootFault
boot_of bytes =
    signs_of bytes
    >>= λ _. sizes_fit bytes
    >>= λ _. places_fit (fields_of bytes) bytes
    >>= λ _. needs (nat_le (clusters (fields_of bytes)) most_clusters) (VolumeLarge (clusters (fields_of bytes)))
    >>= λ _. Ok (fields_of bytes)

-- ---- the table

-- the numbers of a volume that is read and written
pub record IsInProfile (b : Boot) : Type 0 where
  pub per_cluster : IsClusterSize b.per_cluster
  pub mft : b.mft < clusters b
  pub mirror : b.mirror < clusters b
  pub small : clusters b ≤ most_clusters

-- the bytes spell these fields
pub record IsBootSector (bytes : List ℕ) (b : Boot) : Type 0 where
  pub name : part 0x03 8 bytes ≡ oem_name
  pub sector_bytes : field 0x0B 2 bytes ≡ 512
  pub per_cluster : field 0x0D 1 bytes ≡ b.per_cluster
  pub sectors : field 0x28 8 bytes ≡ b.sectors
  pub mft : field 0x30 8 bytes ≡ b.mft
  pub mirror : field 0x38 8 bytes ≡ b.mirror
  pub record_bytes : bytes_said b.per_cluster (field 0x40 1 bytes) ≡ 1024
  pub block_bytes : bytes_said b.per_cluster (field 0x44 1 bytes) ≡ 4096
  pub serial : field 0x48 8 bytes ≡ b.serial
  pub mark : part 0x1FE 2 bytes ≡ end_mark
  pub profile : IsInProfile b

-- ---- the spelling that is written

-- the clusters of an index block, as the byte at 44 says them: 8, 4, 2 or 1
abbrev pub block_clusters : Boot → ℕ
block_clusters b = 8 / b.per_cluster

-- These fields over zeros. The byte at 40 is F6, which says 1,024 bytes whatever a cluster has.
unfoldable pub boot_spelling : Boot → List ℕ
boot_spelling b =
    let named = written 0x03 oem_name (zeros 512) in
    let sized = written 0x0D (b.per_cluster ∷ []) (written 0x0B (spell 2 512) named) in
    let placed = written 0x38 (spell 8 b.mirror) (written 0x30 (spell 8 b.mft) (written 0x28 (spell 8 b.sectors) sized)) in
    let measured = written 0x44 (block_clusters b ∷ []) (written 0x40 (0xF6 ∷ []) placed) in
    written 0x1FE end_mark (written 0x48 (spell 8 b.serial) measured)

-- the fields have a spelling
pub record FitsBoot (b : Boot) : Type 0 where
  pub profile : IsInProfile b
  pub serial : b.serial < 2 ^ 64
