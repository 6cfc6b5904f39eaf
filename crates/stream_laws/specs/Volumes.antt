-- When a volume stays: where two contents agree on the blocks that its file table is read from, it is the same volume.
use Rattle.std.specs.Prelude.{◌≡◌, ℕ, ◌<◌, List, Option, Some, Ok}
use Rattle.volume_model.specs.disk_model.Content.{Content, HasSizes}
use Rattle.volume_model.specs.disk_model.Writes.{Write, overlay}
use Rattle.volume_model.specs.record_model.Records.{Record}
use Rattle.volume_model.specs.state_model.declared.geometry.Geometry.{Geometry}
use Rattle.volume_model.specs.state_model.declared.stream.Extents.{Extents}
use Rattle.volume_model.specs.state_model.Files.{file_at}
use Rattle.volume_model.specs.state_model.Loads.{boot_block, record_count, table_of, table_slot, records_of, table_in, list_stream, data_stream, files_in}
use Rattle.volume_model.specs.Volumes.{Volume, volume_of, file_in, bytes_or, cluster_bitmap, record_bitmap, cluster_bits, record_bits}
use Rattle.volume_model.specs.Nodes.{node_at}
use Rattle.stream_laws.specs.Frames.{SameBytesInSome, SameRecordIn}
use Rattle.stream_laws.specs.Changes.{AreElsewhere, LeavesBytes, LeavesRecord}

-- the base record in use with this number, without what its attribute list names
abbrev pub base_record : Content → ℕ → Extents → ℕ → Option Record
base_record c per e n = file_at (table_in (records_of (table_slot c per e) (record_count e))) n

-- the contents have the same bodies in the blocks of the file table's records, and the same bytes in each attribute list
pub record SameTableIn (c d : Content) (per : ℕ) (e : Extents) : Type 0 where
  pub records : (n : ℕ) → n < record_count e → SameRecordIn c d per e n
  pub lists : (n : ℕ) (r : Record) → base_record c per e n ≡ Some r → SameBytesInSome c d per (list_stream r)

-- no write is to a block of the file table's records, nor to one that holds bytes of an attribute list
pub record LeavesTable (c : Content) (writes : List Write) (per : ℕ) (e : Extents) : Type 0 where
  pub records : (n : ℕ) → n < record_count e → LeavesRecord writes per e n
  pub lists : (n : ℕ) (r : Record) → base_record c per e n ≡ Some r → LeavesBytes writes per (list_stream r)

-- Then the files are the same, or what refuses them; so is the volume, where record 0 is the same at its place by the boot
-- sector.
pub record FrameOfVolumes : Type 0 where
  pub files : (c d : Content) (per : ℕ) (e : Extents) → SameTableIn c d per e → files_in d per e ≡ files_in c per e
  pub volume : (c d : Content) (g : Geometry) (clusters : ℕ) → d (boot_block g 0) ≡ c (boot_block g 0) → ((e : Extents) → table_of c g ≡ Ok e → SameTableIn c d g.per_cluster e) → volume_of d g clusters ≡ volume_of c g clusters
  pub stays : (c : Content) (writes : List Write) (g : Geometry) (clusters : ℕ) → HasSizes c → AreElsewhere writes (boot_block g 0) → ((e : Extents) → table_of c g ≡ Ok e → LeavesTable c writes g.per_cluster e)
      → volume_of (overlay c writes) g clusters ≡ volume_of c g clusters

-- the contents have the same bytes in the unnamed data of the file
abbrev pub SameDataIn : Content → Content → Volume → ℕ → Type 0
SameDataIn c d v n = (r : Record) → file_in v n ≡ Some r → SameBytesInSome c d v.per (data_stream r)

-- The bits of a bitmap, and a node with its bytes, are the same where the contents agree on the stream.
pub record FrameOfNodes : Type 0 where
  pub clusters : (c d : Content) (v : Volume) → SameBytesInSome c d v.per (cluster_bitmap v) → cluster_bits d v ≡ cluster_bits c v
  pub records : (c d : Content) (v : Volume) → SameBytesInSome c d v.per (record_bitmap v) → record_bits d v ≡ record_bits c v
  pub node : (c d : Content) (v : Volume) (n : ℕ) → SameDataIn c d v n → node_at (bytes_or d v.per) v n ≡ node_at (bytes_or c v.per) v n
