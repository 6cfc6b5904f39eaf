-- What writes to the blocks of file records change in the file table.
use Rattle.std.specs.Prelude.{◌≡◌, ◌≢◌, ℕ, ◌*◌, ◌<◌, List, slice_set, Some}
use Rattle.std.specs.List.{AllByRecursion}
use Rattle.volume_model.specs.disk_model.declared.block.Block.{Block}
use Rattle.volume_model.specs.disk_model.declared.block.BlockKind.TheVariants.{FileRec}
use Rattle.volume_model.specs.disk_model.Content.{Content, HasSizes}
use Rattle.volume_model.specs.disk_model.Writes.{Write, overlay}
use Rattle.volume_model.specs.record_model.declared.runs.Run.{Run}
use Rattle.volume_model.specs.state_model.declared.stream.Extents.{Extents}
use Rattle.volume_model.specs.state_model.Streams.{block_at}
use Rattle.volume_model.specs.state_model.Loads.{slot_of, table_slot, used_record, records_of}
use Rattle.volume_model.specs.Volumes.{Volume, record_bytes}
use Rattle.stream_laws.specs.Changes.{LeavesRecord}
use Rattle.stream_laws.specs.Places.{AreOnce}

-- the write is to the block of a file record other than this one
pub record IsInOther (per : ℕ) (runs : List Run) (m : ℕ) (w : Write) : Type 0 where
  pub number : ℕ
  pub differs : number ≢ m
  pub lies : block_at per runs FileRec number ≡ Some w.block

abbrev pub AreInOthers : ℕ → List Run → ℕ → List Write → Type 0
AreInOthers per runs m writes = AllByRecursion (IsInOther per runs m) writes

-- each write is to the block of this record
abbrev pub AreInRecord : ℕ → List Run → ℕ → List Write → Type 0
AreInRecord per runs n writes = AllByRecursion (λ w. block_at per runs FileRec n ≡ Some w.block) writes

-- Where no cluster lies twice in the file table, a record stays under writes to others.
pub record OthersStay : Type 0 where
  pub leaves : (writes : List Write) (per : ℕ) (e : Extents) (m : ℕ) → 0 < per → AreOnce e.runs → AreInOthers per e.runs m writes → LeavesRecord writes per e m
  pub slot : (c : Content) (writes : List Write) (per : ℕ) (e : Extents) (m : ℕ) → HasSizes c → 0 < per → AreOnce e.runs → AreInOthers per e.runs m writes → table_slot (overlay c writes) per e m ≡ table_slot c per e m
  pub body : (c : Content) (writes : List Write) (v : Volume) (m : ℕ) → HasSizes c → 0 < v.per → AreOnce v.table.runs → AreInOthers v.per v.table.runs m writes → record_bytes (overlay c writes) v m ≡ record_bytes c v m

-- Writes to the block of one record change that record alone; it becomes what its new body says.
pub record OneRecordChanged : Type 0 where
  pub others : (c : Content) (writes : List Write) (per : ℕ) (e : Extents) (n m : ℕ) → HasSizes c → 0 < per → AreOnce e.runs → AreInRecord per e.runs n writes → m ≢ n → table_slot (overlay c writes) per e m ≡ table_slot c per e m
  pub records : (c : Content) (writes : List Write) (per : ℕ) (e : Extents) (n count : ℕ) → HasSizes c → 0 < per → AreOnce e.runs → AreInRecord per e.runs n writes
      → records_of (table_slot (overlay c writes) per e) count ≡ slice_set (records_of (table_slot c per e) count) n (used_record (table_slot (overlay c writes) per e n))
  pub changed : (c : Content) (writes : List Write) (per : ℕ) (e : Extents) (n : ℕ) (b : Block) → 1024 * n < e.initialised → block_at per e.runs FileRec n ≡ Some b → table_slot (overlay c writes) per e n ≡ slot_of (overlay c writes b)
