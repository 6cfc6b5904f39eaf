-- What writes to the blocks of other streams and to free clusters leave.
use Rattle.std.specs.Prelude.{◌≡◌, ◌≢◌, ◌⊎◌, ℕ, ◌/◌, ◌<◌, ◌≤◌, false, List, Some}
use Rattle.std.specs.List.{AllByRecursion}
use Rattle.volume_model.specs.disk_model.declared.block.Block.{Block}
use Rattle.volume_model.specs.disk_model.declared.block.BlockKind.{BlockKind}
use Rattle.volume_model.specs.disk_model.Sectors.{HasSector, overlap}
use Rattle.volume_model.specs.disk_model.Content.{Content}
use Rattle.volume_model.specs.disk_model.Writes.{Write}
use Rattle.volume_model.specs.record_model.declared.runs.Run.{Run}
use Rattle.volume_model.specs.state_model.declared.geometry.Geometry.{Geometry}
use Rattle.volume_model.specs.state_model.Streams.{block_at}
use Rattle.volume_model.specs.Volumes.{Volume}
use Rattle.volume_model.specs.Indexes.{void_block}
use Rattle.volume_model.specs.Owners.{volume_runs, uses}
use Rattle.stream_laws.specs.Changes.{AreElsewhere, LeavesBytes, LeavesRecord, LeavesIndex}
use Rattle.stream_laws.specs.Places.{AreOnce}
use Rattle.stream_laws.specs.Sharing.{StreamKey, stream_at, runs_in}
use Rattle.stream_laws.specs.Tables.{table_key, BeginsAtBoot}

-- the write is to a block, of whatever kind, of a stream other than this one
pub record IsInAnother (v : Volume) (s : StreamKey) (w : Write) : Type 0 where
  pub stream : StreamKey
  pub differs : s ≢ stream
  pub kind : BlockKind
  pub number : ℕ
  pub lies : block_at v.per (runs_in (stream_at v stream)) kind number ≡ Some w.block

-- no run of the volume has a cluster of the block
abbrev pub LiesFree : Volume → Block → Type 0
LiesFree v b = (s : ℕ) → HasSector b s → uses (volume_runs v.files) (s / v.per) ≡ 0

-- each write is to a block of another stream, or to one in free clusters
abbrev pub SpareStream : Volume → StreamKey → List Write → Type 0
SpareStream v s writes = AllByRecursion (λ w. IsInAnother v s w ⊎ LiesFree v w.block) writes

-- A block in free clusters shares no sector with one of a stream. A block in runs that have none of the volume's clusters lies free.
pub record FreeBlocksApart : Type 0 where
  pub apart : (v : Volume) (s : StreamKey) (kind : BlockKind) (n : ℕ) (b free : Block) → 0 < v.per → LiesFree v free → block_at v.per (runs_in (stream_at v s)) kind n ≡ Some b → overlap b free ≡ false
  pub of_runs : (v : Volume) (runs : List Run) (kind : BlockKind) (n : ℕ) (b : Block) → 0 < v.per → ((x : ℕ) → 1 ≤ uses runs x → uses (volume_runs v.files) x ≡ 0) → block_at v.per runs kind n ≡ Some b → LiesFree v b

-- Where no cluster lies twice in a volume, such writes leave the bytes of this stream and the blocks of this index allocation; and
-- the records of the file table, if this stream is the table. No block past the end of every disk is written to.
pub record OtherStreamsStay : Type 0 where
  pub bytes : (v : Volume) (s : StreamKey) (writes : List Write) → 0 < v.per → AreOnce (volume_runs v.files) → SpareStream v s writes → LeavesBytes writes v.per (stream_at v s)
  pub index : (v : Volume) (s : StreamKey) (writes : List Write) → 0 < v.per → AreOnce (volume_runs v.files) → SpareStream v s writes → AreElsewhere writes void_block → LeavesIndex writes v.per (stream_at v s)
  pub record_of : (c : Content) (g : Geometry) (clusters : ℕ) (v : Volume) (writes : List Write) (n : ℕ) → BeginsAtBoot c g clusters v → 0 < v.per → AreOnce (volume_runs v.files) → SpareStream v table_key writes → LeavesRecord writes v.per v.table n
