-- What writes to blocks change in a volume's streams, and what they leave.
use Rattle.std.specs.Prelude.{◌≡◌, ℕ, ◌/◌, ◌%◌, ◌<◌, ◌≤◌, List, length, slice_index, unwrap_or, false, Option, Some, None, ⊤}
use Rattle.std.specs.List.{AllByRecursion}
use Rattle.volume_model.specs.disk_model.declared.block.Block.{Block}
use Rattle.volume_model.specs.disk_model.declared.block.BlockKind.TheVariants.{Plain}
use Rattle.volume_model.specs.disk_model.Sectors.{overlap}
use Rattle.volume_model.specs.disk_model.Content.{Content, HasSizes}
use Rattle.volume_model.specs.disk_model.Writes.{Write, overlay, last_put}
use Rattle.volume_model.specs.disk_model.Laws.{IsElsewhere}
use Rattle.volume_model.specs.record_model.declared.runs.Run.{Run}
use Rattle.volume_model.specs.record_model.Records.{Record}
use Rattle.volume_model.specs.state_model.declared.stream.Extents.{Extents}
use Rattle.volume_model.specs.state_model.declared.stream.Stream.{Stream}
use Rattle.volume_model.specs.state_model.declared.stream.Stream.TheVariants.{Held, Placed}
use Rattle.volume_model.specs.state_model.Streams.{block_at, extent_bytes}
use Rattle.volume_model.specs.state_model.Loads.{table_slot, records_of}
use Rattle.volume_model.specs.Volumes.{Volume, bytes_or, record_bytes, is_in_use}
use Rattle.volume_model.specs.Indexes.{block_count, index_block, index_stream, index_links}
use Rattle.stream_laws.specs.Frames.{IsRead, IsRecordBlock}

-- ---- bytes

-- what the last of the writes that cover this byte of a block puts there; nothing where there is no block
abbrev pub put_in : List Write → Option Block → ℕ → Option ℕ
put_in writes None i = None
put_in writes (Some b) i = last_put writes b i

-- what the last of the writes that cover this byte of a stream puts there
abbrev pub stream_put : List Write → ℕ → List Run → ℕ → Option ℕ
stream_put writes per runs i = put_in writes (block_at per runs Plain (i / 512)) (i % 512)

-- A stream keeps its size. A byte below the initialised size is what the last write that covers it puts there, else that from
-- before; one past it stays.
pub record BytesAfterWrites : Type 0 where
  pub size : (c : Content) (per : ℕ) (e : Extents) → length (extent_bytes c per e) ≡ e.real
  pub below : (c : Content) (writes : List Write) (per : ℕ) (e : Extents) (i : ℕ) → HasSizes c → i < e.real → i < e.initialised
      → slice_index (extent_bytes (overlay c writes) per e) i ≡ unwrap_or (stream_put writes per e.runs i) (slice_index (extent_bytes c per e) i)
  pub past : (c : Content) (writes : List Write) (per : ℕ) (e : Extents) (i : ℕ) → e.initialised ≤ i → slice_index (extent_bytes (overlay c writes) per e) i ≡ slice_index (extent_bytes c per e) i

-- ---- what stays

-- no write is to this block
abbrev pub AreElsewhere : List Write → Block → Type 0
AreElsewhere writes b = AllByRecursion (IsElsewhere b) writes

-- no write is to a block that holds bytes of the stream
abbrev pub LeavesBytes : List Write → ℕ → Option Stream → Type 0
LeavesBytes writes per None = ⊤
LeavesBytes writes per (Some (Held value)) = ⊤
LeavesBytes writes per (Some (Placed e)) = (b : Block) → IsRead per e b → AreElsewhere writes b

-- no write is to the block of this file record
abbrev pub LeavesRecord : List Write → ℕ → Extents → ℕ → Type 0
LeavesRecord writes per e n = (b : Block) → IsRecordBlock per e n b → AreElsewhere writes b

-- no write is to a block of an index allocation
abbrev pub LeavesIndex : List Write → ℕ → Option Stream → Type 0
LeavesIndex writes per None = ⊤
LeavesIndex writes per (Some (Held value)) = ⊤
LeavesIndex writes per (Some (Placed e)) = (i : ℕ) → i < block_count per e → AreElsewhere writes (index_block per e i)

-- A write to a block that shares no sector with this one is elsewhere. Where no write is to a block of theirs, the bytes of a
-- stream, a file record, its body and the names of an index stay.
pub record StaysElsewhere : Type 0 where
  pub apart : (b : Block) (w : Write) → overlap b w.block ≡ false → IsElsewhere b w
  pub bytes : (c : Content) (writes : List Write) (per : ℕ) (s : Option Stream) → LeavesBytes writes per s → bytes_or (overlay c writes) per s ≡ bytes_or c per s
  pub slot : (c : Content) (writes : List Write) (per : ℕ) (e : Extents) (n : ℕ) → HasSizes c → LeavesRecord writes per e n → table_slot (overlay c writes) per e n ≡ table_slot c per e n
  pub records : (c : Content) (writes : List Write) (per : ℕ) (e : Extents) (count : ℕ) → HasSizes c → ((n : ℕ) → n < count → LeavesRecord writes per e n) → records_of (table_slot (overlay c writes) per e) count ≡ records_of (table_slot c per e) count
  pub body : (c : Content) (writes : List Write) (v : Volume) (n : ℕ) → HasSizes c → LeavesRecord writes v.per v.table n → record_bytes (overlay c writes) v n ≡ record_bytes c v n
  pub in_use : (c : Content) (writes : List Write) (v : Volume) (n : ℕ) → HasSizes c → LeavesRecord writes v.per v.table n → is_in_use (overlay c writes) v n ≡ is_in_use c v n
  pub links : (c : Content) (writes : List Write) (per : ℕ) (upper : List ℕ) (r : Record) → HasSizes c → LeavesIndex writes per (index_stream r) → index_links (overlay c writes) per upper r ≡ index_links c per upper r
