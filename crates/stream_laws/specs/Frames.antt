-- What of a volume's streams, records and indexes two contents share, where they agree on the blocks that these lie in.
use Rattle.std.specs.Prelude.{◌≡◌, ℕ, ◌*◌, ◌<◌, min, List, Option, Some, None, slice_get, ⊤}
use Rattle.volume_model.specs.disk_model.declared.block.Block.{Block}
use Rattle.volume_model.specs.disk_model.declared.block.BlockKind.TheVariants.{Plain, FileRec}
use Rattle.volume_model.specs.disk_model.Content.{Content}
use Rattle.volume_model.specs.record_model.Records.{Record}
use Rattle.volume_model.specs.index_model.Indexes.{Place, node_of_block}
use Rattle.volume_model.specs.index_model.Walks.{walk_of, find_of}
use Rattle.volume_model.specs.state_model.declared.stream.Extents.{Extents}
use Rattle.volume_model.specs.state_model.declared.stream.Stream.{Stream}
use Rattle.volume_model.specs.state_model.declared.stream.Stream.TheVariants.{Held, Placed}
use Rattle.volume_model.specs.state_model.Streams.{block_at, extent_bytes, stream_bytes}
use Rattle.volume_model.specs.state_model.Loads.{table_slot, records_of}
use Rattle.volume_model.specs.Volumes.{Volume, bytes_or, record_bytes, is_in_use}
use Rattle.volume_model.specs.Indexes.{block_count, index_block, index_stream, index_place, index_links}

-- ---- streams

-- the block holds bytes of a stream in clusters: those of a sector that begins below the initialised and the real size
pub record IsRead (per : ℕ) (e : Extents) (b : Block) : Type 0 where
  pub sector : ℕ
  pub below : 512 * sector < min e.initialised e.real
  pub lies : block_at per e.runs Plain sector ≡ Some b

-- the contents have the same bytes in each block that holds bytes of the stream
abbrev pub SameBytesIn : Content → Content → ℕ → Extents → Type 0
SameBytesIn c d per e = (b : Block) → IsRead per e b → (d b).bytes ≡ (c b).bytes

abbrev pub SameBytesInStream : Content → Content → ℕ → Stream → Type 0
SameBytesInStream c d per (Held value) = ⊤
SameBytesInStream c d per (Placed e) = SameBytesIn c d per e

abbrev pub SameBytesInSome : Content → Content → ℕ → Option Stream → Type 0
SameBytesInSome c d per None = ⊤
SameBytesInSome c d per (Some s) = SameBytesInStream c d per s

-- then the stream has the same bytes in both
pub record FrameOfStreams : Type 0 where
  pub extents : (c d : Content) (per : ℕ) (e : Extents) → SameBytesIn c d per e → extent_bytes d per e ≡ extent_bytes c per e
  pub stream : (c d : Content) (per : ℕ) (s : Stream) → SameBytesInStream c d per s → stream_bytes d per s ≡ stream_bytes c per s
  pub of_file : (c d : Content) (per : ℕ) (s : Option Stream) → SameBytesInSome c d per s → bytes_or d per s ≡ bytes_or c per s

-- ---- file records

-- the block holds the file record with this number, which begins below the initialised size
pub record IsRecordBlock (per : ℕ) (e : Extents) (n : ℕ) (b : Block) : Type 0 where
  pub below : 1024 * n < e.initialised
  pub lies : block_at per e.runs FileRec n ≡ Some b

-- the contents have the same body in the record's block
abbrev pub SameRecordIn : Content → Content → ℕ → Extents → ℕ → Type 0
SameRecordIn c d per e n = (b : Block) → IsRecordBlock per e n b → d b ≡ c b

-- then the record is the same in both, and so are all the records in use where this holds of each
pub record FrameOfRecords : Type 0 where
  pub slot : (c d : Content) (per : ℕ) (e : Extents) (n : ℕ) → SameRecordIn c d per e n → table_slot d per e n ≡ table_slot c per e n
  pub records : (c d : Content) (per : ℕ) (e : Extents) (count : ℕ) → ((n : ℕ) → n < count → SameRecordIn c d per e n) → records_of (table_slot d per e) count ≡ records_of (table_slot c per e) count
  pub bytes : (c d : Content) (v : Volume) (n : ℕ) → SameRecordIn c d v.per v.table n → record_bytes d v n ≡ record_bytes c v n
  pub in_use : (c d : Content) (v : Volume) (n : ℕ) → SameRecordIn c d v.per v.table n → is_in_use d v n ≡ is_in_use c v n

-- ---- indexes

-- the contents have the same body in each block of an index
abbrev pub SameNodesIn : Content → Content → Place → Type 0
SameNodesIn c d p = (i : ℕ) (b : Block) → slice_get p.blocks i ≡ Some b → d b ≡ c b

-- the contents have the same body in each block of an index allocation
abbrev pub SameIndexIn : Content → Content → ℕ → Option Stream → Type 0
SameIndexIn c d per None = ⊤
SameIndexIn c d per (Some (Held value)) = ⊤
SameIndexIn c d per (Some (Placed e)) = (i : ℕ) → i < block_count per e → d (index_block per e i) ≡ c (index_block per e i)

-- then each node is the same in both, and so is what a walk and a search answer
pub record FrameOfIndexes : Type 0 where
  pub node : (c d : Content) (p : Place) (v : ℕ) → SameNodesIn c d p → node_of_block d p v ≡ node_of_block c p v
  pub walk : (c d : Content) (p : Place) (upper value : List ℕ) → SameNodesIn c d p → walk_of d p upper value ≡ walk_of c p upper value
  pub search : (c d : Content) (p : Place) (upper name value : List ℕ) → SameNodesIn c d p → find_of d p upper name value ≡ find_of c p upper name value
  pub of_directory : (c d : Content) (per : ℕ) (r : Record) → SameIndexIn c d per (index_stream r) → SameNodesIn c d (index_place per r)
  pub links : (c d : Content) (per : ℕ) (upper : List ℕ) (r : Record) → SameIndexIn c d per (index_stream r) → index_links d per upper r ≡ index_links c per upper r
