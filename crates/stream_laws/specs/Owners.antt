-- The blocks that a volume owns.
use Rattle.std.specs.Prelude.{◌≡◌, ℕ, ◌*◌, ◌<◌, ◌==◌, ◌&&◌, ◌||◌, Bool, true, false, nat_eq, [], if◌then◌else◌, Option, Some, None}
use Rattle.std.specs.Cmp.Lexicographic.{pointwise}
use Rattle.volume_model.specs.disk_model.declared.block.Block.{Block}
use Rattle.volume_model.specs.disk_model.declared.block.BlockKind.{BlockKind}
use Rattle.volume_model.specs.disk_model.declared.block.BlockKind.TheVariants.{Plain, FileRec, Index}
use Rattle.volume_model.specs.disk_model.Sectors.{sectors, overlap, are_rivals}
use Rattle.volume_model.specs.record_model.Constants.{data_type, index_allocation}
use Rattle.volume_model.specs.state_model.declared.stream.Stream.{Stream}
use Rattle.volume_model.specs.state_model.declared.stream.Stream.TheVariants.{Held, Placed}
use Rattle.volume_model.specs.state_model.Streams.{block_at}
use Rattle.volume_model.specs.Volumes.{Volume, table_file, mirror_file}
use Rattle.volume_model.specs.Owners.{volume_runs}
use Rattle.stream_laws.specs.Places.{AreOnce}
use Rattle.stream_laws.specs.Sharing.{StreamKey, stream_at, runs_in}

-- the unnamed data of $MFT or of $MFTMirr
abbrev pub holds_records : StreamKey → Bool
holds_records s = (s.file == table_file || s.file == mirror_file) && s.kind == data_type && pointwise nat_eq s.name []

-- the kind of a stream's blocks: file records in the data of $MFT and $MFTMirr, index blocks in an index allocation, sectors elsewhere
unfoldable pub stream_kind : StreamKey → BlockKind
stream_kind s = if holds_records s then FileRec else if s.kind == index_allocation then Index else Plain

-- the initialised size of a stream in clusters; a value in a record has no clusters
abbrev pub initialised_in : Option Stream → ℕ
initialised_in None = 0
initialised_in (Some (Held value)) = 0
initialised_in (Some (Placed e)) = e.initialised

-- The volume owns the block: it is a block of a stream's kind, in clusters of that stream, also past its sizes.
pub record Owns (v : Volume) (b : Block) : Type 0 where
  pub stream : StreamKey
  pub number : ℕ
  pub lies : block_at v.per (runs_in (stream_at v stream)) (stream_kind stream) number ≡ Some b

-- It is owned, and not wholly past its stream's initialised size.
pub record IsLive (v : Volume) (b : Block) : Type 0 where
  pub owned : Owns v b
  pub begins : 512 * (sectors (stream_kind owned.stream) * owned.number) < initialised_in (stream_at v owned.stream)

-- Where no cluster lies twice in a volume, two blocks that it owns and that share a sector are one block, at one place of one stream. So no
-- block that it owns has a rival that it owns, and whether a block is live is the same by whatever place it is owned.
pub record OwnedOnce : Type 0 where
  pub one : (v : Volume) (a b : Block) → 0 < v.per → AreOnce (volume_runs v.files) → Owns v a → Owns v b → overlap a b ≡ true → a ≡ b
  pub no_rivals : (v : Volume) (a b : Block) → 0 < v.per → AreOnce (volume_runs v.files) → Owns v a → Owns v b → are_rivals a b ≡ false
  pub place : (v : Volume) (b : Block) → 0 < v.per → AreOnce (volume_runs v.files) → (first second : Owns v b) → (first.stream ≡ second.stream) × (first.number ≡ second.number)
  pub live : (v : Volume) (b : Block) → 0 < v.per → AreOnce (volume_runs v.files) → IsLive v b → (owned : Owns v b) → 512 * (sectors (stream_kind owned.stream) * owned.number) < initialised_in (stream_at v owned.stream)
