-- The live blocks of a volume, and which of them are shadowed.
use Rattle.std.specs.Prelude.{ℕ, ◌*◌, if◌then◌else◌, List, [], length, Option, Some, None}
use Rattle.std.specs.List.{filter_map, flat_map, range_with_len}
use Rattle.disk_model.specs.declared.block.Block.{Block}
use Rattle.disk_model.specs.declared.block.BlockKind.{BlockKind}
use Rattle.disk_model.specs.Sectors.{sectors, same_block}
use Rattle.state_model.specs.record_model.declared.attribute.Attr.{Attr}
use Rattle.state_model.specs.record_model.Records.{Record}
use Rattle.state_model.specs.declared.stream.Stream.{Stream}
use Rattle.state_model.specs.declared.stream.Stream.TheVariants.{Held, Placed}
use Rattle.state_model.specs.Files.{file_at}
use Rattle.state_model.specs.Loads.{table_in}
use Rattle.state_model.specs.Streams.{stream_of, block_at}
use Rattle.stream_laws.specs.volume_model.Volumes.{Volume}
use Rattle.stream_laws.specs.volume_model.Sizes.{begun}
use Rattle.stream_laws.specs.Sharing.{StreamKey}
use Rattle.stream_laws.specs.Owners.{stream_kind}
use Rattle.log_recovery.specs.declared.found.Shadow.{Shadow}
use Rattle.volume_shadows.specs.Least.{least_of}

-- ---- blocks

-- the stream that an attribute of the file with this number belongs to
abbrev pub stream_key : ℕ → Attr → StreamKey
stream_key n a = record { file = n; kind = a.head.kind; name = a.name }

-- the blocks of this kind of a stream in clusters that aren't wholly past its initialised size
unfoldable pub blocks_in : ℕ → BlockKind → Option Stream → List Block
blocks_in per kind None = []
blocks_in per kind (Some (Held value)) = []
blocks_in per kind (Some (Placed e)) = filter_map (block_at per e.runs kind) (range_with_len 0 (begun (512 * sectors kind) e.initialised))

-- those of the stream that an attribute among these belongs to
abbrev pub attr_blocks : ℕ → ℕ → List Attr → Attr → List Block
attr_blocks per n attrs a = blocks_in per (stream_kind (stream_key n a)) (stream_of a.head.kind a.name attrs)

abbrev pub file_blocks : ℕ → ℕ → Option Record → List Block
file_blocks per n None = []
file_blocks per n (Some r) = flat_map (attr_blocks per n r.attrs) r.attrs

-- those of all files, by number; the blocks of a stream stand there for each of its attributes
unfoldable pub live_in : ℕ → List (Option Record) → List Block
live_in per files = flat_map (λ n. file_blocks per n (file_at (table_in files) n)) (range_with_len 0 (length files))

abbrev pub live_blocks : Volume → List Block
live_blocks v = live_in v.per v.files

-- ---- shadows

-- the LSN that a shadow says of a block
abbrev pub shadow_at : Block → Shadow → Option ℕ
shadow_at b s = if same_block b s.block then Some s.lsn else None

-- the least LSN that is said of it
abbrev pub least_lsn : List Shadow → Block → Option ℕ
least_lsn shadows b = least_of (shadow_at b) shadows

-- the least of what is said of live blocks
unfoldable pub least_live : (Block → Option ℕ) → Volume → Option ℕ
least_live said v = least_of said (live_blocks v)
