-- What writes to the blocks of other streams and to free clusters leave.
use Rattle.std.proofs.Common.{◌≡◌, ℕ, ◌*◌, ◌/◌, ◌<◌, ◌≤◌, Bool, true, false, cond, leb, List, [], ◌∷◌, Option, Some, None, refl, ap, ◌∙◌, inl, inr, arith}
use Rattle.volume_model.specs.disk_model.declared.block.Block.{Block}
use Rattle.volume_model.specs.disk_model.declared.block.BlockKind.{BlockKind}
use Rattle.volume_model.specs.disk_model.declared.block.BlockKind.TheVariants.{Plain, FileRec, Index}
use Rattle.volume_model.specs.disk_model.Sectors.{overlap}
use Rattle.volume_model.specs.disk_model.Content.{Content}
use Rattle.volume_model.specs.disk_model.Writes.{Write}
use Rattle.volume_model.specs.record_model.declared.runs.Run.{Run}
use Rattle.volume_model.specs.state_model.declared.geometry.Geometry.{Geometry}
use Rattle.volume_model.specs.state_model.declared.stream.Stream.{Stream}
use Rattle.volume_model.specs.state_model.declared.stream.Stream.TheVariants.{Held, Placed}
use Rattle.volume_model.specs.state_model.Streams.{block_at}
use Rattle.volume_model.specs.Volumes.{Volume}
use Rattle.volume_model.specs.Indexes.{void_block, or_void, index_block}
use Rattle.volume_model.specs.Owners.{volume_runs, uses}
use Rattle.stream_laws.specs.Changes.{AreElsewhere, LeavesBytes, LeavesRecord, LeavesIndex}
use Rattle.stream_laws.specs.Places.{AreOnce}
use Rattle.stream_laws.specs.Sharing.{StreamKey, stream_at, runs_in}
use Rattle.stream_laws.specs.Tables.{table_key, BeginsAtBoot}
use Rattle.stream_laws.specs.Leaving.{LiesFree, SpareStream}
use Rattle.stream_laws.proofs.Changing.{apart_elsewhere}
use Rattle.stream_laws.proofs.Placing.{lies_in_used, apart_from_unused}
use Rattle.stream_laws.proofs.Sharing.{stream_of_volume, stream_blocks_apart}
use Rattle.stream_laws.proofs.Tabling.{table_runs}

-- ---- free clusters

pub free_apart : (v : Volume) (s : StreamKey) (kind : BlockKind) (n : ℕ) (b free : Block) → 0 < v.per → LiesFree v free → block_at v.per (runs_in (stream_at v s)) kind n ≡ Some b → overlap b free ≡ false
free_apart v s kind n b free some lies at =
    apart_from_unused v.per (runs_in (stream_at v s)) kind n b free some at (λ d has. omega (arith, stream_of_volume v s (d / v.per), lies d has))

pub free_in_runs : (v : Volume) (runs : List Run) (kind : BlockKind) (n : ℕ) (b : Block) → 0 < v.per → ((x : ℕ) → 1 ≤ uses runs x → uses (volume_runs v.files) x ≡ 0) → block_at v.per runs kind n ≡ Some b → LiesFree v b
free_in_runs v runs kind n b some unused at d has = unused (d / v.per) (lies_in_used v.per runs kind n b some at d has)

-- ---- what stays

-- no such write is to a block of the stream
pub block_left : (v : Volume) (s : StreamKey) (writes : List Write) (kind : BlockKind) (n : ℕ) (b : Block) → 0 < v.per → AreOnce (volume_runs v.files) → SpareStream v s writes → block_at v.per (runs_in (stream_at v s)) kind n ≡ Some b → AreElsewhere writes b
block_left v s [] kind n b some once all is = tt
block_left v s (w ∷ writes) kind n b some once all is = (
  elim all.0 [
    | inl other ↦ apart_elsewhere b w (stream_blocks_apart v s other.stream kind other.kind n other.number b w.block some once other.differs is other.lies)
    | inr free ↦ apart_elsewhere b w (free_apart v s kind n b w.block some free is)
  ],
  block_left v s writes kind n b some once all.1 is,
)

bytes_in : (writes : List Write) (per : ℕ) (o : Option Stream) → ((kind : BlockKind) (n : ℕ) (b : Block) → block_at per (runs_in o) kind n ≡ Some b → AreElsewhere writes b) → LeavesBytes writes per o
bytes_in writes per None each = tt
bytes_in writes per (Some (Held value)) each = tt
bytes_in writes per (Some (Placed e)) each = λ b is. each Plain is.sector b is.lies

pub bytes_left : (v : Volume) (s : StreamKey) (writes : List Write) → 0 < v.per → AreOnce (volume_runs v.files) → SpareStream v s writes → LeavesBytes writes v.per (stream_at v s)
bytes_left v s writes some once all = bytes_in writes v.per (stream_at v s) (λ kind n b is. block_left v s writes kind n b some once all is)

-- a block of an index allocation lies in it, or past the end of every disk
node_left : (writes : List Write) (t : Bool) (o : Option Block) → AreElsewhere writes void_block → ((b : Block) → o ≡ Some b → AreElsewhere writes b) → AreElsewhere writes (cond t void_block (or_void o))
node_left writes true o void each = void
node_left writes false None void each = void
node_left writes false (Some b) void each = each b refl

index_in : (writes : List Write) (per : ℕ) (o : Option Stream) → AreElsewhere writes void_block → ((kind : BlockKind) (n : ℕ) (b : Block) → block_at per (runs_in o) kind n ≡ Some b → AreElsewhere writes b) → LeavesIndex writes per o
unfolding index_block
index_in writes per None void each = tt
index_in writes per (Some (Held value)) void each = tt
index_in writes per (Some (Placed e)) void each = λ i below. node_left writes (leb e.initialised (4096 * i)) (block_at per e.runs Index i) void (λ b is. each Index i b is)

pub index_left : (v : Volume) (s : StreamKey) (writes : List Write) → 0 < v.per → AreOnce (volume_runs v.files) → SpareStream v s writes → AreElsewhere writes void_block → LeavesIndex writes v.per (stream_at v s)
index_left v s writes some once all void = index_in writes v.per (stream_at v s) void (λ kind n b is. block_left v s writes kind n b some once all is)

pub record_left : (c : Content) (g : Geometry) (clusters : ℕ) (v : Volume) (writes : List Write) (n : ℕ) → BeginsAtBoot c g clusters v → 0 < v.per → AreOnce (volume_runs v.files) → SpareStream v table_key writes → LeavesRecord writes v.per v.table n
record_left c g clusters v writes n begins some once all = λ b is.
    block_left v table_key writes FileRec n b some once all (ap (λ (runs : List Run). block_at v.per runs FileRec n) (table_runs c g clusters v begins) ∙ is.lies)
