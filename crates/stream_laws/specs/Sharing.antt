-- No two streams of a volume have a block in common, where no cluster lies in two streams.
use Rattle.std.specs.Prelude.{◌≡◌, ◌≢◌, ℕ, ◌<◌, ◌≤◌, false, List, [], slice_get, Option, Some, None}
use Rattle.std.specs.List.{flat_map}
use Rattle.volume_model.specs.disk_model.declared.block.Block.{Block}
use Rattle.volume_model.specs.disk_model.declared.block.BlockKind.{BlockKind}
use Rattle.volume_model.specs.disk_model.Sectors.{overlap}
use Rattle.volume_model.specs.record_model.declared.attribute.Attr.{Attr}
use Rattle.volume_model.specs.record_model.declared.runs.Run.{Run}
use Rattle.volume_model.specs.record_model.Records.{Record}
use Rattle.volume_model.specs.state_model.declared.stream.Stream.{Stream}
use Rattle.volume_model.specs.state_model.declared.stream.Stream.TheVariants.{Held, Placed}
use Rattle.volume_model.specs.state_model.Streams.{attribute_runs, block_at}
use Rattle.volume_model.specs.Volumes.{Volume, file_in, file_stream}
use Rattle.volume_model.specs.Owners.{volume_runs, uses}
use Rattle.stream_laws.specs.Places.{AreOnce, AreApart}

-- ---- attributes

abbrev pub file_attrs : Option Record → List Attr
file_attrs None = []
file_attrs (Some r) = r.attrs

-- the attributes of all files
abbrev pub volume_attrs : List (Option Record) → List Attr
volume_attrs files = flat_map file_attrs files

-- Where no cluster lies twice in a volume, blocks in the runs of two attributes share no sector.
pub record AttributesApart : Type 0 where
  pub runs : (files : List (Option Record)) → volume_runs files ≡ flat_map attribute_runs (volume_attrs files)
  pub clusters : (files : List (Option Record)) (i j : ℕ) (a b : Attr) → AreOnce (volume_runs files) → i ≢ j → slice_get (volume_attrs files) i ≡ Some a → slice_get (volume_attrs files) j ≡ Some b → AreApart (attribute_runs a) (attribute_runs b)
  pub blocks : (per : ℕ) (files : List (Option Record)) (i j : ℕ) (a b : Attr) (kind other : BlockKind) (n m : ℕ) (x y : Block) → 0 < per → AreOnce (volume_runs files) → i ≢ j → slice_get (volume_attrs files) i ≡ Some a → slice_get (volume_attrs files) j ≡ Some b
      → block_at per (attribute_runs a) kind n ≡ Some x → block_at per (attribute_runs b) other m ≡ Some y → overlap x y ≡ false

-- ---- streams

-- which stream it is: the number of its file, its type and its name
pub record StreamKey : Type 0 where
  pub file : ℕ
  pub kind : ℕ
  pub name : List ℕ

abbrev pub stream_at : Volume → StreamKey → Option Stream
stream_at v s = file_stream s.kind s.name (file_in v s.file)

-- the runs of a stream; a value in a record has none
abbrev pub runs_in : Option Stream → List Run
runs_in None = []
runs_in (Some (Held value)) = []
runs_in (Some (Placed e)) = e.runs

-- The clusters of a stream are some of the volume's. Where no cluster lies twice in a volume, none lies twice in a stream,
-- nor in two streams, and so blocks of two streams share no sector.
pub record StreamsApart : Type 0 where
  pub some_of_all : (v : Volume) (s : StreamKey) (x : ℕ) → uses (runs_in (stream_at v s)) x ≤ uses (volume_runs v.files) x
  pub once : (v : Volume) (s : StreamKey) → AreOnce (volume_runs v.files) → AreOnce (runs_in (stream_at v s))
  pub clusters : (v : Volume) (s t : StreamKey) → AreOnce (volume_runs v.files) → s ≢ t → AreApart (runs_in (stream_at v s)) (runs_in (stream_at v t))
  pub blocks : (v : Volume) (s t : StreamKey) (kind other : BlockKind) (n m : ℕ) (a b : Block) → 0 < v.per → AreOnce (volume_runs v.files) → s ≢ t
      → block_at v.per (runs_in (stream_at v s)) kind n ≡ Some a → block_at v.per (runs_in (stream_at v t)) other m ≡ Some b → overlap a b ≡ false
