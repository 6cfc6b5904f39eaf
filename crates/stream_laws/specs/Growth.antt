-- The bytes of a stream that gets other clusters and sizes, and of a value that leaves its record.
use Rattle.std.specs.Prelude.{◌≡◌, ◌≢◌, ◌⊎◌, ℕ, ◌+◌, ◌-◌, ◌*◌, ◌/◌, ◌<◌, ◌≤◌, min, ◌&&◌, true, nat_le, nat_lt, is_some, if◌then◌else◌, List, [], ◌∷◌, ◌++◌, length, take, find, slice_index, unwrap_or, Option, Some, None}
use Rattle.volume_model.specs.disk_model.declared.block.Block.{Block}
use Rattle.volume_model.specs.disk_model.declared.block.BlockKind.{BlockKind}
use Rattle.volume_model.specs.disk_model.declared.block.BlockKind.TheVariants.{Plain}
use Rattle.volume_model.specs.disk_model.Bytes.{zeros}
use Rattle.volume_model.specs.disk_model.Content.{Content, HasSizes}
use Rattle.volume_model.specs.disk_model.Laws.{IsElsewhere}
use Rattle.volume_model.specs.disk_model.Sectors.{HasSector, sectors}
use Rattle.volume_model.specs.disk_model.Writes.{Write, overlay, later}
use Rattle.volume_model.specs.record_model.declared.runs.Run.{Run}
use Rattle.volume_model.specs.state_model.declared.stream.Extents.{Extents}
use Rattle.volume_model.specs.state_model.declared.stream.Stream.{Stream}
use Rattle.volume_model.specs.state_model.Streams.{holds, block_at, extent_bytes}
use Rattle.volume_model.specs.Volumes.{Volume, bytes_or, size_or}
use Rattle.volume_model.specs.Owners.{volume_runs, uses}
use Rattle.stream_laws.specs.Frames.{IsRead}
use Rattle.stream_laws.specs.Leaving.{IsInAnother}
use Rattle.stream_laws.specs.Places.{AreOnce, AreApart}
use Rattle.stream_laws.specs.Puts.{Put, all_put, ArePuts}
use Rattle.stream_laws.specs.Sharing.{StreamKey, stream_at, runs_in}

-- ---- puts, byte by byte

abbrev pub byte_of_put : Put → ℕ → Option ℕ
byte_of_put p i = if nat_le p.at i && nat_lt i (p.at + length p.bytes) then Some (slice_index p.bytes (i - p.at)) else None

-- what the last of the puts that cover this byte puts there
abbrev pub put_byte : List Put → ℕ → Option ℕ
put_byte [] i = None
put_byte (p ∷ puts) i = later (put_byte puts i) (byte_of_put p i)

-- each byte from the first place on, below the second, is put
abbrev pub ArePut : List Put → ℕ → ℕ → Type 0
ArePut puts from to = (i : ℕ) → from ≤ i → i < to → is_some (put_byte puts i) ≡ true

-- A byte after puts is that of the last put that covers it, else that from before. Their size stays.
pub record BytesAfterPuts : Type 0 where
  pub size : (puts : List Put) (bytes : List ℕ) → length (all_put puts bytes) ≡ length bytes
  pub byte : (puts : List Put) (bytes : List ℕ) (i : ℕ) → i < length bytes → slice_index (all_put puts bytes) i ≡ unwrap_or (put_byte puts i) (slice_index bytes i)

-- ---- a stream that grows

-- bytes, and zeros behind them up to this size
abbrev pub filled : ℕ → List ℕ → List ℕ
filled size bytes = bytes ++ zeros (size - length bytes)

-- how many bytes of a stream in clusters may be other than zero
abbrev pub held_bytes : Extents → ℕ
held_bytes e = min e.initialised e.real

-- The new extents of a stream go on from the old ones: the sizes are no smaller, and each sector that holds bytes lies where it lay.
pub record StreamGoesOn (per : ℕ) (e f : Extents) : Type 0 where
  pub real : e.real ≤ f.real
  pub initialised : e.initialised ≤ f.initialised
  pub places : (s : ℕ) → 512 * s < held_bytes e → block_at per f.runs Plain s ≡ block_at per e.runs Plain s

-- The new extents of a stream are those of its front.
pub record StreamIsCut (per : ℕ) (e f : Extents) : Type 0 where
  pub real : f.real ≤ e.real
  pub initialised : f.initialised ≡ min e.initialised f.real
  pub places : (s : ℕ) → 512 * s < held_bytes f → block_at per f.runs Plain s ≡ block_at per e.runs Plain s

-- Where no cluster lies twice in the new extents, and all bytes that come to be initialised are put, the bytes are those from before and
-- zeros behind them, after the puts. So they are from the value that stood in the record. Those of a front are the front of the bytes.
pub record StreamsGrow : Type 0 where
  pub size : (c : Content) (per : ℕ) (s : Option Stream) → length (bytes_or c per s) ≡ size_or s
  pub stream : (c : Content) (writes : List Write) (per : ℕ) (e f : Extents) (puts : List Put) → HasSizes c → 0 < per → AreOnce f.runs → StreamGoesOn per e f → ArePuts per f writes puts → ArePut puts (held_bytes e) (held_bytes f)
      → extent_bytes (overlay c writes) per f ≡ all_put puts (filled f.real (extent_bytes c per e))
  pub value : (c : Content) (writes : List Write) (per : ℕ) (value : List ℕ) (f : Extents) (puts : List Put) → HasSizes c → 0 < per → AreOnce f.runs → length value ≤ f.initialised → length value ≤ f.real → ArePuts per f writes puts → ArePut puts 0 (held_bytes f)
      → extent_bytes (overlay c writes) per f ≡ all_put puts (filled f.real value)
  pub cut : (c : Content) (per : ℕ) (e f : Extents) → StreamIsCut per e f → extent_bytes c per f ≡ take f.real (extent_bytes c per e)

-- ---- the clusters of a stream that grows

-- each cluster of these runs is one of this stream's, or one that no stream has, and then it lies there once
abbrev pub TakesFree : Volume → StreamKey → List Run → Type 0
TakesFree v s runs = (x : ℕ) → (uses runs x ≤ uses (runs_in (stream_at v s)) x) ⊎ ((uses (volume_runs v.files) x ≡ 0) × (uses runs x ≤ 1))

-- Then no cluster lies twice in the runs, nor in them and in another stream of the volume. A write to a block of another stream, or of
-- clusters that the runs don't have, is to no block in which the new stream is read.
pub record GrownRunsApart : Type 0 where
  pub once : (v : Volume) (s : StreamKey) (runs : List Run) → AreOnce (volume_runs v.files) → TakesFree v s runs → AreOnce runs
  pub clusters : (v : Volume) (s t : StreamKey) (runs : List Run) → AreOnce (volume_runs v.files) → TakesFree v s runs → s ≢ t → AreApart runs (runs_in (stream_at v t))
  pub in_another : (v : Volume) (s : StreamKey) (f : Extents) (w : Write) (b : Block) → 0 < v.per → AreOnce (volume_runs v.files) → TakesFree v s f.runs → IsInAnother v s w → IsRead v.per f b → IsElsewhere b w
  pub behind : (v : Volume) (f : Extents) (w : Write) (b : Block) → 0 < v.per → ((d : ℕ) → HasSector w.block d → uses f.runs (d / v.per) ≡ 0) → IsRead v.per f b → IsElsewhere b w

-- ---- runs behind runs

-- the run with so many clusters more
abbrev pub longer : Run → ℕ → Run
longer r more = record { vcn = r.vcn; lcn = r.lcn; len = r.len + more }

-- all clusters of a stream's n-th place of this kind lie in one of the runs
abbrev pub LiesInRun : ℕ → List Run → BlockKind → ℕ → Type 0
LiesInRun per runs kind n = (r : Run) × (find (holds (sectors kind * n / per) ((sectors kind * n + sectors kind - 1) / per)) runs ≡ Some r)

-- A place that lies in one of the runs has its block still where the last run gets longer and others stand behind it, and where others
-- stand behind all.
pub record RunsGoOn : Type 0 where
  pub longer : (per : ℕ) (front behind : List Run) (r : Run) (more : ℕ) (kind : BlockKind) (n : ℕ) → LiesInRun per (front ++ r ∷ []) kind n → block_at per (front ++ longer r more ∷ behind) kind n ≡ block_at per (front ++ r ∷ []) kind n
  pub behind : (per : ℕ) (runs behind : List Run) (kind : BlockKind) (n : ℕ) → LiesInRun per runs kind n → block_at per (runs ++ behind) kind n ≡ block_at per runs kind n
