-- What an operation that is done leaves of a content: its streams, its bits and its bodies.
use Rattle.std.specs.Prelude.{◌≡◌, ◌⊎◌, ℕ, ◌<◌, ◌≤◌, Bool, true, false, not, ◌&&◌, ◌||◌, ◌==◌, nat_eq, List, Some}
use Rattle.std.specs.List.{list_any, AllByRecursion}
use Rattle.std.specs.Cmp.Lexicographic.{pointwise}
use Rattle.record_writer.specs.disk_model.declared.block.Block.{Block}
use Rattle.record_writer.specs.disk_model.declared.block.BlockKind.TheVariants.{FileRec}
use Rattle.record_writer.specs.disk_model.Sectors.{overlap}
use Rattle.record_writer.specs.disk_model.Content.{Content}
use Rattle.plan_model.specs.bit_set.Bits.{bit}
use Rattle.plan_model.specs.state_model.Streams.{block_at}
use Rattle.plan_model.specs.volume_model.Volumes.{Volume, count_of, table_file, mirror_file, bitmap_file, cluster_bits}
use Rattle.plan_model.specs.volume_model.Owners.{uses}
use Rattle.plan_model.specs.stream_laws.Sharing.{StreamKey, stream_at, runs_in}
use Rattle.plan_model.specs.stream_laws.Tables.{table_key}
use Rattle.plan_model.specs.Drafts.{FollowsOwners}
use Rattle.plan_model.specs.Edits.{IsOwnedIn}
use Rattle.step_model.specs.Placing.{Growth, AllPlaced, runs_after}
use Rattle.step_model.specs.Used.{is_in_record}

-- ---- streams

abbrev pub same_key : StreamKey → StreamKey → Bool
same_key s t = s.file == t.file && s.kind == t.kind && pointwise nat_eq s.name t.name

-- the stream is one of those that come to have other clusters
abbrev pub is_among : List Growth → StreamKey → Bool
is_among growths s = list_any (λ (g : Growth). same_key g.stream s) growths

-- In the new volume the stream stands in its record, or has the runs that it comes to have.
pub record HasGrown (v w : Volume) (g : Growth) : Type 0 where
  pub stands : is_in_record (stream_at w g.stream) ≡ g.stands
  pub old : g.old ≡ runs_in (stream_at v g.stream)
  pub runs : runs_in (stream_at w g.stream) ≡ runs_after g

-- ---- bodies

-- $MFT, its mirror and $Bitmap, and these files
abbrev pub is_touched : List ℕ → ℕ → Bool
is_touched files n = n == table_file || n == mirror_file || n == bitmap_file || list_any (λ m. n == m) files

-- streams of these files, but for the file table
abbrev pub touched_streams : List ℕ → StreamKey → Bool
touched_streams files s = is_touched files s.file && not (same_key s table_key)

-- a record of one of these files, or one that the file table hadn't before
pub record IsTouchedRecord (files : List ℕ) (v w : Volume) (b : Block) : Type 0 where
  pub number : ℕ
  pub touched : (is_touched files number ≡ true) ⊎ ((count_of v ≤ number) × (number < count_of w))
  pub place : block_at w.per w.table.runs FileRec number ≡ Some b

-- A block whose body may be another one: a record of these files, or a block of one of their streams, before or afterwards.
abbrev pub MayDiffer : List ℕ → Volume → Volume → Block → Type 0
MayDiffer files v w b = IsTouchedRecord files v w b ⊎ IsOwnedIn (touched_streams files) v b ⊎ IsOwnedIn (touched_streams files) w b

-- ---- what is left

-- The content after an operation on these files. The streams take the clusters that are chosen for them, one after the other, and the
-- others keep theirs. The bits follow the owners, and no stream takes a cluster that wasn't clear before, so none that is freed. Every
-- body stays that shares no sector with a record or a stream of these files, of $MFT, its mirror or $Bitmap.
pub record IsLeft (c : Content) (v : Volume) (clusters : ℕ) (files : List ℕ) (growths : List Growth) (d : Content) (w : Volume) : Type 0 where
  pub placed : AllPlaced (cluster_bits c v) growths
  pub grown : AllByRecursion (λ g. HasGrown v w g) growths
  pub others : (s : StreamKey) → is_among growths s ≡ false → runs_in (stream_at w s) ≡ runs_in (stream_at v s)
  pub bits : FollowsOwners clusters (cluster_bits c v) (cluster_bits d w) v.files w.files
  pub takes : (s : StreamKey) (x : ℕ) → uses (runs_in (stream_at v s)) x < uses (runs_in (stream_at w s)) x → bit (cluster_bits c v) x ≡ false
  pub stays : (b : Block) → ((x : Block) → MayDiffer files v w x → overlap b x ≡ false) → d b ≡ c b
