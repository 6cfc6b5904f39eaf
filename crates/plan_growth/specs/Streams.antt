-- A stream of a file that is one record of its own, and what is put where it comes to have other clusters or sizes.
use Rattle.std.specs.Prelude.{◌≡◌, ◌≢◌, ◌⊎◌, ℕ, ◌<◌, ◌==◌, ◌&&◌, ◌||◌, nat_eq, Bool, true, false, List, [], map, Some}
use Rattle.std.specs.Cmp.Lexicographic.{pointwise}
use Rattle.std.specs.List.{AllByRecursion, list_all, list_any}
use Rattle.plan_model.specs.disk_model.declared.block.BlockKind.TheVariants.{FileRec}
use Rattle.plan_model.specs.record_model.declared.runs.Run.{Run}
use Rattle.plan_model.specs.record_model.Constants.{attribute_list, data_type, index_allocation, index_root}
use Rattle.plan_model.specs.record_model.Pairs.{HasSpelling}
use Rattle.plan_model.specs.record_model.Records.{Record}
use Rattle.plan_model.specs.bit_set.Bits.{bit}
use Rattle.plan_model.specs.state_model.declared.stream.Stream.{Stream}
use Rattle.plan_model.specs.state_model.Files.{has_type}
use Rattle.plan_model.specs.state_model.Streams.{block_at, stream_of}
use Rattle.plan_model.specs.volume_model.Volumes.{Volume, file_in, mirror_file, bitmap_file}
use Rattle.plan_model.specs.volume_model.Owners.{uses}
use Rattle.plan_model.specs.volume_model.Sizes.{lies_inside, is_hole}
use Rattle.plan_model.specs.volume_state.Journals.{entries_name}
use Rattle.plan_model.specs.stream_laws.Leaving.{LiesFree}
use Rattle.plan_model.specs.stream_laws.Owners.{stream_kind}
use Rattle.plan_model.specs.disk_model.declared.block.Block.{Block}
use Rattle.plan_model.specs.stream_laws.Places.{AreOnce}
use Rattle.plan_model.specs.stream_laws.Sharing.{StreamKey, stream_at, runs_in}
use Rattle.resized_streams.specs.record_writer.Normal.{normal}
use Rattle.resized_streams.specs.record_streams.Fitting.{IsPlaceable}
use Rattle.plan_model.specs.plan_bodies.Bodies.{NewBody, AreBodies}
use Rattle.plan_model.specs.Edits.{IsOwnedIn}
use Rattle.plan_model.specs.Informed.{IsApart, with_record}
use Rattle.plan_model.specs.Made.{ReadsAs}

-- A stream of a file that is none of $MFT, $Bitmap and $UpCase and has no attribute list. It is neither the root of an index, which stays
-- in its record, nor the records of a change journal.
pub record IsOwnStream (v : Volume) (n kind : ℕ) (name : List ℕ) (r : Record) (old : Stream) : Type 0 where
  pub file : file_in v n ≡ Some r
  pub apart : IsApart n
  pub no_list : has_type attribute_list r ≡ false
  pub placeable : IsPlaceable kind
  pub no_root : index_root ≢ kind
  pub no_entries : (data_type ≢ kind) ⊎ (entries_name ≢ name)
  pub stream : stream_of kind name r.attrs ≡ Some old

-- which stream it is
abbrev pub key_of : ℕ → ℕ → List ℕ → StreamKey
key_of n kind name = record { file = n; kind = kind; name = name }

-- the unnamed data of $Bitmap and of $MFTMirr: the bits of clusters, and the mirror of the file table
abbrev pub marks_streams : StreamKey → Bool
marks_streams s = (s.file == bitmap_file || s.file == mirror_file) && s.kind == data_type && pointwise nat_eq s.name []

-- The record as it is written: its mapping pairs are filled, and it keeps what tells a file from others. It may count its names anew.
pub record IsWritten (p s : Record) : Type 0 where
  pub seq : s.head.seq ≡ p.head.seq
  pub flags : s.head.flags ≡ p.head.flags
  pub base : s.head.base ≡ p.head.base
  pub attrs : s.attrs ≡ map normal p.attrs

-- A file's record is put whole into its block, and is read as this one. All else that is put goes to blocks of these streams.
pub record PutsFile (streams : StreamKey → Bool) (v : Volume) (n : ℕ) (s : Record) (bodies : List NewBody) : Type 0 where
  pub whole : AreBodies bodies
  pub anew : ReadsAs v bodies n s
  pub each : AllByRecursion (λ p. IsOwnedIn streams v p.block ⊎ (block_at v.per v.table.runs FileRec n ≡ Some p.block)) bodies

-- the block is one of this stream's in the second volume, in clusters that no stream of the first one has
pub record IsFreshIn (v w : Volume) (t : StreamKey) (b : Block) : Type 0 where
  pub number : ℕ
  pub lies : block_at v.per (runs_in (stream_at w t)) (stream_kind t) number ≡ Some b
  pub free : LiesFree v b

-- So is a file's record put, and what is put besides goes to blocks of these streams, or to fresh ones of the file's own stream.
pub record PutsFresh (streams : StreamKey → Bool) (v : Volume) (n kind : ℕ) (name : List ℕ) (s : Record) (bodies : List NewBody) : Type 0 where
  pub whole : AreBodies bodies
  pub anew : ReadsAs v bodies n s
  pub each : AllByRecursion (λ p. IsOwnedIn streams v p.block ⊎ (block_at v.per v.table.runs FileRec n ≡ Some p.block) ⊎ (IsFreshIn v (with_record v n s) (key_of n kind name) p.block × (index_allocation ≢ kind))) bodies

-- Runs that may be taken: they have a spelling, none is sparse, they lie in the volume, and each cluster of theirs lies there once, and is
-- clear.
pub record MayTake (clusters : ℕ) (bits : List Bool) (runs : List Run) : Type 0 where
  pub spelled : HasSpelling 0 runs
  pub whole : list_any is_hole runs ≡ false
  pub inside : list_all (lies_inside clusters) runs ≡ true
  pub once : AreOnce runs
  pub clear : (x : ℕ) → 0 < uses runs x → bit bits x ≡ false
