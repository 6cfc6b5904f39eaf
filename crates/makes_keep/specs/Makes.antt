-- What a file that is made leaves of the blocks from which a state is read.
use Rattle.std.specs.Prelude.{◌≡◌, ◌≢◌, ◌⊎◌, ℕ, ◌≤◌, true, false, List, None}
use Rattle.std.specs.List.{AllByRecursion}
use Rattle.disk_model.specs.declared.block.Block.{Block}
use Rattle.disk_model.specs.declared.block.Change.{Change}
use Rattle.disk_model.specs.Content.{Content}
use Rattle.fixup_record.specs.Spellings.{has_spelling}
use Rattle.record_model.specs.Records.{Record}
use Rattle.file_tree.specs.declared.node.Node.{Node}
use Rattle.index_model.specs.Trees.{Tree}
use Rattle.made_trees.specs.made_files.index_change.declared.nodes_plan.NodesPlan.{NodesPlan}
use Rattle.state_model.specs.declared.geometry.Geometry.{Geometry}
use Rattle.state_model.specs.declared.stream.Extents.{Extents}
use Rattle.volume_model.specs.Volumes.{Volume, count_of, file_in, table_file, upper_of}
use Rattle.volume_state.specs.Trees.{tree_of}
use Rattle.stream_laws.specs.Owners.{Owns}
use Rattle.stream_laws.specs.Sharing.{StreamKey}
use Rattle.stream_laws.specs.Tables.{table_key}
use Rattle.plan_owners.specs.Agreeing.{IsJudged}
use Rattle.plan_draft.specs.declared.touched.Touched.{Touched}
use Rattle.plan_draft.specs.Drafts.{drafted}
use Rattle.plans_keep.specs.plan_spares.Plans.{HasOwnLists}
use Rattle.plans_keep.specs.Keeping.{AreFinished}
use Rattle.written_values.specs.plan_edits.Edits.{mirror_key, bitmap_key}
use Rattle.written_values.specs.step_model.Placing.{Growth}
use Rattle.written_values.specs.step_model.Streams.{blocks_key, used_key, bits_key}
use Rattle.written_values.specs.file_puts.declared.streams.VolumeStreams.{VolumeStreams}
use Rattle.made_trees.specs.file_makes.declared.newfile.NewFile.{NewFile}
use Rattle.made_trees.specs.Created.{made_volume}
use Rattle.made_trees.specs.Behind.{MakesFileBehind, HasMadeFileBehind}
use Rattle.writes_keep.specs.Writes.{HasWholeSectors, WriteKeeps}

-- A stream into which a plan puts that makes a file in this directory: the file table, its mirror, the bits of the numbers, those of clusters, and the two of the directory's index.
abbrev pub IsPutStream : ℕ → StreamKey → Type 0
IsPutStream n t = (t ≡ table_key) ⊎ ((t ≡ mirror_key) ⊎ ((t ≡ bits_key) ⊎ ((t ≡ bitmap_key) ⊎ ((t ≡ blocks_key n) ⊎ (t ≡ used_key n)))))

-- a block of such a stream, but for record 2
pub record IsPutAt (n : ℕ) (u : Volume) (b : Block) : Type 0 where
  pub own : Owns u b
  pub which : IsPutStream n own.stream
  pub second : own.stream ≡ table_key → own.number ≢ 2

-- The block lies so in the second volume. Where it isn't fresh, the first is judged by it; and the body that is put has a spelling.
pub record PutsWell (v : Volume) (n : ℕ) (u : Volume) (t : Touched) : Type 0 where
  pub goes : IsPutAt n u t.block
  pub begun : t.fresh ≡ false → IsJudged v t.block
  pub spelled : has_spelling t.block.kind t.new ≡ true

-- What a draft has put before a file is made in this directory, if anything, is put well. All files but the directory are those that they were, and the file table too, where there aren't more
-- records; no attribute list has a part in another record; and the table of upper-case units is the same.
pub record GrowsWell (c : Content) (v : Volume) (n : ℕ) (u : Volume) (grown : List Touched) : Type 0 where
  pub each : AllByRecursion (PutsWell v n u) grown
  pub others : (m : ℕ) → m ≢ n → m ≢ table_file → file_in u m ≡ file_in v m
  pub count : count_of v ≤ count_of u
  pub table : count_of u ≡ count_of v → file_in u table_file ≡ file_in v table_file
  pub lists : HasOwnLists (drafted grown c) u
  pub upper : upper_of (drafted grown c) u ≡ upper_of c v

-- The changes of a draft that has put a new file so, behind what it has put well, keep what a volume asks for, where no attribute list has a part in another record, no sector by which the state is
-- judged is torn, and there is no change journal. The streams are those behind what it has put before.
abbrev pub MakesKeep : Type 0
MakesKeep = (c : Content) (g : Geometry) (clusters : ℕ) (v : Volume) (s : VolumeStreams) (numbers : Extents) (m : NewFile) (a : Node) (r : Record) (growths : List Growth) (u : Volume) (q : Record) (grown : List Touched) (value : List ℕ) (used : ℕ) (t : Tree) (fresh : List ℕ) (nodes : NodesPlan) (timed new : List Touched) (changes : List Change)
    → (k : MakesFileBehind c g clusters v s numbers m a r growths u q grown value used t fresh nodes timed new) → GrowsWell c v m.parent.number u grown → AreFinished c new changes → HasOwnLists c v → HasWholeSectors c v → (tree_of c v).journal ≡ None
    → (h : HasMadeFileBehind c g clusters v m a growths new (made_volume c u s m q k.made.put.plan timed)) → WriteKeeps c g v s h.bodies changes (made_volume c u s m q k.made.put.plan timed)
