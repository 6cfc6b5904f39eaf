-- A file that is made behind a draft in which the index of its directory has grown.
use Rattle.std.specs.Prelude.{◌≡◌, ℕ, ◌≤◌, true, false, List, [], ◌∷◌, Option, Some}
use Rattle.disk_model.specs.declared.block.BlockKind.{BlockKind}
use Rattle.disk_model.specs.Content.{Content, HasSizes}
use Rattle.record_model.specs.Constants.{standard_information}
use Rattle.record_model.specs.Records.{Record}
use Rattle.file_tree.specs.declared.node.Node.{Node}
use Rattle.file_tree.specs.Trees.{node_at as node_by_number}
use Rattle.index_model.specs.Trees.{Tree}
use Rattle.made_files.specs.index_change.declared.nodes_plan.NodesPlan.{NodesPlan}
use Rattle.state_model.specs.declared.geometry.Geometry.{Geometry}
use Rattle.state_model.specs.declared.stream.Extents.{Extents}
use Rattle.state_model.specs.Files.{has_type}
use Rattle.state_model.specs.Trees.{is_in_system}
use Rattle.volume_model.specs.Volumes.{Volume, count_of, files_by_number}
use Rattle.volume_state.specs.Trees.{tree_of}
use Rattle.tree_model.specs.Effects.{HasCreated}
use Rattle.plan_owners.specs.States.{Stands}
use Rattle.plan_bodies.specs.Bodies.{NewBody, content_with}
use Rattle.plan_draft.specs.declared.touched.Touched.{Touched}
use Rattle.plan_draft.specs.Touching.{bodies_of}
use Rattle.plan_draft.specs.Drafts.{drafted}
use Rattle.plan_draft.specs.Same.{PutSame}
use Rattle.written_values.specs.plan_model.Drafts.{DraftIn}
use Rattle.written_values.specs.record_streams.Fitting.{FitsButRoom}
use Rattle.written_values.specs.step_model.Placing.{Growth, wanted_by}
use Rattle.written_values.specs.step_model.Contents.{IsLeft}
use Rattle.made_files.specs.plan_values.Values.{IsOwnFile}
use Rattle.written_values.specs.file_puts.declared.streams.VolumeStreams.{VolumeStreams}
use Rattle.written_values.specs.file_puts.Puts.{PutsTimes}
use Rattle.written_values.specs.file_puts.Written.{AreStreamsOf}
use Rattle.made_files.specs.file_makes.declared.newfile.NewFile.{NewFile}
use Rattle.made_files.specs.Made.{MakesOfVolume, IsMadeEdit}
use Rattle.made_trees.specs.Created.{timed_directory, timed_volume, made_volume}
use Rattle.made_trees.specs.Grown.{HasGrownBefore}

-- A state with a directory that has no attribute list, and the draft in which its index has grown. It has put the times of the directory's record that
-- stands there then, and over the volume with these the new file. The directory has this node, and no directory of the volume itself, but the
-- root, is above the file.
pub record MakesFileBehind (c : Content) (g : Geometry) (clusters : ℕ) (v : Volume) (s : VolumeStreams) (numbers : Extents) (m : NewFile) (a : Node) (r : Record) (growths : List Growth) (u : Volume) (q : Record) (grown : List Touched) (value : List ℕ) (used : ℕ) (t : Tree) (fresh : List ℕ) (nodes : NodesPlan) (timed new : List Touched) : Type 0 where
  pub sized : HasSizes c
  pub eight : g.per_cluster ≡ 8
  pub stands : Stands c g clusters v
  pub own : IsOwnFile v m.parent.number r
  pub before : HasGrownBefore c g clusters v m.parent.number r growths u q grown
  pub streams : AreStreamsOf u s
  pub info : has_type standard_information q ≡ true
  pub fits : FitsButRoom q
  pub node : node_by_number (tree_of c v).nodes m.parent.number ≡ Some a
  pub referred : m.parent ≡ record { number = a.number; seq = a.seq }
  pub times : PutsTimes c s m.parent.number m.stamp q grown timed
  pub made : MakesOfVolume c (timed_volume u m q) s numbers m (timed_directory m.stamp q) value used t fresh nodes timed new
  pub outside : is_in_system (files_by_number v) (count_of v) m.parent.number ≡ false

-- The draft then stands for a state, to which its bodies lead as those of a plan do. The tree has the file, in its
-- directory, whose times are the stamp; its room falls by no more than the clusters that come to the index.
pub record HasMadeFileBehind (c : Content) (g : Geometry) (clusters : ℕ) (v : Volume) (m : NewFile) (a : Node) (growths : List Growth) (new : List Touched) (after : Volume) : Type 0 where
  pub gave : ℕ → Option BlockKind
  pub bodies : List NewBody
  pub same : PutSame (bodies_of new) bodies
  pub content : content_with c bodies ≡ drafted new c
  pub draft : DraftIn c g clusters v bodies after gave
  pub tree : (most : ℕ) → wanted_by growths ≤ most → HasCreated (tree_of c v) most m.stamp a m.name m.file (tree_of (drafted new c) after)

-- The volume is that in which the index has grown, with the new file and its directory, of which what was put behind the times is the edit.
abbrev pub MadeBehindAreTrees : Type 0
MadeBehindAreTrees = (c : Content) (g : Geometry) (clusters : ℕ) (v : Volume) (s : VolumeStreams) (numbers : Extents) (m : NewFile) (a : Node) (r : Record) (growths : List Growth) (u : Volume) (q : Record) (grown : List Touched) (value : List ℕ) (used : ℕ) (t : Tree) (fresh : List ℕ) (nodes : NodesPlan) (timed new : List Touched)
    → (k : MakesFileBehind c g clusters v s numbers m a r growths u q grown value used t fresh nodes timed new)
    → IsMadeEdit c (timed_volume u m q) s m (timed_directory m.stamp q) value used t fresh k.made.put.plan timed new
    × HasMadeFileBehind c g clusters v m a growths new (made_volume c u s m q k.made.put.plan timed)

-- The content is left as a step says, where the streams of the index take the clusters that they took in the first draft.
abbrev pub MadeBehindAreLeft : Type 0
MadeBehindAreLeft = (c : Content) (g : Geometry) (clusters : ℕ) (v : Volume) (s : VolumeStreams) (numbers : Extents) (m : NewFile) (a : Node) (r : Record) (growths : List Growth) (u : Volume) (q : Record) (grown : List Touched) (value : List ℕ) (used : ℕ) (t : Tree) (fresh : List ℕ) (nodes : NodesPlan) (timed new : List Touched)
    → (k : MakesFileBehind c g clusters v s numbers m a r growths u q grown value used t fresh nodes timed new)
    → IsLeft c v clusters (m.file.number ∷ m.parent.number ∷ []) growths (drafted new c) (made_volume c u s m q k.made.put.plan timed)
