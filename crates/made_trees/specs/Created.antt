-- A file that a draft has put behind its directory's times.
use Rattle.std.specs.Prelude.{◌≡◌, ℕ, true, false, List, [], Option, Some}
use Rattle.disk_model.specs.declared.block.BlockKind.{BlockKind}
use Rattle.disk_model.specs.Content.{Content, HasSizes}
use Rattle.record_model.specs.Constants.{standard_information}
use Rattle.record_model.specs.Records.{Record}
use Rattle.file_tree.specs.declared.node.Node.{Node}
use Rattle.file_tree.specs.Trees.{node_at as node_by_number}
use Rattle.index_model.specs.Trees.{Tree}
use Rattle.made_files.specs.index_change.declared.nodes_plan.NodesPlan.{NodesPlan}
use Rattle.made_files.specs.index_change.declared.plan.DirPlan.{DirPlan}
use Rattle.state_model.specs.declared.geometry.Geometry.{Geometry}
use Rattle.state_model.specs.declared.stream.Extents.{Extents}
use Rattle.state_model.specs.Files.{has_type}
use Rattle.state_model.specs.Trees.{is_in_system}
use Rattle.volume_model.specs.Volumes.{Volume, count_of, files_by_number}
use Rattle.volume_state.specs.Trees.{tree_of}
use Rattle.tree_model.specs.Effects.{HasCreated}
use Rattle.plan_owners.specs.States.{Stands}
use Rattle.plan_bodies.specs.Bodies.{NewBody, content_with}
use Rattle.plan_draft.specs.declared.touched.Touched.{Touched}
use Rattle.plan_draft.specs.Touching.{bodies_of}
use Rattle.plan_draft.specs.Drafts.{drafted}
use Rattle.plan_draft.specs.Same.{PutSame}
use Rattle.written_values.specs.plan_model.Drafts.{DraftIn}
use Rattle.written_values.specs.plan_model.Edits.{edited}
use Rattle.written_values.specs.plan_model.Informed.{with_record}
use Rattle.written_values.specs.plan_model.Made.{made_edits}
use Rattle.written_values.specs.record_streams.Fitting.{FitsButRoom}
use Rattle.made_files.specs.record_times.Times.{timed_record}
use Rattle.written_values.specs.draft_records.Records.{written_record}
use Rattle.made_files.specs.plan_values.Values.{IsOwnFile}
use Rattle.written_values.specs.file_puts.declared.streams.VolumeStreams.{VolumeStreams}
use Rattle.written_values.specs.file_puts.Puts.{PutsTimes}
use Rattle.written_values.specs.file_puts.Written.{AreStreamsOf}
use Rattle.made_files.specs.file_makes.declared.newfile.NewFile.{NewFile}
use Rattle.made_files.specs.file_makes.Making.{made_record}
use Rattle.made_files.specs.Made.{rooted_directory, MakesOfVolume, IsMadeEdit}

-- the directory's record with its times, as it is written, and the volume with it
abbrev pub timed_directory : ℕ → Record → Record
timed_directory stamp r = written_record (timed_record stamp r)

abbrev pub timed_volume : Volume → NewFile → Record → Volume
timed_volume v m r = with_record v m.parent.number (timed_directory m.stamp r)

-- A state with a directory that has no attribute list and has standard information. The draft that touched nothing has put its times, and
-- over the volume with these the new file. The directory has this node, and no directory of the volume itself, but the root, is above the file.
pub record MakesFileBy (c : Content) (g : Geometry) (clusters : ℕ) (v : Volume) (s : VolumeStreams) (numbers : Extents) (m : NewFile) (a : Node) (r : Record) (value : List ℕ) (used : ℕ) (t : Tree) (fresh : List ℕ) (nodes : NodesPlan) (timed new : List Touched) : Type 0 where
  pub sized : HasSizes c
  pub eight : g.per_cluster ≡ 8
  pub stands : Stands c g clusters v
  pub streams : AreStreamsOf v s
  pub own : IsOwnFile v m.parent.number r
  pub info : has_type standard_information r ≡ true
  pub fits : FitsButRoom r
  pub node : node_by_number (tree_of c v).nodes m.parent.number ≡ Some a
  pub referred : m.parent ≡ record { number = a.number; seq = a.seq }
  pub times : PutsTimes c s m.parent.number m.stamp r [] timed
  pub made : MakesOfVolume c (timed_volume v m r) s numbers m (timed_directory m.stamp r) value used t fresh nodes timed new
  pub outside : is_in_system (files_by_number v) (count_of v) m.parent.number ≡ false

-- the volume behind it, with the new file and its directory
abbrev pub made_volume : Content → Volume → VolumeStreams → NewFile → Record → DirPlan → List Touched → Volume
made_volume c v s m r plan timed = edited (timed_volume v m r) (made_edits m.file.number (made_record (drafted timed c) s.table m) m.parent.number (rooted_directory plan (timed_directory m.stamp r)))

-- The draft then stands for a state, to which its bodies lead as those of a plan do. The tree has the file, in its
-- directory, whose times are the stamp.
pub record HasMadeFile (c : Content) (g : Geometry) (clusters : ℕ) (v : Volume) (m : NewFile) (a : Node) (new : List Touched) (after : Volume) : Type 0 where
  pub gave : ℕ → Option BlockKind
  pub bodies : List NewBody
  pub same : PutSame (bodies_of new) bodies
  pub content : content_with c bodies ≡ drafted new c
  pub draft : DraftIn c g clusters v bodies after gave
  pub tree : (most : ℕ) → HasCreated (tree_of c v) most m.stamp a m.name m.file (tree_of (drafted new c) after)

-- The volume is that with the new file and its directory, of which what was put behind the times is the edit.
abbrev pub MadeFilesAreTrees : Type 0
MadeFilesAreTrees = (c : Content) (g : Geometry) (clusters : ℕ) (v : Volume) (s : VolumeStreams) (numbers : Extents) (m : NewFile) (a : Node) (r : Record) (value : List ℕ) (used : ℕ) (t : Tree) (fresh : List ℕ) (nodes : NodesPlan) (timed new : List Touched)
    → (k : MakesFileBy c g clusters v s numbers m a r value used t fresh nodes timed new)
    → IsMadeEdit c (timed_volume v m r) s m (timed_directory m.stamp r) value used t fresh k.made.put.plan timed new
    × HasMadeFile c g clusters v m a new (made_volume c v s m r k.made.put.plan timed)
