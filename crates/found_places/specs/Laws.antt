-- What a state says of the place of a new file.
use Rattle.std.specs.Prelude.{◌≡◌, ℕ, true, List, Some}
use Rattle.disk_model.specs.Content.{Content}
use Rattle.record_model.specs.Records.{Record}
use Rattle.file_tree.specs.declared.node.Node.{Node}
use Rattle.index_model.specs.Trees.{Tree}
use Rattle.index_change.specs.declared.nodes_plan.NodesPlan.{NodesPlan}
use Rattle.state_model.specs.declared.geometry.Geometry.{Geometry}
use Rattle.state_model.specs.declared.stream.Extents.{Extents}
use Rattle.state_model.specs.Files.{is_directory_record}
use Rattle.tree_model.specs.declared.script.Op.TheVariants.{Create}
use Rattle.tree_model.specs.declared.reply.Reply.TheVariants.{Created}
use Rattle.volume_model.specs.Volumes.{Volume, file_in}
use Rattle.plan_draft.specs.Drafts.{drafted}
use Rattle.step_model.specs.Steps.{Step}
use Rattle.plan_draft.specs.declared.touched.Touched.{Touched}
use Rattle.made_trees.specs.file_puts.declared.streams.VolumeStreams.{VolumeStreams}
use Rattle.made_trees.specs.file_makes.declared.newfile.NewFile.{NewFile}
use Rattle.made_trees.specs.Created.{MakesFileBy}
use Rattle.found_places.specs.Places.{IsFoundPlace, HasPlace, HasNames, PutsDirectory, HasTimes, PutsPlace, PutsFlat}

-- Where an operation was found to make a file, its directory has a record, whose index has no name of the same units. The times of the directory leave its index and
-- the streams of the volume. So all that is asked of a state is there where the file is put, for the index and the node that the directory has.
pub record PlacesAreThere : Type 0 where
  pub place : (c : Content) (g : Geometry) (clusters : ℕ) (v : Volume) (path : List (List ℕ)) (directory : Node) (m : NewFile) → IsFoundPlace c g clusters v path directory m → (a : Node) × (r : Record) × HasPlace c v directory m a r
  pub names : (c : Content) (g : Geometry) (clusters : ℕ) (v : Volume) (path : List (List ℕ)) (directory : Node) (m : NewFile) (r : Record) → IsFoundPlace c g clusters v path directory m → file_in v m.parent.number ≡ Some r → is_directory_record r ≡ true
      → (value : List ℕ) × (t : Tree) × HasNames c v m r value t
  pub timed : (c : Content) (g : Geometry) (clusters : ℕ) (v : Volume) (s : VolumeStreams) (m : NewFile) (r : Record) (timed : List Touched) → PutsDirectory c g clusters v s m r timed → HasTimes c g clusters v s m r timed
  pub makes : (c : Content) (g : Geometry) (clusters : ℕ) (v : Volume) (s : VolumeStreams) (numbers : Extents) (path : List (List ℕ)) (directory : Node) (m : NewFile) (r : Record) (value : List ℕ) (used : ℕ) (fresh : List ℕ) (nodes : NodesPlan) (timed new : List Touched)
      → PutsPlace c g clusters v s numbers path directory m r value used fresh nodes timed new → (a : Node) × (t : Tree) × HasPlace c v directory m a r × HasNames c v m r value t × MakesFileBy c g clusters v s numbers m a r value used t fresh nodes timed new

-- A file that is put so, without a block more for the index, is the step of the operation.
abbrev pub PlacesTakeSteps : Type 0
PlacesTakeSteps = (c : Content) (g : Geometry) (clusters : ℕ) (v : Volume) (s : VolumeStreams) (numbers : Extents) (path : List (List ℕ)) (directory : Node) (m : NewFile) (r : Record) (value : List ℕ) (fresh : List ℕ) (nodes : NodesPlan) (timed new : List Touched)
    → PutsFlat c g clusters v s numbers path directory m r value fresh nodes timed new → Step g clusters (Create path) m.stamp (Created m.file.number m.file.seq) c (drafted new c)
