-- A file that is put in the place that was found for it, from a state.
use Rattle.std.specs.Prelude.{◌≡◌, ℕ, ◌<◌, ◌^◌, List, [], Some}
use Rattle.utf16_name.specs.Lawful.{IsName}
use Rattle.disk_model.specs.Content.{Content, HasSizes}
use Rattle.record_model.specs.Records.{Record}
use Rattle.file_tree.specs.declared.node.Node.{Node}
use Rattle.state_model.specs.declared.geometry.Geometry.{Geometry}
use Rattle.state_model.specs.declared.stream.Extents.{Extents}
use Rattle.volume_model.specs.Volumes.{Volume, file_in, upper_of, cluster_bits}
use Rattle.tree_model.specs.declared.script.Op.TheVariants.{Create}
use Rattle.tree_model.specs.declared.reply.Reply.TheVariants.{Created}
use Rattle.plan_draft.specs.declared.touched.Touched.{Touched}
use Rattle.plan_draft.specs.Drafts.{drafted}
use Rattle.record_streams.specs.Fitting.{FitsButRoom}
use Rattle.place_makes.specs.made_trees.step_model.Steps.{Step}
use Rattle.place_makes.specs.made_trees.file_puts.declared.streams.VolumeStreams.{VolumeStreams}
use Rattle.place_makes.specs.made_trees.file_puts.Written.{AreStreamsOf}
use Rattle.place_makes.specs.made_trees.file_makes.declared.newfile.NewFile.{NewFile}
use Rattle.place_makes.specs.made_trees.made_files.Made.{HasNumbers}
use Rattle.place_makes.specs.found_places.Places.{IsFoundPlace}
use Rattle.place_makes.specs.Placing.{PutsInPlace}

-- An operation was found to make this file in this directory, of which this is the record. A draft that touched nothing has put it in its place, with the
-- clusters that are clear in the volume.
pub record MakesInPlace (c : Content) (g : Geometry) (clusters : ℕ) (v : Volume) (s : VolumeStreams) (numbers : Extents) (path : List (List ℕ)) (directory : Node) (m : NewFile) (r : Record) (new : List Touched) : Type 0 where
  pub sized : HasSizes c
  pub found : IsFoundPlace c g clusters v path directory m
  pub is_name : IsName m.name
  pub seq : m.file.seq < 2 ^ 16
  pub soon : m.stamp < 2 ^ 64
  pub streams : AreStreamsOf v s
  pub numbers_are : HasNumbers v numbers
  pub file : file_in v m.parent.number ≡ Some r
  pub fits : FitsButRoom r
  pub put : PutsInPlace c (cluster_bits c v) s numbers (upper_of c v) m r [] new

-- Then the content of the draft is the step's, with the number of the file as its reply.
abbrev pub PlacesAreSteps : Type 0
PlacesAreSteps = (c : Content) (g : Geometry) (clusters : ℕ) (v : Volume) (s : VolumeStreams) (numbers : Extents) (path : List (List ℕ)) (directory : Node) (m : NewFile) (r : Record) (new : List Touched)
    → MakesInPlace c g clusters v s numbers path directory m r new → Step g clusters (Create path) m.stamp (Created m.file.number m.file.seq) c (drafted new c)
