-- A file that is put below a level more of the index of the directory that was found for it, from a state.
use Rattle.std.specs.Prelude.{ℕ, List, []}
use Rattle.disk_model.specs.Content.{Content}
use Rattle.record_model.specs.Records.{Record}
use Rattle.file_tree.specs.declared.node.Node.{Node}
use Rattle.state_model.specs.declared.geometry.Geometry.{Geometry}
use Rattle.state_model.specs.declared.stream.Extents.{Extents}
use Rattle.volume_model.specs.Volumes.{Volume, upper_of, cluster_bits}
use Rattle.tree_model.specs.declared.script.Op.TheVariants.{Create}
use Rattle.tree_model.specs.declared.reply.Reply.TheVariants.{Created}
use Rattle.plan_draft.specs.declared.touched.Touched.{Touched}
use Rattle.plan_draft.specs.Drafts.{drafted}
use Rattle.place_steps.specs.made_trees.step_model.Steps.{Step}
use Rattle.place_steps.specs.made_trees.file_puts.declared.streams.VolumeStreams.{VolumeStreams}
use Rattle.place_steps.specs.made_trees.file_puts.Written.{AreStreamsOf}
use Rattle.place_steps.specs.made_trees.file_makes.declared.newfile.NewFile.{NewFile}
use Rattle.place_steps.specs.made_trees.made_files.Made.{made_key, HasNumbers}
use Rattle.place_steps.specs.made_steps.Behind.{MayRise}
use Rattle.place_raises.specs.Raising.{PutsRaised}
use Rattle.refused_places.specs.Refused.{FindsPlace, OfIndex}

-- An operation was found to make this file in this directory, of which this is the record. A draft that touched nothing has put it below a level more of
-- the directory's index, with the clusters that are clear in the volume. A step allows the level.
pub record MakesRaised (c : Content) (g : Geometry) (clusters : ℕ) (v : Volume) (s : VolumeStreams) (numbers : Extents) (path : List (List ℕ)) (directory : Node) (m : NewFile) (r : Record) (new : List Touched) : Type 0 where
  pub finds : FindsPlace c g clusters v path directory m r
  pub streams : AreStreamsOf v s
  pub numbers_are : HasNumbers v numbers
  pub put : PutsRaised c (cluster_bits c v) s numbers (upper_of c v) m r [] new
  pub may : OfIndex c v r put.plans.value (λ t. MayRise c v m.parent.number r put.plans.value (made_key m) t)

-- Then the content of the draft is the step's, with the number of the file as its reply.
abbrev pub RaisedPlacesAreSteps : Type 0
RaisedPlacesAreSteps = (c : Content) (g : Geometry) (clusters : ℕ) (v : Volume) (s : VolumeStreams) (numbers : Extents) (path : List (List ℕ)) (directory : Node) (m : NewFile) (r : Record) (new : List Touched)
    → MakesRaised c g clusters v s numbers path directory m r new → Step g clusters (Create path) m.stamp (Created m.file.number m.file.seq) c (drafted new c)
