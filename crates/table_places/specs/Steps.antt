-- A file that is put in the place that was found for it, behind a file table that has grown in the same draft.
use Rattle.std.specs.Prelude.{◌≡◌, ℕ, ◌<◌, ◌≤◌, ◌^◌, Bool, List, Some}
use Rattle.utf16_name.specs.Lawful.{IsName}
use Rattle.disk_model.specs.Content.{Content, HasSizes}
use Rattle.record_model.specs.Pairs.{cluster_limit}
use Rattle.record_model.specs.Records.{Record}
use Rattle.file_tree.specs.declared.node.Node.{Node}
use Rattle.state_model.specs.declared.geometry.Geometry.{Geometry}
use Rattle.volume_model.specs.Volumes.{Volume, file_in, upper_of}
use Rattle.tree_model.specs.declared.script.Op.TheVariants.{Create}
use Rattle.tree_model.specs.declared.reply.Reply.TheVariants.{Created}
use Rattle.change_lookup.specs.declared.found.Found.TheVariants.{Place}
use Rattle.plan_draft.specs.declared.touched.Touched.{Touched}
use Rattle.plan_draft.specs.Drafts.{drafted}
use Rattle.record_streams.specs.Fitting.{FitsButRoom}
use Rattle.table_steps.specs.made_trees.step_model.Steps.{Step}
use Rattle.table_steps.specs.made_trees.change_steps.Found.{HasChange, Finds}
use Rattle.table_steps.specs.made_trees.file_makes.declared.newfile.NewFile.{NewFile}
use Rattle.place_steps.specs.place_makes.Placing.{PutsInPlace}
use Rattle.table_steps.specs.table_makes.declared.grown.TableGrown.{TableGrown}
use Rattle.table_steps.specs.Steps.{HasTableFirst}

-- An operation was found to make this file in this directory, at any number.
pub record IsFoundBehind (c : Content) (g : Geometry) (clusters : ℕ) (v : Volume) (path : List (List ℕ)) (directory : Node) (m : NewFile) : Type 0 where
  pub has : HasChange c g clusters v (Create path)
  pub finds : Finds c v (Create path) (Place directory m.name m.file)
  pub parent : m.parent ≡ record { number = directory.number; seq = directory.seq }
  pub few : clusters ≤ cluster_limit

-- An operation was found to make this file in this directory, of which this is the record. Where no number was spare, a draft that touched nothing has let
-- the file table grow; behind that it has put the file in its place, with the clusters that the table left clear.
pub record MakesBehindTable (c : Content) (g : Geometry) (clusters : ℕ) (v : Volume) (path : List (List ℕ)) (directory : Node) (m : NewFile) (r : Record) (x : TableGrown) (behind : List Bool) (tabled new : List Touched) : Type 0 where
  pub sized : HasSizes c
  pub found : IsFoundBehind c g clusters v path directory m
  pub has : HasTableFirst c g clusters v tabled x behind
  pub is_name : IsName m.name
  pub seq : m.file.seq < 2 ^ 16
  pub soon : m.stamp < 2 ^ 64
  pub file : file_in v m.parent.number ≡ Some r
  pub fits : FitsButRoom r
  pub put : PutsInPlace c behind x.streams x.numbers (upper_of c v) m r tabled new

-- Then the content of the draft is the step's, with the number of the file as its reply.
abbrev pub PlacesBehindAreSteps : Type 0
PlacesBehindAreSteps = (c : Content) (g : Geometry) (clusters : ℕ) (v : Volume) (path : List (List ℕ)) (directory : Node) (m : NewFile) (r : Record) (x : TableGrown) (behind : List Bool) (tabled new : List Touched)
    → MakesBehindTable c g clusters v path directory m r x behind tabled new → Step g clusters (Create path) m.stamp (Created m.file.number m.file.seq) c (drafted new c)
