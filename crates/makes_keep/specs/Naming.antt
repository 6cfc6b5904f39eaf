-- What a file that is made leaves of the names of a volume.
use Rattle.std.specs.Prelude.{◌≡◌, ℕ, List, Option}
use Rattle.disk_model.specs.Content.{Content}
use Rattle.record_model.specs.Records.{Record}
use Rattle.file_tree.specs.declared.link.Link.{Link}
use Rattle.file_tree.specs.declared.node.Node.{Node}
use Rattle.index_model.specs.Trees.{Tree}
use Rattle.made_trees.specs.made_files.index_change.declared.nodes_plan.NodesPlan.{NodesPlan}
use Rattle.state_model.specs.declared.geometry.Geometry.{Geometry}
use Rattle.state_model.specs.declared.stream.Extents.{Extents}
use Rattle.volume_model.specs.Volumes.{Volume, count_of}
use Rattle.plan_draft.specs.declared.touched.Touched.{Touched}
use Rattle.plan_draft.specs.Drafts.{drafted}
use Rattle.written_values.specs.step_model.Placing.{Growth}
use Rattle.written_values.specs.file_puts.declared.streams.VolumeStreams.{VolumeStreams}
use Rattle.made_names.specs.Made.{MakesName, with_file}
use Rattle.same_names.specs.Names.{SameNames}
use Rattle.made_trees.specs.file_makes.declared.newfile.NewFile.{NewFile}
use Rattle.made_trees.specs.file_makes.Making.{made_record}
use Rattle.made_trees.specs.made_files.Made.{made_link}
use Rattle.made_trees.specs.Created.{made_volume}
use Rattle.made_trees.specs.Behind.{MakesFileBehind}
use Rattle.makes_keep.specs.Makes.{GrowsWell}

-- The second list of records has one file more than the first, with this one name; the files of the first have the names that they had.
pub record HasOneMore (records others : List (Option Record)) (n : ℕ) (f : Record) (l : Link) : Type 0 where
  pub makes : MakesName records n f l
  pub names : SameNames (with_file n f records) others

-- The files behind a new file are those of what was put before it, and this one; and those of the volume before all, where there aren't more records.
abbrev pub MakesKeepNames : Type 0
MakesKeepNames = (c : Content) (g : Geometry) (clusters : ℕ) (v : Volume) (s : VolumeStreams) (numbers : Extents) (m : NewFile) (a : Node) (r : Record) (growths : List Growth) (u : Volume) (q : Record) (grown : List Touched) (value : List ℕ) (used : ℕ) (t : Tree) (fresh : List ℕ) (nodes : NodesPlan) (timed new : List Touched)
    → (k : MakesFileBehind c g clusters v s numbers m a r growths u q grown value used t fresh nodes timed new) → GrowsWell c v m.parent.number u grown
    → HasOneMore u.files (made_volume c u s m q k.made.put.plan timed).files m.file.number (made_record (drafted timed c) s.table m) (made_link m)
    × (count_of u ≡ count_of v → HasOneMore v.files (made_volume c u s m q k.made.put.plan timed).files m.file.number (made_record (drafted timed c) s.table m) (made_link m))
