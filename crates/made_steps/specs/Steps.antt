-- From a file that a draft has put to the step of its content.
use Rattle.std.specs.Prelude.{◌≡◌, ℕ, ◌≤◌, false, List, length, Some}
use Rattle.std.specs.List.{AllByRecursion}
use Rattle.disk_model.specs.Content.{Content}
use Rattle.record_model.specs.Records.{Record, used_of}
use Rattle.file_tree.specs.declared.node.Node.{Node}
use Rattle.file_tree.specs.Trees.{node_at as node_by_number}
use Rattle.index_model.specs.Trees.{Tree, raws_of}
use Rattle.index_node.specs.Roots.{root_spelling}
use Rattle.index_change.specs.declared.nodes_plan.NodesPlan.{NodesPlan}
use Rattle.index_change.specs.Plans.{clusters_of, root_room, seventeen, needs_level}
use Rattle.state_model.specs.declared.geometry.Geometry.{Geometry}
use Rattle.state_model.specs.declared.stream.Extents.{Extents}
use Rattle.volume_model.specs.Volumes.{Volume, upper_of}
use Rattle.volume_state.specs.Trees.{tree_of}
use Rattle.tree_model.specs.declared.script.Op.TheVariants.{Create}
use Rattle.tree_model.specs.declared.reply.Reply.TheVariants.{Created}
use Rattle.change_lookup.specs.declared.found.Found.TheVariants.{Place}
use Rattle.plan_draft.specs.declared.touched.Touched.{Touched}
use Rattle.plan_draft.specs.Drafts.{drafted}
use Rattle.made_trees.specs.step_model.Used.{most_used}
use Rattle.made_trees.specs.step_model.Plans.{spread_comes, spread_used}
use Rattle.made_trees.specs.step_model.Steps.{Step}
use Rattle.made_trees.specs.change_steps.Found.{HasChange, Finds}
use Rattle.made_trees.specs.file_puts.declared.streams.VolumeStreams.{VolumeStreams}
use Rattle.made_trees.specs.file_makes.declared.newfile.NewFile.{NewFile}
use Rattle.made_trees.specs.made_files.Made.{made_key}
use Rattle.made_trees.specs.Created.{MakesFileBy}
use Rattle.made_trees.specs.Left.{StaysGrown}

-- the tree has the root that these nodes have
abbrev pub HasRootOf : List ℕ → NodesPlan → Tree → Type 0
HasRootOf value nodes u = root_spelling (clusters_of value) (raws_of u) ≡ root_spelling (clusters_of value) nodes.root

-- An operation was found to make this file in this directory. It is put as planned, without a level more: by the definition's count the directory's
-- record then uses at most 1,024 bytes, and no stream of its index takes clusters.
pub record TakesStep (c : Content) (g : Geometry) (clusters : ℕ) (v : Volume) (s : VolumeStreams) (numbers : Extents) (path : List (List ℕ)) (m : NewFile) (directory a : Node) (r : Record) (value : List ℕ) (t : Tree) (fresh : List ℕ) (nodes : NodesPlan) (timed new : List Touched) : Type 0 where
  pub has : HasChange c g clusters v (Create path)
  pub finds : Finds c v (Create path) (Place directory m.name m.file)
  pub node : node_by_number (tree_of c v).nodes directory.number ≡ Some a
  pub by : MakesFileBy c g clusters v s numbers m a r value (used_of r.attrs) t fresh nodes timed new
  pub short : length m.name ≤ 255
  pub flat : needs_level (upper_of c v) (root_room (used_of r.attrs) value) (made_key m) (seventeen fresh) t ≡ false
  pub room : (u : Tree) → HasRootOf value nodes u → spread_used c v a.number r u 0 ≤ most_used
  pub stay : (u : Tree) → HasRootOf value nodes u → AllByRecursion (StaysGrown v m.parent.number) (spread_comes c v a.number r u 0).growths

-- Then the content of the draft is the step's, with the number of the file as its reply.
abbrev pub MadeFilesAreSteps : Type 0
MadeFilesAreSteps = (c : Content) (g : Geometry) (clusters : ℕ) (v : Volume) (s : VolumeStreams) (numbers : Extents) (path : List (List ℕ)) (m : NewFile) (directory a : Node) (r : Record) (value : List ℕ) (t : Tree) (fresh : List ℕ) (nodes : NodesPlan) (timed new : List Touched)
    → TakesStep c g clusters v s numbers path m directory a r value t fresh nodes timed new → Step g clusters (Create path) m.stamp (Created m.file.number m.file.seq) c (drafted new c)
