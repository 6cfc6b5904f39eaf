-- From a file that a draft has put behind a level more of its directory's index to the step of its content.
use Rattle.std.specs.Prelude.{◌≡◌, ℕ, ◌+◌, ◌≤◌, false, List, [], ◌∷◌, ◌++◌, length, None, Some}
use Rattle.disk_model.specs.Content.{Content}
use Rattle.record_model.specs.Nodes.{last_entry}
use Rattle.record_model.specs.Records.{Record}
use Rattle.file_tree.specs.declared.node.Node.{Node}
use Rattle.file_tree.specs.Trees.{node_at as node_by_number}
use Rattle.index_model.specs.Trees.{Tree, Down, raws_of}
use Rattle.index_model.specs.Laws.{HoldsIndex}
use Rattle.index_node.specs.Roots.{root_spelling}
use Rattle.index_change.specs.index_plan.Room.{is_tight}
use Rattle.index_change.specs.declared.nodes_plan.NodesPlan.{NodesPlan}
use Rattle.index_change.specs.Plans.{clusters_of}
use Rattle.state_model.specs.declared.geometry.Geometry.{Geometry}
use Rattle.state_model.specs.declared.stream.Extents.{Extents}
use Rattle.volume_model.specs.Indexes.{index_place, root_value}
use Rattle.volume_model.specs.Volumes.{Volume, upper_of}
use Rattle.volume_state.specs.Trees.{tree_of}
use Rattle.tree_model.specs.declared.script.Op.TheVariants.{Create}
use Rattle.tree_model.specs.declared.reply.Reply.TheVariants.{Created}
use Rattle.tree_model.specs.Needs.{needed}
use Rattle.change_lookup.specs.declared.found.Found.TheVariants.{Place}
use Rattle.plan_draft.specs.declared.touched.Touched.{Touched}
use Rattle.plan_draft.specs.Drafts.{drafted}
use Rattle.plan_blocks.specs.Levels.{IsRaised}
use Rattle.made_trees.specs.step_model.Placing.{Growth, wanted_by}
use Rattle.made_trees.specs.step_model.Used.{most_used}
use Rattle.made_trees.specs.step_model.Plans.{full_row, table_change, spread_comes, spread_used}
use Rattle.made_trees.specs.step_model.Steps.{Step}
use Rattle.made_trees.specs.change_steps.Found.{HasChange, Finds}
use Rattle.made_trees.specs.file_puts.declared.streams.VolumeStreams.{VolumeStreams}
use Rattle.made_trees.specs.file_makes.declared.newfile.NewFile.{NewFile}
use Rattle.made_trees.specs.made_files.Made.{made_key}
use Rattle.made_trees.specs.Behind.{MakesFileBehind}
use Rattle.made_steps.specs.Behind.{MayRise, table_used}

-- the root that a level more gives an index: one entry alone, with this child, in blocks of as many clusters
abbrev pub raised_root : List ℕ → ℕ → List ℕ
raised_root value f = root_spelling (clusters_of value) (last_entry (Some f) ∷ [])

-- the first node of this tree is that entry alone
abbrev pub HasOneChild : ℕ → Tree → Type 0
HasOneChild f x = raws_of x ≡ last_entry (Some f) ∷ []

-- An operation was found to make this file in this directory, in whose index this tree stands. It is put as planned behind a draft in which the file
-- table has grown, where no number was spare, and the index by a level more, whose node f with the entries of the old root has 600 free bytes. So many
-- blocks came to the index, the level's among them, and the plan takes no fewer beside that. Both take the clusters that a step counts for an index
-- with the level, no more than are needed, and by its count record 0 and the directory's record then use at most 1,024 bytes. A step allows the level.
pub record TakesStepRaised (c : Content) (g : Geometry) (clusters : ℕ) (v : Volume) (s : VolumeStreams) (numbers : Extents) (path : List (List ℕ)) (m : NewFile) (directory a : Node) (r : Record) (growths : List Growth) (u : Volume) (q : Record) (grown : List Touched) (more : ℕ) (value : List ℕ) (used : ℕ) (t : Tree) (f : ℕ) (fresh : List ℕ) (nodes : NodesPlan) (timed new : List Touched) : Type 0 where
  pub has : HasChange c g clusters v (Create path)
  pub finds : Finds c v (Create path) (Place directory m.name m.file)
  pub node : node_by_number (tree_of c v).nodes directory.number ≡ Some a
  pub root : root_value r ≡ Some value
  pub holds : HoldsIndex c (index_place v.per r) (upper_of c v) value t
  pub by : MakesFileBehind c g clusters v s numbers m a r growths u q grown (raised_root value f) used (Down f t) fresh nodes timed new
  pub raised : IsRaised c v r value t f (drafted grown c) u q
  pub loose : is_tight (raws_of t) ≡ false
  pub short : length m.name ≤ 255
  pub taken : more ≤ 1 + length nodes.taken.items
  pub comes : (x : Tree) → HasOneChild f x → (table_change c v).growths ++ (spread_comes c v a.number r x more).growths ≡ growths
  pub little : wanted_by growths ≤ needed (tree_of c v) 0 (Create path) a
  pub room : (x : Tree) → HasOneChild f x → spread_used c v a.number r x more ≤ most_used
  pub table : full_row (table_used c v) ≡ None
  pub level : MayRise c v a.number r value (made_key m) t

-- Then the content of the draft is the step's, with the number of the file as its reply.
abbrev pub RaisedAreSteps : Type 0
RaisedAreSteps = (c : Content) (g : Geometry) (clusters : ℕ) (v : Volume) (s : VolumeStreams) (numbers : Extents) (path : List (List ℕ)) (m : NewFile) (directory a : Node) (r : Record) (growths : List Growth) (u : Volume) (q : Record) (grown : List Touched) (more : ℕ) (value : List ℕ) (used : ℕ) (t : Tree) (f : ℕ) (fresh : List ℕ) (nodes : NodesPlan) (timed new : List Touched)
    → TakesStepRaised c g clusters v s numbers path m directory a r growths u q grown more value used t f fresh nodes timed new → Step g clusters (Create path) m.stamp (Created m.file.number m.file.seq) c (drafted new c)
