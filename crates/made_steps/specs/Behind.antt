-- From a file that a draft has put behind the growth of its directory's index to the step of its content.
use Rattle.std.specs.Prelude.{◌≡◌, ℕ, ◌≤◌, true, false, List, ◌++◌, length, None, Some}
use Rattle.disk_model.specs.Content.{Content}
use Rattle.record_model.specs.Records.{Record, used_of}
use Rattle.record_model.specs.Values.{is_file_name}
use Rattle.file_tree.specs.declared.node.Node.{Node}
use Rattle.file_tree.specs.Trees.{node_at as node_by_number}
use Rattle.index_model.specs.declared.key.Key.{Key}
use Rattle.index_model.specs.Trees.{Tree}
use Rattle.index_model.specs.Indexes.{node_of_block, nodes_of}
use Rattle.index_model.specs.Laws.{HoldsIndex}
use Rattle.index_change.specs.index_plan.Laws.{Once}
use Rattle.index_change.specs.declared.nodes_plan.NodesPlan.{NodesPlan}
use Rattle.index_change.specs.Plans.{root_room, seventeen, needs_level}
use Rattle.state_model.specs.declared.geometry.Geometry.{Geometry}
use Rattle.state_model.specs.declared.stream.Extents.{Extents}
use Rattle.volume_model.specs.Indexes.{index_place}
use Rattle.volume_model.specs.Volumes.{Volume, file_in, table_file, upper_of}
use Rattle.volume_state.specs.Trees.{tree_of}
use Rattle.tree_model.specs.declared.script.Op.TheVariants.{Create}
use Rattle.tree_model.specs.declared.reply.Reply.TheVariants.{Created}
use Rattle.tree_model.specs.Needs.{needed}
use Rattle.change_lookup.specs.declared.found.Found.TheVariants.{Place}
use Rattle.plan_draft.specs.declared.touched.Touched.{Touched}
use Rattle.plan_draft.specs.Drafts.{drafted}
use Rattle.made_trees.specs.step_model.Placing.{Growth, wanted_by}
use Rattle.made_trees.specs.step_model.Used.{most_used}
use Rattle.made_trees.specs.step_model.Spreads.{IsSpread, MayAddLevel}
use Rattle.made_trees.specs.step_model.Plans.{full_row, used_in, used_if, grows_table, table_change, spread_comes, spread_used}
use Rattle.made_trees.specs.step_model.Steps.{Step}
use Rattle.made_trees.specs.change_steps.Found.{HasChange, Finds}
use Rattle.made_trees.specs.file_puts.declared.streams.VolumeStreams.{VolumeStreams}
use Rattle.made_trees.specs.file_makes.declared.newfile.NewFile.{NewFile}
use Rattle.made_trees.specs.made_files.Made.{made_key}
use Rattle.made_trees.specs.Grown.{KeepsIndex}
use Rattle.made_trees.specs.Behind.{MakesFileBehind}
use Rattle.made_steps.specs.Steps.{HasRootOf}

-- Why the index of a directory may get a level more with a key: without one it would be this tree, with so many blocks behind its own, and a step
-- allows the level.
pub record MayRise (c : Content) (v : Volume) (n : ℕ) (r : Record) (value : List ℕ) (key : Key) (t : Tree) : Type 0 where
  pub flat : Tree
  pub behind : ℕ
  pub spread : IsSpread (nodes_of (node_of_block c (index_place v.per r))) (upper_of c v) (root_room (used_of r.attrs) value) key t false flat behind
  pub may : MayAddLevel (upper_of c v) key r (used_of r.attrs) t flat (spread_used c v n r flat behind)

-- So it is where a plan for the used bytes that the record has needs a level.
abbrev pub RisesWhereNeeded : Type 0
RisesWhereNeeded = (c : Content) (v : Volume) (n : ℕ) (r : Record) (value : List ℕ) (key : Key) (fresh : List ℕ) (t : Tree) → is_file_name key.value ≡ true → HoldsIndex c (index_place v.per r) (upper_of c v) value t → Once t (seventeen fresh) → 17 ≤ length fresh
    → needs_level (upper_of c v) (root_room (used_of r.attrs) value) key (seventeen fresh) t ≡ true → MayRise c v n r value key t

-- the used bytes that record 0 has then, where the file table grows
abbrev pub table_used : Content → Volume → List ℕ
table_used c v = used_if (grows_table (tree_of c v)) (used_in (file_in v table_file) (table_change c v))

-- An operation was found to make this file in this directory. It is put as planned behind a draft in which the file table has grown, where no number
-- was spare, and the index by so many blocks, of which the plan takes no fewer; both take the clusters that a step counts for the root that the index
-- comes to have, no more than are needed, and by its count record 0 and the directory's record then use at most 1,024 bytes. The plan was made for
-- no fewer used bytes than the record had; with a level more, one may be added.
pub record TakesStepBehind (c : Content) (g : Geometry) (clusters : ℕ) (v : Volume) (s : VolumeStreams) (numbers : Extents) (path : List (List ℕ)) (m : NewFile) (directory a : Node) (r : Record) (growths : List Growth) (u : Volume) (q : Record) (grown : List Touched) (more : ℕ) (value : List ℕ) (used : ℕ) (t : Tree) (fresh : List ℕ) (nodes : NodesPlan) (timed new : List Touched) : Type 0 where
  pub has : HasChange c g clusters v (Create path)
  pub finds : Finds c v (Create path) (Place directory m.name m.file)
  pub node : node_by_number (tree_of c v).nodes directory.number ≡ Some a
  pub by : MakesFileBehind c g clusters v s numbers m a r growths u q grown value used t fresh nodes timed new
  pub index : KeepsIndex c v r (drafted grown c) u q
  pub short : length m.name ≤ 255
  pub least : used_of r.attrs ≤ used
  pub taken : more ≤ length nodes.taken.items
  pub comes : (x : Tree) → HasRootOf value nodes x → (table_change c v).growths ++ (spread_comes c v a.number r x more).growths ≡ growths
  pub little : wanted_by growths ≤ needed (tree_of c v) 0 (Create path) a
  pub room : (x : Tree) → HasRootOf value nodes x → spread_used c v a.number r x more ≤ most_used
  pub table : full_row (table_used c v) ≡ None
  pub level : needs_level (upper_of c v) (root_room used value) (made_key m) (seventeen fresh) t ≡ true → MayRise c v a.number r value (made_key m) t

-- Then the content of the draft is the step's, with the number of the file as its reply.
abbrev pub MadeBehindAreSteps : Type 0
MadeBehindAreSteps = (c : Content) (g : Geometry) (clusters : ℕ) (v : Volume) (s : VolumeStreams) (numbers : Extents) (path : List (List ℕ)) (m : NewFile) (directory a : Node) (r : Record) (growths : List Growth) (u : Volume) (q : Record) (grown : List Touched) (more : ℕ) (value : List ℕ) (used : ℕ) (t : Tree) (fresh : List ℕ) (nodes : NodesPlan) (timed new : List Touched)
    → TakesStepBehind c g clusters v s numbers path m directory a r growths u q grown more value used t fresh nodes timed new → Step g clusters (Create path) m.stamp (Created m.file.number m.file.seq) c (drafted new c)
