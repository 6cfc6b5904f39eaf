-- A file isn't made where its directory's record would be too full, or the directory's index too deep: nothing is done.
use Rattle.std.specs.Prelude.{◌≡◌, ℕ, ◌<◌, ◌≤◌, true, false, List, length, Some, Ok}
use Rattle.host_base.specs.declared.file_ref.FileRef.{FileRef}
use Rattle.disk_model.specs.Content.{Content}
use Rattle.record_model.specs.Records.{Record, used_of}
use Rattle.file_tree.specs.declared.node.Node.{Node}
use Rattle.file_tree.specs.Trees.{node_at as node_by_number}
use Rattle.index_model.specs.declared.key.Key.{Key}
use Rattle.index_model.specs.Trees.{Tree, levels, raws_of}
use Rattle.index_model.specs.Indexes.{most_levels}
use Rattle.index_model.specs.Laws.{HoldsIndex}
use Rattle.index_change.specs.declared.nodes_plan.NodesPlan.{NodesPlan}
use Rattle.index_change.specs.NodePlans.{PlansNodes, TakesFront}
use Rattle.index_change.specs.Plans.{root_room, seventeen, needs_level}
use Rattle.state_model.specs.declared.geometry.Geometry.{Geometry}
use Rattle.volume_model.specs.Indexes.{index_place, root_value}
use Rattle.volume_model.specs.Volumes.{Volume, file_in, upper_of}
use Rattle.volume_state.specs.Trees.{tree_of}
use Rattle.tree_model.specs.Effects.{new_link}
use Rattle.tree_model.specs.declared.script.Op.TheVariants.{Create}
use Rattle.tree_model.specs.declared.reply.Reply.TheVariants.{IndexDeep, RecordFull}
use Rattle.change_lookup.specs.declared.found.Found.TheVariants.{Place}
use Rattle.index_change.specs.index_plan.Laws.{Once}
use Rattle.node_spreads.specs.Nodes.{WritesFit}
use Rattle.made_trees.specs.step_model.Used.{most_used}
use Rattle.made_trees.specs.step_model.Spreads.{IsKeyOf, MayAddLevel}
use Rattle.made_trees.specs.step_model.Plans.{grows_table, spread_used}
use Rattle.made_trees.specs.step_model.Steps.{Step}
use Rattle.made_trees.specs.change_steps.Found.{HasChange, Finds}
use Rattle.made_steps.specs.Behind.{MayRise}

-- An operation was found to make a file of this name and number in this directory, in whose index this tree stands; the key is the file's.
pub record FindsDirectory (c : Content) (g : Geometry) (clusters : ℕ) (v : Volume) (path : List (List ℕ)) (directory a : Node) (name : List ℕ) (ref : FileRef) (r : Record) (value : List ℕ) (t : Tree) (key : Key) : Type 0 where
  pub has : HasChange c g clusters v (Create path)
  pub finds : Finds c v (Create path) (Place directory name ref)
  pub node : node_by_number (tree_of c v).nodes directory.number ≡ Some a
  pub file : file_in v a.number ≡ Some r
  pub root : root_value r ≡ Some value
  pub holds : HoldsIndex c (index_place v.per r) (upper_of c v) value t
  pub is_key : IsKeyOf (new_link a name ref) key
  pub short : length name ≤ 255

-- These nodes are planned for the key, for no fewer used bytes than the record has, of at least seventeen fresh VCNs; what is written has room in
-- its blocks. So many of the blocks that are taken lie behind those that there were.
pub record PlansKey (c : Content) (v : Volume) (r : Record) (value : List ℕ) (used : ℕ) (t : Tree) (key : Key) (fresh : List ℕ) (nodes : NodesPlan) (more : ℕ) : Type 0 where
  pub planned : PlansNodes c (index_place v.per r) (upper_of c v) value used key fresh (Ok nodes)
  pub least : used_of r.attrs ≤ used
  pub front : TakesFront fresh nodes
  pub enough : 17 ≤ length fresh
  pub once : Once t (seventeen fresh)
  pub fit : WritesFit nodes
  pub taken : more ≤ length nodes.taken.items

-- Nothing is done, with the record's used bytes as the reply, where it would have above 1,024 by the count of a step: without a level more,
-- where none may be added; and with one, where it may. Where the index has sixteen levels already, one may be added, and the record would
-- be too full without it, nothing is done either.
pub record NotMadeIsStep : Type 0 where
  pub full : (c : Content) (g : Geometry) (clusters : ℕ) (v : Volume) (path : List (List ℕ)) (stamp : ℕ) (directory a : Node) (name : List ℕ) (ref : FileRef) (r : Record) (value : List ℕ) (t : Tree) (key : Key) (used : ℕ) (fresh : List ℕ) (nodes : NodesPlan) (more bytes : ℕ)
      → FindsDirectory c g clusters v path directory a name ref r value t key → PlansKey c v r value used t key fresh nodes more → needs_level (upper_of c v) (root_room used value) key (seventeen fresh) t ≡ false
      → ((x : Tree) → nodes.root ≡ raws_of x → spread_used c v a.number r x more ≡ bytes) → most_used < bytes → ((x : Tree) → nodes.root ≡ raws_of x → MayAddLevel (upper_of c v) key r (used_of r.attrs) t x bytes → ⊥)
      → Step g clusters (Create path) stamp (RecordFull bytes) c c
  pub full_raised : (c : Content) (g : Geometry) (clusters : ℕ) (v : Volume) (path : List (List ℕ)) (stamp : ℕ) (directory a : Node) (name : List ℕ) (ref : FileRef) (r : Record) (value : List ℕ) (t : Tree) (key : Key) (used : ℕ) (fresh : List ℕ) (nodes : NodesPlan) (more bytes : ℕ)
      → FindsDirectory c g clusters v path directory a name ref r value t key → PlansKey c v r value used t key fresh nodes more → needs_level (upper_of c v) (root_room used value) key (seventeen fresh) t ≡ true → MayRise c v a.number r value key t
      → ((x : Tree) → nodes.root ≡ raws_of x → spread_used c v a.number r x more ≡ bytes) → most_used < bytes → Step g clusters (Create path) stamp (RecordFull bytes) c c
  pub deep : (c : Content) (g : Geometry) (clusters : ℕ) (v : Volume) (path : List (List ℕ)) (stamp : ℕ) (directory a : Node) (name : List ℕ) (ref : FileRef) (r : Record) (value : List ℕ) (t : Tree) (key : Key)
      → FindsDirectory c g clusters v path directory a name ref r value t key → grows_table (tree_of c v) ≡ false → (k : MayRise c v a.number r value key t) → levels t ≡ most_levels → most_used < spread_used c v a.number r k.flat k.behind
      → Step g clusters (Create path) stamp (IndexDeep (levels t)) c c
