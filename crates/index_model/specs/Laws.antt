-- The laws of indexes, and of the walk over one.
use Rattle.std.specs.Prelude.{◌≡◌, ℕ, List, Option, Ok, Err}
use Rattle.state_model.specs.disk_model.Content.{Content}
use Rattle.state_model.specs.record_model.declared.entry.Entry.{Entry}
use Rattle.state_model.specs.record_model.Nodes.{root_at}
use Rattle.state_model.specs.file_tree.declared.link.Link.{Link}
use Rattle.index_model.specs.Trees.{Tree, walk}
use Rattle.index_model.specs.Indexes.{Place, node_of_block, nodes_of, links_of, IsIndex}
use Rattle.index_model.specs.Walks.{Broken, walk_of, find_of}
use Rattle.index_model.specs.Breaks.{BreaksWalk, BreaksSearch}

-- nodes and a root stand for one index at most
abbrev pub OneIndex : Type 0
OneIndex = (nodes : ℕ → Option (List Entry)) (root : List Entry) (upper : List ℕ) (t s : Tree) → IsIndex nodes root upper t → IsIndex nodes root upper s → t ≡ s

-- a content holds an index of this tree at a place, below a root with this value
pub record HoldsIndex (c : Content) (p : Place) (upper : List ℕ) (value : List ℕ) (t : Tree) : Type 0 where
  pub entries : List Entry
  pub root_read : root_at value ≡ Ok entries
  pub is_index : IsIndex (nodes_of (node_of_block c p)) entries upper t

-- a walk passes exactly over an index, and then it gives the links of its keys
pub record WalkIsIndex : Type 0 where
  pub passed : (c : Content) (p : Place) (upper value : List ℕ) (links : List Link) → walk_of c p upper value ≡ Ok links → (t : Tree) × HoldsIndex c p upper value t × (links ≡ links_of (walk t))
  pub passes : (c : Content) (p : Place) (upper value : List ℕ) (t : Tree) → HoldsIndex c p upper value t → walk_of c p upper value ≡ Ok (links_of (walk t))

-- a node that a walk or a search names breaks that rule
pub record FaultBreaks : Type 0 where
  pub of_walk : (c : Content) (p : Place) (upper value : List ℕ) (b : Broken) → walk_of c p upper value ≡ Err b → BreaksWalk c p upper value b
  pub of_search : (c : Content) (p : Place) (upper name value : List ℕ) (b : Broken) → find_of c p upper name value ≡ Err b → BreaksSearch c p upper name value b
