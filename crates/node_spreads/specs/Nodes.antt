-- What an index becomes by a plan of its nodes, before it is laid out.
use Rattle.std.specs.Prelude.{◌≡◌, ℕ, ◌+◌, ◌≤◌, Bool, List, length, Option}
use Rattle.std.specs.List.{AllByRecursion}
use Rattle.step_model.specs.disk_model.Content.{Content}
use Rattle.plan_model.specs.record_model.declared.entry.Entry.{Entry as Raw}
use Rattle.plan_model.specs.record_model.Nodes.{node_used, node_room}
use Rattle.plan_model.specs.index_model.declared.key.Key.{Key}
use Rattle.plan_model.specs.index_model.Trees.{Tree, held, times, raws_of}
use Rattle.plan_model.specs.index_model.Indexes.{Place, node_of_block, nodes_of}
use Rattle.plan_model.specs.index_plan.Laws.{Once}
use Rattle.plan_model.specs.index_change.declared.nodes_plan.NodesPlan.{NodesPlan}
use Rattle.plan_model.specs.index_change.NodePlans.{NewNodes, TakesFront}
use Rattle.plan_model.specs.index_change.Plans.{root_room, seventeen, needs_level}
use Rattle.step_model.specs.Spreads.{blocks_in, IsSpread}

-- each node that the plan writes has room in its block
abbrev pub WritesFit : NodesPlan → Type 0
WritesFit n = AllByRecursion (λ w. node_used w.entries ≤ node_room) n.writes.items

-- The index by this plan of its nodes is spread as an operation may, with so many of the blocks that it takes behind those that there were.
pub record IsSpreadBy (c : Content) (p : Place) (upper value : List ℕ) (used : ℕ) (key : Key) (fresh : List ℕ) (t : Tree) (n : NodesPlan) : Type 0 where
  pub tree : Tree
  pub root : n.root ≡ raws_of tree
  pub blocks : blocks_in tree ≡ blocks_in t + length n.taken.items
  pub spread : (behind : ℕ) → behind ≤ length n.taken.items → IsSpread (nodes_of (node_of_block c p)) upper (root_room used value) key t (needs_level upper (root_room used value) key (seventeen fresh) t) tree behind

-- So it is with each plan that puts a key in, of at least seventeen fresh VCNs.
abbrev pub NodesAreSpread : Type 0
NodesAreSpread = (c : Content) (p : Place) (upper value : List ℕ) (used : ℕ) (key : Key) (fresh : List ℕ) (t : Tree) (n : NodesPlan)
    → NewNodes c p upper value used key fresh t n → WritesFit n → TakesFront fresh n → 17 ≤ length fresh → Once t (seventeen fresh) → IsSpreadBy c p upper value used key fresh t n

-- Where each number of a block is that of a block of before, or was taken, and is once among those that stay and are freed, the blocks
-- are as many.
abbrev pub BlocksAreCounted : Type 0
BlocksAreCounted = (s t : Tree) (freed taken : List ℕ) → ((v : ℕ) → held v s + times v freed ≡ held v t + times v taken) → blocks_in s + length freed ≡ blocks_in t + length taken

-- An index that is spread for a record with so many used bytes is spread so for one with fewer.
abbrev pub SpreadsWiden : Type 0
SpreadsWiden = (nodes : ℕ → Option (List Raw)) (upper : List ℕ) (less used : ℕ) (value : List ℕ) (key : Key) (t : Tree) (level : Bool) (s : Tree) (more : ℕ) → less ≤ used → IsSpread nodes upper (root_room used value) key t level s more
    → IsSpread nodes upper (root_room less value) key t level s more
