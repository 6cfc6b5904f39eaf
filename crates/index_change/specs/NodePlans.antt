-- Plans of an index's nodes, which are made over one content and place and may be laid out over others.
use Rattle.std.specs.Prelude.{◌≡◌, ◌+◌, ◌<◌, ◌≤◌, ℕ, false, true, IsTrue, List, [], ◌++◌, length, take, drop, reverse, Some, Result, Ok, Err}
use Rattle.std.specs.List.{slice_get}
use Rattle.record_model.specs.disk_model.declared.block.Block.{Block}
use Rattle.record_model.specs.disk_model.Content.{Content, HasSizes}
use Rattle.record_model.specs.declared.entry.Entry.{Entry as Raw}
use Rattle.record_model.specs.Values.{is_file_name}
use Rattle.index_tree.specs.index_model.declared.key.Key.{Key}
use Rattle.index_tree.specs.index_model.Trees.{Tree, walk, raws_of, levels, one_if}
use Rattle.index_tree.specs.index_model.Indexes.{Place, node_of_block, links_of}
use Rattle.index_tree.specs.index_model.Laws.{HoldsIndex}
use Rattle.index_plan.specs.declared.plan.Rooted.{Rooted}
use Rattle.index_plan.specs.Laws.{NewTree, Once, inserted_by}
use Rattle.index_plan.specs.Lists.{place, way, rooted}
use Rattle.index_plan.specs.Reading.{nodes_of}
use Rattle.index_plan.specs.Room.{tight_count}
use Rattle.index_plan.specs.Search.{path_to, put}
use Rattle.index_node.specs.Roots.{root_spelling, HaveSpelling}
use Rattle.index_tree.specs.declared.fault.TreeFault.{TreeFault}
use Rattle.index_change.specs.declared.nodes_plan.NodesPlan.{NodesPlan}
use Rattle.index_change.specs.declared.plan.DirPlan.{DirPlan}
use Rattle.index_change.specs.Changing.{IsLaidOut, uses, PutNodes}
use Rattle.index_change.specs.Orders.{goes, link_of, put_link, has_entry}
use Rattle.index_change.specs.Plans.{clusters_of, root_room, seventeen, needs_level, bytes_more, NewIndex, TakesLittle, PutsNew, InsertGives}

-- the VCNs that a plan takes are the first so many of the fresh ones
abbrev pub TakesFront : List ℕ → NodesPlan → Type 0
TakesFront fresh n = n.taken.items ≡ take (length n.taken.items) (seventeen fresh)

-- the plan in the form of the laws of index trees: the node that is written last stands first, and behind the VCNs that are taken
-- those that are left
abbrev pub rooted_of : List ℕ → NodesPlan → Rooted
rooted_of fresh n = record { root = n.root; plan = record { writes = reverse n.writes.items; fresh = drop (length n.taken.items) fresh } }

-- how a plan of nodes is made of that form, with these fresh VCNs
pub record IsDrawn (fresh : List ℕ) (r : Rooted) (n : NodesPlan) : Type 0 where
  pub root : n.root ≡ r.root
  pub order : reverse n.writes.items ≡ r.plan.writes
  pub taken : n.taken.items ++ r.plan.fresh ≡ fresh

-- What an index of this tree becomes by a plan of its nodes: the nodes after those that are written stand for an index below the
-- new root that has the key at its place, and each VCN is used, or is left of the fresh ones, once. A level more comes only where
-- the root has no room, and then the index had fewer than sixteen; no block is taken without need. It is the plan of which the laws of index trees speak.
pub record NewNodes (c : Content) (p : Place) (upper value : List ℕ) (used : ℕ) (key : Key) (fresh : List ℕ) (t : Tree) (n : NodesPlan) : Type 0 where
  pub becomes : NewTree (nodes_of (node_of_block c p)) t (seventeen fresh) (put (goes upper (link_of key).name) key (walk t)) (λ x. 0) (root_room used value) (needs_level upper (root_room used value) key (seventeen fresh) t) (rooted_of (seventeen fresh) n)
  pub is : rooted_of (seventeen fresh) n ≡ rooted (root_room used value) (raws_of t) (place (path_to (goes upper (link_of key).name) t)) (inserted_by (path_to (goes upper (link_of key).name) t) key (seventeen fresh) t)
  pub low : levels t + one_if (needs_level upper (root_room used value) key (seventeen fresh) t) ≤ 16
  pub level : IsTrue (needs_level upper (root_room used value) key (seventeen fresh) t) → 1024 < used + bytes_more key t
  pub few : length n.taken.items ≤ tight_count (way (path_to (goes upper (link_of key).name) t) t) + one_if (needs_level upper (root_room used value) key (seventeen fresh) t)

-- what a plan of nodes that puts a key in answers, of an index of this tree that hasn't the entry
abbrev pub PlansNew : Content → Place → List ℕ → List ℕ → ℕ → Key → List ℕ → Result NodesPlan TreeFault → Type 0
PlansNew c p upper value used key fresh (Ok n) = (t : Tree) → HoldsIndex c p upper value t → Once t (seventeen fresh) → NewNodes c p upper value used key fresh t n
PlansNew c p upper value used key fresh (Err e) = PutsNew c p upper value used key fresh (Err e)

-- what such a plan answers of a key: the nodes of the index with the key where it hasn't the entry, and each refusal as an
-- insertion has it
abbrev pub PlansNodes : Content → Place → List ℕ → List ℕ → ℕ → Key → List ℕ → Result NodesPlan TreeFault → Type 0
PlansNodes c p upper value used key fresh (Ok n) = ((t : Tree) → HoldsIndex c p upper value t → has_entry upper (link_of key) (links_of (walk t)) ≡ false) × PlansNew c p upper value used key fresh (Ok n)
PlansNodes c p upper value used key fresh (Err e) = InsertGives c p upper value used key fresh (Err e)

-- how a plan of nodes is laid out: each change puts one of the nodes into its block, and the root is spelled
pub record LaysOut (p : Place) (clusters : ℕ) (n : NodesPlan) (plan : DirPlan) : Type 0 where
  pub puts : PutNodes p n.writes.items plan.changes.items
  pub spelled : HaveSpelling n.root
  pub root : plan.root ≡ root_spelling clusters n.root
  pub taken : plan.taken.items ≡ n.taken.items
  pub freed : plan.freed.items ≡ []

-- ---- one place and another

-- each node that the first content has at one of these VCNs, the second has too
abbrev pub KeepsNodes : Content → Place → Content → Place → (ℕ → ℕ) → Type 0
KeepsNodes c p d q count = (v : ℕ) (entries : List Raw) → 0 < count v → node_of_block c p v ≡ Ok entries → node_of_block d q v ≡ Ok entries

-- A plan of nodes that is made over one content and place, and laid out over others that keep the nodes of the index and what
-- nodes stand at fresh VCNs: the index is still there, and the plan is what an insertion there promises.
abbrev pub PlansJoin : Type 0
PlansJoin = (c d : Content) (p q : Place) (upper value : List ℕ) (used : ℕ) (key : Key) (fresh : List ℕ) (n : NodesPlan) (plan : DirPlan) (t : Tree)
    → HasSizes d → is_file_name key.value ≡ true → 17 ≤ length fresh
    → PlansNodes c p upper value used key fresh (Ok n) → TakesFront fresh n → LaysOut q (clusters_of value) n plan
    → HoldsIndex c p upper value t → Once t fresh → KeepsNodes c p d q (uses t (seventeen fresh)) → IsLaidOut q (uses t fresh)
    → HoldsIndex d q upper value t × NewIndex d q upper value used t fresh (needs_level upper (root_room used value) key (seventeen fresh) t) (put (goes upper (link_of key).name) key (walk t)) (put_link upper (link_of key) (links_of (walk t))) plan × TakesLittle upper value used key fresh t plan

-- the place with more blocks behind its own
pub record GoesOn (p q : Place) : Type 0 where
  pub step : q.step ≡ p.step
  pub more : List Block
  pub blocks : q.blocks ≡ p.blocks ++ more

-- where a place gets more blocks behind its own, and the bodies of its own are the same, it keeps each node that it had
abbrev pub GrownKeeps : Type 0
GrownKeeps = (c d : Content) (p q : Place) (count : ℕ → ℕ) → GoesOn p q → ((i : ℕ) (b : Block) → slice_get p.blocks i ≡ Some b → d b ≡ c b) → KeepsNodes c p d q count
