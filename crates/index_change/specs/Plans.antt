-- What plans of an index are.
use Rattle.std.specs.Prelude.{◌≡◌, ◌⊎◌, ◌+◌, ◌-◌, ◌<◌, ◌≤◌, ℕ, ⊤, Bool, false, true, IsTrue, List, [], ◌∷◌, ◌++◌, length, take, reverse, slice_index, if◌then◌else◌, Some, None, Result, Ok, Err}
use Rattle.record_model.specs.disk_model.declared.block.Block.{Block}
use Rattle.record_model.specs.disk_model.Bytes.{up8}
use Rattle.record_model.specs.disk_model.Content.{Content}
use Rattle.index_tree.specs.block_view.Changes.{content_after}
use Rattle.index_tree.specs.file_tree.declared.link.Link.{Link}
use Rattle.index_tree.specs.index_model.declared.key.Key.{Key}
use Rattle.record_model.specs.Nodes.{entry_length, last_entry}
use Rattle.index_tree.specs.index_model.Trees.{Tree, Leaf, Down, Entry, DownEntry, walk, held, times, levels, one_if, raw, raws_of}
use Rattle.index_tree.specs.index_model.Indexes.{Place, links_of}
use Rattle.index_tree.specs.index_model.Walks.{Broken, walk_of}
use Rattle.index_tree.specs.index_model.Breaks.{BreaksWalk, BreaksSearch}
use Rattle.index_tree.specs.index_model.Laws.{HoldsIndex}
use Rattle.index_plan.specs.declared.plan.Rooted.{Rooted}
use Rattle.index_plan.specs.declared.write.Write.{Write}
use Rattle.index_plan.specs.Laws.{Once, inserted_by}
use Rattle.index_plan.specs.Growth.{fits_in}
use Rattle.index_plan.specs.Lists.{overfull, place, way}
use Rattle.index_plan.specs.Paths.{written_vcns}
use Rattle.index_plan.specs.Room.{tight_count}
use Rattle.index_plan.specs.Search.{path_to, put}
use Rattle.index_node.specs.Roots.{root_spelling, HaveSpelling}
use Rattle.index_tree.specs.declared.fault.TreeFault.{TreeFault}
use Rattle.index_tree.specs.declared.fault.TreeFault.TheVariants.{Node, Present, Absent, Deep, View}
use Rattle.index_change.specs.declared.plan.DirPlan.{DirPlan}
use Rattle.index_tree.specs.Calls.{HoldsNone}
use Rattle.index_change.specs.Changing.{IsLaidOut, uses, PutNodes, changes_in}
use Rattle.index_change.specs.Orders.{goes, link_of, put_link, has_entry}

-- how many bytes the root's entries may take, so that the record that holds the root has at most 1,024 used bytes: those that are
-- free in it, and those behind the first 0x20 of the value that is there
unfoldable pub root_room : ℕ → List ℕ → ℕ
root_room used value = (1024 - used) + (up8 (length value) - 0x20)

-- the clusters of an index block, as the value of a root says
unfoldable pub clusters_of : List ℕ → ℕ
clusters_of value = slice_index value 0x0C

-- the VCNs that a plan may take
abbrev pub seventeen : List ℕ → List ℕ
seventeen fresh = take 17 fresh

-- whether the root has no room for its entries after the key is put in
abbrev pub needs_level : List ℕ → ℕ → Key → List ℕ → Tree → Bool
needs_level upper room key fresh t =
    let before = goes upper (link_of key).name in
    overfull room (raws_of t) (place (path_to before t)) (inserted_by (path_to before t) key fresh t)

-- whether nodes hang below the root
abbrev pub has_blocks : Tree → Bool
has_blocks Leaf = false
has_blocks (Down v t) = true
has_blocks (Entry key rest) = has_blocks rest
has_blocks (DownEntry v t key rest) = true

-- by how many bytes at most an entry more makes the root longer: in an index without blocks, by its own
abbrev pub bytes_more : Key → Tree → ℕ
bytes_more key t = if has_blocks t then 600 else entry_length (raw key None)

-- What a directory is after a plan: the changes laid over the content hold an index below the new root, which has these keys, so
-- that its walk gives these links. The root is the one spelling of its entries, and each change puts a node that is written into
-- its block, whole; each such node is one of the index. Each VCN is used, is one of those that are taken, or is freed, once.
-- Without a level more, the root has room for its entries or they are those from before; with one, it has one entry alone, and
-- the index had fewer than sixteen levels. At most 33 blocks are changed, each by one change, and at most seventeen of the fresh
-- VCNs are taken.
pub record NewIndex (c : Content) (p : Place) (upper value : List ℕ) (used : ℕ) (t : Tree) (fresh : List ℕ) (more : Bool) (keys : List Key) (meant : List Link) (plan : DirPlan) : Type 0 where
  pub tree : Tree
  pub holds : HoldsIndex (content_after plan.changes.items c) p upper plan.root tree
  pub root : plan.root ≡ root_spelling (clusters_of value) (raws_of tree)
  pub writes : List Write
  pub puts : PutNodes p writes plan.changes.items
  pub placed : (v : ℕ) → times v (written_vcns writes) ≤ held v tree
  pub has_keys : walk tree ≡ keys
  pub links : links_of keys ≡ meant
  pub walked : walk_of (content_after plan.changes.items c) p upper plan.root ≡ Ok meant
  pub numbers : (v : ℕ) → held v tree + times v plan.freed.items ≡ held v t + times v plan.taken.items
  pub height : levels tree ≤ levels t + one_if more
  pub has_room : more ≡ false → (fits_in (root_room used value) (raws_of tree) ≡ true) ⊎ (raws_of tree ≡ raws_of t)
  pub one_entry : more ≡ true → (levels t < 16) × ((f : ℕ) × (raws_of tree ≡ last_entry (Some f) ∷ []))
  pub written : length plan.changes.items ≤ 33
  pub apart : (b : Block) → changes_in b plan.changes.items ≤ 1
  pub few : length plan.taken.items ≤ 17
  pub among : (v : ℕ) → times v plan.taken.items ≤ times v fresh

-- how a plan is made of a list of nodes that are written, and of the VCNs of blocks that are no longer in use: each change puts
-- one of the nodes into its block, and the fresh VCNs are those that are taken, and behind them those that are left
pub record IsMade (p : Place) (clusters : ℕ) (fresh gone : List ℕ) (r : Rooted) (plan : DirPlan) : Type 0 where
  pub writes : List Write
  pub order : reverse writes ≡ r.plan.writes
  pub puts : PutNodes p writes plan.changes.items
  pub spelled : HaveSpelling r.root
  pub root : plan.root ≡ root_spelling clusters r.root
  pub taken : plan.taken.items ++ r.plan.fresh ≡ fresh
  pub freed : plan.freed.items ≡ gone

-- What a plan that puts a key in may take. A level more is needed only where the record that holds the root would have more than
-- 1,024 used bytes with 600 more; in an index without blocks, with the new entry. A fresh block is taken only for the split of a
-- block on the way to the key's place that has fewer than 600 free bytes, or for the level.
pub record TakesLittle (upper value : List ℕ) (used : ℕ) (key : Key) (fresh : List ℕ) (t : Tree) (plan : DirPlan) : Type 0 where
  pub level : IsTrue (needs_level upper (root_room used value) key (seventeen fresh) t) → 1024 < used + bytes_more key t
  pub taken : length plan.taken.items ≤ tight_count (way (path_to (goes upper (link_of key).name) t) t) + one_if (needs_level upper (root_room used value) key (seventeen fresh) t)

-- the node breaks that rule, so there is no index
abbrev pub BreaksPlan : Content → Place → List ℕ → List ℕ → List ℕ → Broken → Type 0
BreaksPlan c p upper name value b = (BreaksSearch c p upper name value b ⊎ BreaksWalk c p upper value b) × HoldsNone c p upper value

-- What a plan that puts a key in answers, of an index of this tree that hasn't the entry: the index with this key at its place;
-- a level more comes only where the root has no room, and no block is taken without need.
abbrev pub PutsNew : Content → Place → List ℕ → List ℕ → ℕ → Key → List ℕ → Result DirPlan TreeFault → Type 0
PutsNew c p upper value used key fresh (Ok plan) =
    (t : Tree) → HoldsIndex c p upper value t → Once t fresh → IsLaidOut p (uses t fresh) → NewIndex c p upper value used t fresh (needs_level upper (root_room used value) key (seventeen fresh) t) (put (goes upper (link_of key).name) key (walk t)) (put_link upper (link_of key) (links_of (walk t))) plan × TakesLittle upper value used key fresh t plan
PutsNew c p upper value used key fresh (Err (Node vcn rule)) = BreaksPlan c p upper (link_of key).name value (record { vcn = vcn; rule = rule })
PutsNew c p upper value used key fresh (Err Present) = ⊥
PutsNew c p upper value used key fresh (Err Absent) = ⊥
PutsNew c p upper value used key fresh (Err (Deep height)) =
    (t : Tree) → HoldsIndex c p upper value t → (levels t ≡ height) × (height ≡ 16) × IsTrue (needs_level upper (root_room used value) key (seventeen fresh) t) × (1024 < used + bytes_more key t)
PutsNew c p upper value used key fresh (Err (View cause)) = ⊤

-- What an insertion of a key answers: the index with the key where it hasn't the entry, and that it is there exactly where some
-- link has the same name and file.
abbrev pub InsertGives : Content → Place → List ℕ → List ℕ → ℕ → Key → List ℕ → Result DirPlan TreeFault → Type 0
InsertGives c p upper value used key fresh (Ok plan) = ((t : Tree) → HoldsIndex c p upper value t → has_entry upper (link_of key) (links_of (walk t)) ≡ false) × PutsNew c p upper value used key fresh (Ok plan)
InsertGives c p upper value used key fresh (Err (Node vcn rule)) = BreaksPlan c p upper (link_of key).name value (record { vcn = vcn; rule = rule })
InsertGives c p upper value used key fresh (Err Present) = (t : Tree) → HoldsIndex c p upper value t → has_entry upper (link_of key) (links_of (walk t)) ≡ true
InsertGives c p upper value used key fresh (Err Absent) = ⊥
InsertGives c p upper value used key fresh (Err (Deep height)) = ((t : Tree) → HoldsIndex c p upper value t → has_entry upper (link_of key) (links_of (walk t)) ≡ false) × PutsNew c p upper value used key fresh (Err (Deep height))
InsertGives c p upper value used key fresh (Err (View cause)) = ⊤
