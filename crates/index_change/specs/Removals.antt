-- What plans that take a link out of an index are.
use Rattle.std.specs.Prelude.{◌≡◌, ◌≤◌, ◌+◌, ◌<◌, ℕ, ⊤, Bool, true, false, IsTrue, List, [], ◌∷◌, ◌++◌, length, None, Result, Ok, Err}
use Rattle.record_model.specs.Nodes.{last_entry}
use Rattle.record_model.specs.disk_model.Content.{Content}
use Rattle.index_tree.specs.file_tree.declared.link.Link.{Link}
use Rattle.index_tree.specs.index_model.declared.key.Key.{Key}
use Rattle.index_tree.specs.index_model.Trees.{Tree, Leaf, walk, levels, one_if}
use Rattle.index_tree.specs.index_model.Indexes.{Place, links_of}
use Rattle.index_tree.specs.index_model.Laws.{HoldsIndex}
use Rattle.index_plan.specs.Laws.{Once, Sought, full_without}
use Rattle.index_plan.specs.Lists.{way}
use Rattle.index_plan.specs.Room.{tight_count}
use Rattle.index_node.specs.Roots.{root_spelling, HaveSpelling}
use Rattle.index_tree.specs.declared.fault.TreeFault.{TreeFault}
use Rattle.index_tree.specs.declared.fault.TreeFault.TheVariants.{Node, Present, Absent, Deep, View}
use Rattle.index_change.specs.declared.plan.DirPlan.{DirPlan}
use Rattle.index_change.specs.Changing.{IsLaidOut, uses}
use Rattle.index_change.specs.Orders.{stands, link_of, has_link, LacksOne}
use Rattle.index_change.specs.Plans.{root_room, seventeen, NewIndex, BreaksPlan}

-- the root has no room for its entries after a key of the link is taken out
pub record NeedsLevelWithout (upper : List ℕ) (room : ℕ) (l : Link) (fresh : List ℕ) (t : Tree) : Type 0 where
  pub sought : Sought (stands upper l) t
  pub full : IsTrue (full_without room t sought.way_to sought.part fresh)

-- The index after a plan, which has the keys from before without one key of this link, so that its walk gives the links without
-- one that is this one; a level more comes only where the root has no room for its entries without it, and where the record that
-- holds it would have more than 1,024 used bytes with 600 more.
pub record WithoutLink (c : Content) (p : Place) (upper value : List ℕ) (used : ℕ) (l : Link) (t : Tree) (fresh : List ℕ) (plan : DirPlan) : Type 0 where
  pub left : List Link
  pub lacks : LacksOne l (links_of (walk t)) left
  pub key : Key
  pub before : List Key
  pub behind : List Key
  pub had : walk t ≡ before ++ key ∷ behind
  pub stands_for : link_of key ≡ l
  pub more : Bool
  pub needed : IsTrue more → NeedsLevelWithout upper (root_room used value) l (seventeen fresh) t
  pub tight : IsTrue more → 1024 < used + 600
  pub index : NewIndex c p upper value used t fresh more (before ++ behind) left plan

-- an index without links is a root that has no blocks
abbrev pub IsBareIfEmpty : List Link → Tree → Type 0
IsBareIfEmpty left tree = left ≡ [] → tree ≡ Leaf

-- A fresh block is taken only for the split of a block with fewer than 600 free bytes on the way to a key of the link, or for a
-- level that is needed without this key.
pub record TakesLittleOut (upper : List ℕ) (room : ℕ) (l : Link) (fresh : List ℕ) (t : Tree) (plan : DirPlan) : Type 0 where
  pub sought : Sought (stands upper l) t
  pub taken : length plan.taken.items ≤ tight_count (way sought.way_to t) + one_if (full_without room t sought.way_to sought.part fresh)

-- how an index becomes a root that has no entries and no blocks: those that it had are freed
pub record IsEmptied (clusters : ℕ) (blocks : List ℕ) (plan : DirPlan) : Type 0 where
  pub root : plan.root ≡ root_spelling clusters (last_entry None ∷ [])
  pub spelled : HaveSpelling (last_entry None ∷ [])
  pub unchanged : plan.changes.items ≡ []
  pub none_taken : plan.taken.items ≡ []
  pub freed : plan.freed.items ≡ blocks

-- What a plan that takes a link out answers, of an index of this tree that has the link: the index without it; it is a bare root
-- where it has no link then, and no block is taken without need.
abbrev pub TakesLink : Content → Place → List ℕ → List ℕ → ℕ → Link → List ℕ → Result DirPlan TreeFault → Type 0
TakesLink c p upper value used l fresh (Ok plan) =
    (t : Tree) → HoldsIndex c p upper value t → has_link l (links_of (walk t)) ≡ true → Once t fresh → IsLaidOut p (uses t fresh) → (w : WithoutLink c p upper value used l t fresh plan) × IsBareIfEmpty w.left w.index.tree × (0 < length plan.taken.items → TakesLittleOut upper (root_room used value) l (seventeen fresh) t plan)
TakesLink c p upper value used l fresh (Err (Node vcn rule)) = BreaksPlan c p upper l.name value (record { vcn = vcn; rule = rule })
TakesLink c p upper value used l fresh (Err Present) = ⊥
TakesLink c p upper value used l fresh (Err Absent) = ⊥
TakesLink c p upper value used l fresh (Err (Deep height)) =
    (t : Tree) → HoldsIndex c p upper value t → (levels t ≡ height) × (height ≡ 16) × NeedsLevelWithout upper (root_room used value) l (seventeen fresh) t × (1024 < used + 600)
TakesLink c p upper value used l fresh (Err (View cause)) = ⊤

-- What a removal of a link answers: the index without it where some link is this one, and that it isn't there exactly where none
-- is.
abbrev pub RemoveGives : Content → Place → List ℕ → List ℕ → ℕ → Link → List ℕ → Result DirPlan TreeFault → Type 0
RemoveGives c p upper value used l fresh (Ok plan) = ((t : Tree) → HoldsIndex c p upper value t → has_link l (links_of (walk t)) ≡ true) × TakesLink c p upper value used l fresh (Ok plan)
RemoveGives c p upper value used l fresh (Err (Node vcn rule)) = BreaksPlan c p upper l.name value (record { vcn = vcn; rule = rule })
RemoveGives c p upper value used l fresh (Err Present) = ⊥
RemoveGives c p upper value used l fresh (Err Absent) = (t : Tree) → HoldsIndex c p upper value t → has_link l (links_of (walk t)) ≡ false
RemoveGives c p upper value used l fresh (Err (Deep height)) = ((t : Tree) → HoldsIndex c p upper value t → has_link l (links_of (walk t)) ≡ true) × TakesLink c p upper value used l fresh (Err (Deep height))
RemoveGives c p upper value used l fresh (Err (View cause)) = ⊤
