-- What a plan of one level more is.
use Rattle.std.specs.Prelude.{◌≡◌, ◌≤◌, ℕ, ⊤, true, List, [], ◌∷◌, length, Option, Some, None, Result, Ok, Err}
use Rattle.record_model.specs.disk_model.Content.{Content}
use Rattle.record_model.specs.declared.entry.Entry.{Entry as Raw}
use Rattle.index_tree.specs.index_model.Trees.{Tree, walk, levels, raws_of}
use Rattle.index_tree.specs.index_model.Indexes.{Place, links_of}
use Rattle.index_tree.specs.index_model.Breaks.{BreaksWalk}
use Rattle.index_tree.specs.index_model.Laws.{HoldsIndex}
use Rattle.index_plan.specs.Laws.{Once}
use Rattle.index_node.specs.Roots.{HaveSpelling}
use Rattle.index_tree.specs.declared.fault.TreeFault.{TreeFault}
use Rattle.index_tree.specs.declared.fault.TreeFault.TheVariants.{Node, Present, Absent, Deep, View}
use Rattle.index_tree.specs.Calls.{HoldsNone}
use Rattle.index_change.specs.declared.plan.DirPlan.{DirPlan}
use Rattle.index_change.specs.Changing.{IsLaidOut, uses}
use Rattle.index_change.specs.Plans.{NewIndex}

-- the entries of a root can go into a block: there is a key among them, and they have room there
pub record CanGoDown (root : List Raw) : Type 0 where
  pub some_key : 2 ≤ length root
  pub spelled : HaveSpelling root

-- the index with the same keys and a level more, whose root has one entry alone; the fresh block is taken
pub record Raised (c : Content) (p : Place) (upper value : List ℕ) (used fresh : ℕ) (t : Tree) (plan : DirPlan) : Type 0 where
  pub index : NewIndex c p upper value used t (fresh ∷ []) true (walk t) (links_of (walk t)) plan
  pub taken : plan.taken.items ≡ fresh ∷ []

-- What a plan of one level more answers: the index with that level, where the root's entries can go into a block and it has fewer
-- than sixteen; none exactly where the entries can't, and that it is too deep exactly where it has sixteen.
abbrev pub LevelGives : Content → Place → List ℕ → List ℕ → ℕ → ℕ → Result (Option DirPlan) TreeFault → Type 0
LevelGives c p upper value used fresh (Ok (Some plan)) = (t : Tree) → HoldsIndex c p upper value t → CanGoDown (raws_of t) × (Once t (fresh ∷ []) → IsLaidOut p (uses t (fresh ∷ [])) → Raised c p upper value used fresh t plan)
LevelGives c p upper value used fresh (Ok None) = (t : Tree) → HoldsIndex c p upper value t → CanGoDown (raws_of t) → ⊥
LevelGives c p upper value used fresh (Err (Node vcn rule)) = BreaksWalk c p upper value (record { vcn = vcn; rule = rule }) × HoldsNone c p upper value
LevelGives c p upper value used fresh (Err Present) = ⊥
LevelGives c p upper value used fresh (Err Absent) = ⊥
LevelGives c p upper value used fresh (Err (Deep height)) = (t : Tree) → HoldsIndex c p upper value t → (levels t ≡ height) × (height ≡ 16) × CanGoDown (raws_of t)
LevelGives c p upper value used fresh (Err (View cause)) = ⊤
