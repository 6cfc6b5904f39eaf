-- Nodes that are held while a plan is made.
use Rattle.std.specs.Prelude.{◌≡◌, ℕ, List, Some, Ok, IsSome}
use Rattle.std.specs.Ordering.{nat_cmp}
use Rattle.std.specs.BTreeMap.{BTreeMap, get}
use Rattle.record_model.specs.Nodes.{Node}
use Rattle.record_model.specs.declared.entry.Entry.{Entry}
use Rattle.index_tree.specs.index_model.Walks.{Event}
use Rattle.index_tree.specs.index_model.Breaks.{HasMet}
use Rattle.index_plan.specs.Reading.{NodeReads}

-- each node that is held is read so
abbrev pub HoldsNodesOf : NodeReads → BTreeMap ℕ Node → Type 0
HoldsNodesOf read held = (v : ℕ) (n : Node) → get nat_cmp held v ≡ Some n → read v ≡ Ok n.entries

-- some node is held by this VCN
abbrev pub IsHeld : ℕ → BTreeMap ℕ Node → Type 0
IsHeld v held = IsSome (get nat_cmp held v)

-- each VCN by which a node was held still holds one
abbrev pub StayHeld : BTreeMap ℕ Node → BTreeMap ℕ Node → Type 0
StayHeld before now = (v : ℕ) → IsHeld v before → IsHeld v now

-- of the nodes that were met, each that breaks no rule is held
abbrev pub AllHeld : NodeReads → List Event → BTreeMap ℕ Node → Type 0
AllHeld read met held = (v : ℕ) (entries : List Entry) → HasMet v met → read v ≡ Ok entries → IsHeld v held

-- what is held once a node more is: this one by its VCN, and by the others what was held
pub record HoldsMore (vcn : ℕ) (node : Node) (before now : BTreeMap ℕ Node) : Type 0 where
  pub here : get nat_cmp now vcn ≡ Some node
  pub others : (v : ℕ) → (vcn ≡ v → ⊥) → get nat_cmp now v ≡ get nat_cmp before v
