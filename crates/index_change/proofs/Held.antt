-- One node more is held.
use Rattle.std.proofs.Common.{◌≡◌, ◌≢◌, false, arith, ℕ, Option, Some, Ok, sym, ap, ◌∙◌, inl, inr}
use Rattle.std.specs.Ordering.{nat_cmp, is_eq}
use Rattle.std.specs.BTreeMap.{BTreeMap, get, is_at}
use Rattle.std.specs.Cmp.{nat_cmp_is}
use Rattle.std.specs.declared.cmp.Ordering.TheVariants.{Less, Greater}
use Rattle.std.proofs.lemmas.Bool.{cases_eq, cases_lt}
use Rattle.record_model.specs.Nodes.{Node}
use Rattle.index_plan.specs.Reading.{NodeReads}
use Rattle.index_change.specs.Holding.{HoldsNodesOf}

some_is : (o : Option Node) (n m : Node) → o ≡ Some n → o ≡ Some m → m ≡ n
some_is o n m e f = let g : ◌≡◌ {A = Option Node} (Some n) (Some m) = sym e ∙ f in cc

pub held_more : (read : NodeReads) (old new : BTreeMap ℕ Node) (k : ℕ) (node : Node) → read k ≡ Ok node.entries → HoldsNodesOf read old → get nat_cmp new k ≡ Some node → ((v : ℕ) → (k ≡ v → ⊥) → get nat_cmp new v ≡ get nat_cmp old v) → HoldsNodesOf read new
held_more read old new k node is holds here others v n got =
    elim (cases_eq k v) [
      | inl e ↦ let same : n ≡ node = some_is (get nat_cmp new k) node n here (ap (get nat_cmp new) e ∙ got) in ap read (sym e) ∙ is ∙ ap (λ (m : Node). Ok m.entries) (sym same)
      | inr ne ↦ holds v n (sym (others v ne) ∙ got)
    ]

-- another key isn't at this one
pub not_at : (k v : ℕ) → (k ≡ v → ⊥) → is_at (nat_cmp k) v ≡ false
not_at k v ne =
    elim (cases_lt k v) [
      | inl lt ↦ ap is_eq (sym (nat_cmp_is k v Less lt))
      | inr le ↦ ap is_eq (sym (nat_cmp_is k v Greater (let n : k ≢ v = ne in omega arith)))
    ]
