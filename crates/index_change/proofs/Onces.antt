-- Each block is changed once.
use Rattle.std.proofs.Common.{◌≡◌, ℕ, ◌+◌, ◌<◌, ◌≤◌, Bool, true, false, List, [], ◌∷◌, ◌++◌, Some, refl, ap, arith}
use Rattle.std.specs.Prelude.{reverse, nat_eq}
use Rattle.std.proofs.lemmas.List.{reverse-append}
use Rattle.record_model.specs.disk_model.declared.block.Block.{Block}
use Rattle.record_model.specs.disk_model.declared.block.Change.{Change}
use Rattle.record_model.specs.disk_model.Sectors.{same_block}
use Rattle.index_node.proofs.disk_model.Frames.{same_block-is}
use Rattle.index_tree.specs.index_model.Trees.{times, same, one_if}
use Rattle.index_tree.specs.index_model.Indexes.{Place, node_block}
use Rattle.index_plan.specs.declared.write.Write.{Write}
use Rattle.index_plan.specs.Paths.{written_vcns}
use Rattle.index_change.specs.Changing.{IsLaidOut, PutNodes, changes_in}
use Rattle.index_change.proofs.Laid.{AreUsed, same_place}

times-append : (x : ℕ) (xs ys : List Write) → times x (written_vcns (xs ++ ys)) ≡ times x (written_vcns xs) + times x (written_vcns ys)
times-append x [] ys = omega arith
times-append x (w ∷ xs) ys = omega (arith, times-append x xs ys)

pub times-reverse : (x : ℕ) (writes : List Write) → times x (written_vcns (reverse writes)) ≡ times x (written_vcns writes)
times-reverse x [] = refl
times-reverse x (w ∷ writes) = omega (arith, ap (λ (l : List Write). times x (written_vcns l)) (reverse-append (w ∷ []) writes), times-append x (reverse writes) (w ∷ []), times-reverse x writes)

one_is : (x y : ℕ) (b : Bool) → b ≡ nat_eq x y → one_if b ≡ same x y
unfolding same
one_is x y b e = ap one_if e

-- the changes of a node's block are as many as its writes
as_often : (p : Place) (n : ℕ → ℕ) (v : ℕ) (b : Block) (writes : List Write) (changes : List Change) → IsLaidOut p n → 0 < n v → AreUsed n writes → node_block p v ≡ Some b → PutNodes p writes changes → changes_in b changes ≡ times v (written_vcns writes)
as_often p n v b [] [] laid here each at put = refl
as_often p n v b [] (c ∷ changes) laid here each at put = absurd put
as_often p n v b (w ∷ writes) [] laid here each at put = absurd put
as_often p n v b (w ∷ writes) (c ∷ changes) laid here each at put = omega (arith, one_is v w.vcn (same_block b c.block) (same_place p n v b w c laid here each.0 at put.0), as_often p n v b writes changes laid here each.1 at put.1)

pub one_each : (p : Place) (n : ℕ → ℕ) (writes : List Write) (changes : List Change) → IsLaidOut p n → AreUsed n writes → PutNodes p writes changes → ((v : ℕ) → times v (written_vcns writes) ≤ 1) → (b : Block) → changes_in b changes ≤ 1
one_each p n [] [] laid each put once b = omega arith
one_each p n [] (c ∷ changes) laid each put once b = absurd put
one_each p n (w ∷ writes) [] laid each put once b = absurd put
one_each p n (w ∷ writes) (c ∷ changes) laid each put once b = choose (one_each p n writes changes laid each.1 put.1 (λ v. let o = once v in omega arith) b) (same_block b c.block) refl
  where
    choose : changes_in b changes ≤ 1 → (s : Bool) → same_block b c.block ≡ s → one_if (same_block b c.block) + changes_in b changes ≤ 1
    choose later true e =
        let is : b ≡ c.block = same_block-is b c.block e in
        let all : changes_in c.block (c ∷ changes) ≡ times w.vcn (written_vcns (w ∷ writes)) = as_often p n w.vcn c.block (w ∷ writes) (c ∷ changes) laid each.0 each put.0.block put in
        omega (arith, ap (λ (x : Block). changes_in x (c ∷ changes)) is, all, once w.vcn)
    choose later false e = omega (arith, ap one_if e, later)
