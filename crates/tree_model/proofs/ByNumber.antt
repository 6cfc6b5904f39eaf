-- Looking up by number in a list that one entry was put into, or taken from.
use Rattle.std.proofs.Common.{◌≡◌, ℕ, Bool, true, false, cond, List, [], ◌∷◌, ◌++◌, Option, Some, None, refl, sym, ap, ◌∙◌, subst, arith}
use Rattle.std.specs.Prelude.{find, filter, not, ◌==◌, if◌then◌else◌}
use Rattle.std.specs.Option.{option_or}
use Rattle.std.proofs.lemmas.Bool.Decides.{nat_tests}
use Rattle.std.proofs.lemmas.List.Folds.{find-append}
use Rattle.file_tree.specs.declared.node.Node.{Node}
use Rattle.file_tree.specs.Trees.{has_number, node_at}
use Rattle.file_tree.specs.host_base.declared.file_ref.FileRef.{FileRef}
use Rattle.tree_model.specs.Effects.{with_node, has_ref_number, ref_at}

gone_by : {X : Type 0} (b : Bool) (x : X) (p : X → Bool) (rest : List X) → p x ≡ b → find p rest ≡ None → find p (cond (not b) (x ∷ rest) rest) ≡ None
gone_by true x p rest is none = none
gone_by false x p rest is none = rw is none

-- none that passes is left where those that pass were taken out
gone : {X : Type 0} (p : X → Bool) (xs : List X) → find p (filter (λ y. not (p y)) xs) ≡ None
gone p [] = refl
gone p (x ∷ xs) = gone_by (p x) x p (filter (λ y. not (p y)) xs) refl (gone p xs)

kept_by : {X : Type 0} (b : Bool) (x : X) (p : X → Bool) (rest xs : List X) → (b ≡ true → p x ≡ false) → find p rest ≡ find p xs → find p (cond (not b) (x ∷ rest) rest) ≡ cond (p x) (Some x) (find p xs)
kept_by true x p rest xs apart same = rw (apart refl) same
kept_by false x p rest xs apart same = ap (λ r. cond (p x) (Some x) r) same

-- another one is found as before
kept : {X : Type 0} (p q : X → Bool) → ((x : X) → q x ≡ true → p x ≡ false) → (xs : List X) → find p (filter (λ y. not (q y)) xs) ≡ find p xs
kept p q apart [] = refl
kept p q apart (x ∷ xs) = kept_by (q x) x p (filter (λ y. not (q y)) xs) xs (apart x) (kept p q apart xs)

apart_by : (number n m : ℕ) → (number == n) ≡ false → (m == n) ≡ true → (m == number) ≡ false
apart_by number n m other is = grind (arith, nat_tests, other, is)

put_by : (b : Bool) (nodes : List Node) (new : Node) (number : ℕ) → (number == new.number) ≡ b
    → find (has_number number) (filter (λ (n : Node). not (n.number == new.number)) nodes ++ new ∷ []) ≡ (if b then Some new else find (has_number number) nodes)
put_by true nodes new number is =
    let same : new.number ≡ number = grind (arith, nat_tests, is) in
    let here : (new.number == number) ≡ true = grind (arith, nat_tests, is) in
    find-append (has_number number) (filter (λ (n : Node). not (n.number == new.number)) nodes) (new ∷ [])
    ∙ ap (λ f. option_or f (find (has_number number) (new ∷ []))) (subst (λ (k : ℕ). find (has_number number) (filter (λ (n : Node). not (n.number == k)) nodes) ≡ None) (sym same) (gone (has_number number) nodes))
    ∙ rw here refl
put_by false nodes new number is =
    let here : (new.number == number) ≡ false = grind (arith, nat_tests, is) in
    find-append (has_number number) (filter (λ (n : Node). not (n.number == new.number)) nodes) (new ∷ [])
    ∙ ap (λ f. option_or f (find (has_number number) (new ∷ []))) (kept (has_number number) (has_number new.number) (λ x at. apart_by number new.number x.number is at) nodes)
    ∙ rw here (or_none (find (has_number number) nodes))
  where
    or_none : {X : Type 0} (o : Option X) → option_or o None ≡ o
    or_none None = refl
    or_none (Some x) = refl

-- the nodes with one at its number
pub node_put : (nodes : List Node) (new : Node) (list : List Node) → list ≡ filter (λ (n : Node). not (n.number == new.number)) nodes ++ new ∷ [] → (number : ℕ) → node_at list number ≡ with_node new (node_at nodes) number
unfolding node_at
node_put nodes new list is number =
    ap (λ (l : List Node). find (has_number number) l) is ∙ put_by (number == new.number) nodes new number refl

-- and with another one at its own
pub both_put : (nodes : List Node) (new next : Node) (one two : List Node) → ((number : ℕ) → node_at one number ≡ with_node new (node_at nodes) number) → ((number : ℕ) → node_at two number ≡ with_node next (node_at one) number)
    → (number : ℕ) → node_at two number ≡ with_node next (with_node new (node_at nodes)) number
both_put nodes new next one two first second number = second number ∙ ap (λ (o : Option Node). if number == next.number then Some next else o) (first number)

ref_gone_by : (b : Bool) (refs : List FileRef) (taken number : ℕ) → (number == taken) ≡ b
    → find (has_ref_number number) (filter (λ (r : FileRef). not (r.number == taken)) refs) ≡ (if b then None else find (has_ref_number number) refs)
ref_gone_by true refs taken number is =
    let same : taken ≡ number = grind (arith, nat_tests, is) in
    subst (λ (k : ℕ). find (has_ref_number number) (filter (λ (r : FileRef). not (r.number == k)) refs) ≡ None) (sym same) (gone (has_ref_number number) refs)
ref_gone_by false refs taken number is = kept (has_ref_number number) (has_ref_number taken) (λ x at. apart_by number taken x.number is at) refs

-- the references without one at its number
pub ref_gone : (refs list : List FileRef) (taken : ℕ) → list ≡ filter (λ (r : FileRef). not (r.number == taken)) refs → (number : ℕ) → ref_at list number ≡ (if number == taken then None else ref_at refs number)
unfolding ref_at
ref_gone refs list taken is number = ap (λ (l : List FileRef). find (has_ref_number number) l) is ∙ ref_gone_by (number == taken) refs taken number refl
