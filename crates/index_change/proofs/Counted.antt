-- Steps of a count of levels, and of a list of changes.
use Rattle.std.proofs.Common.{◌≡◌, ℕ, suc, ◌+◌, ◌<◌, ◌≤◌, List, [], ◌∷◌, ◌++◌, length, get_or, drop, drop-cons, Option, Some, None, sym, ap, ◌∙◌, subst, max, All, add-one, arith}
use Rattle.std.specs.Prelude.{IfSome}
use Rattle.std.proofs.lemmas.List.{drop_all}
use Rattle.std.specs.List.{AllByRecursion}
use Rattle.std.proofs.lemmas.List.Elements.{All-from_recursion}
use Rattle.index_tree.specs.block_view.Changes.{Fits}
use Rattle.record_model.proofs.NodeSpelling.{length-node_spelling}
use Rattle.index_node.specs.Roots.{new_node}
use Rattle.record_model.specs.disk_model.declared.block.Change.{Change}
use Rattle.record_model.specs.disk_model.Content.{Content}
use Rattle.record_model.specs.declared.entry.Entry.{Entry}
use Rattle.index_tree.specs.index_model.Indexes.{Place}
use Rattle.index_plan.specs.declared.write.Write.{Write}
use Rattle.index_change.specs.Changing.{PutsNode, PutNodes, WasOld, AllWereOld}
use Rattle.index_change.specs.Heights.{tallest}

some_tall : (kid : Option ℕ → ℕ) (entries : List Entry) → 1 ≤ tallest kid entries
some_tall kid [] = omega arith
some_tall kid (e ∷ entries) = omega arith

pub tall_start : (known : Option Content) (kid : Content → Option ℕ → ℕ) (entries : List Entry) → IfSome known (λ c. max 1 (tallest (kid c) entries) ≡ tallest (kid c) entries)
tall_start None kid entries = tt
tall_start (Some c) kid entries = let s = some_tall (kid c) entries in omega arith

next_is : (kid : Option ℕ → ℕ) (entries : List Entry) (i : ℕ) (e : Entry) → i < length entries → e ≡ get_or entries i e → tallest kid (drop i entries) ≡ max (1 + kid e.down) (tallest kid (drop (i + 1) entries))
next_is kid entries i e inside is =
    let here : drop i entries ≡ e ∷ drop (i + 1) entries = rw (add-one) (drop-cons entries i e inside ∙ ap (λ x. x ∷ drop (suc i) entries) (sym is)) in
    ap (tallest kid) here

pub tall_next : (known now : Option Content) (kid : Content → Option ℕ → ℕ) (most next below : ℕ) (entries : List Entry) (i : ℕ) (e : Entry) → now ≡ known → i < length entries → e ≡ get_or entries i e → next ≡ max most (below + 1)
    → IfSome known (λ c. max most (tallest (kid c) (drop i entries)) ≡ tallest (kid c) entries) → IfSome now (λ c. below ≡ kid c e.down) → IfSome known (λ c. max next (tallest (kid c) (drop (i + 1) entries)) ≡ tallest (kid c) entries)
tall_next None now kid most next below entries i e same inside is step rest here = tt
tall_next (Some c) now kid most next below entries i e same inside is step rest here =
    let h : below ≡ kid c e.down = subst (λ (o : Option Content). IfSome o (λ c. below ≡ kid c e.down)) same here in
    let n = next_is (kid c) entries i e inside is in
    omega (arith, h, n, rest, step)

pub tall_end : (known : Option Content) (kid : Content → Option ℕ → ℕ) (most : ℕ) (entries : List Entry) (i : ℕ) → length entries ≤ i → 1 ≤ most → IfSome known (λ c. max most (tallest (kid c) (drop i entries)) ≡ tallest (kid c) entries) → IfSome known (λ c. most ≡ tallest (kid c) entries)
tall_end None kid most entries i long some rest = tt
tall_end (Some c) kid most entries i long some rest =
    let t : tallest (kid c) (drop i entries) ≡ 1 = ap (tallest (kid c)) (drop_all i entries long) in
    omega (arith, t, rest, some)

-- ---- changes

pub put_more : (p : Place) (writes : List Write) (changes : List Change) (w : Write) (c : Change) → PutNodes p writes changes → PutsNode p w c → PutNodes p (writes ++ w ∷ []) (changes ++ c ∷ [])
put_more p [] [] w c put one = (one, tt)
put_more p [] (d ∷ changes) w c put one = absurd put
put_more p (v ∷ writes) [] w c put one = absurd put
put_more p (v ∷ writes) (d ∷ changes) w c put one = (put.0, put_more p writes changes w c put.1 one)

old_more : (content : Content) (changes : List Change) (c : Change) → AllWereOld content changes → WasOld content c → AllWereOld content (changes ++ c ∷ [])
old_more content [] c old one = (one, tt)
old_more content (d ∷ changes) c old one = (old.0, old_more content changes c old.1 one)

pub old_known : (known now : Option Content) (changes : List Change) (c : Change) → now ≡ known → IfSome known (λ x. AllWereOld x changes) → IfSome now (λ x. WasOld x c) → IfSome known (λ x. AllWereOld x (changes ++ c ∷ []))
old_known None now changes c same old one = tt
old_known (Some x) now changes c same old one = old_more x changes c old (subst (λ (o : Option Content). IfSome o (λ x. WasOld x c)) same one)

pub known_empty : (known : Option Content) → IfSome known (λ x. AllWereOld x [])
known_empty None = tt
known_empty (Some x) = tt

fit_each : (p : Place) (writes : List Write) (changes : List Change) → PutNodes p writes changes → AllByRecursion Fits changes
fit_each p [] [] put = tt
fit_each p [] (c ∷ changes) put = absurd put
fit_each p (w ∷ writes) [] put = absurd put
fit_each p (w ∷ writes) (c ∷ changes) put =
    let long : length c.new ≡ 4096 = ap length put.0.new ∙ length-node_spelling (new_node w.vcn w.entries) put.0.fits in
    let old = put.0.old in
    let at = put.0.whole in
    let inside = put.0.inside in
    (record { same_length = long ∙ sym old; inside = omega (arith, at, long, inside) }, fit_each p writes changes put.1)

-- the changes lie in their blocks
pub all_fit : (p : Place) (writes : List Write) (changes : List Change) → PutNodes p writes changes → All Fits changes
all_fit p writes changes put = All-from_recursion Fits changes (fit_each p writes changes put)
