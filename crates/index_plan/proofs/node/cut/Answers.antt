use Rattle.std.proofs.Common.{◌≡◌, ℕ, suc, ◌+◌, ◌<◌, List, ◌∷◌, ap, length, drop, add-one}
use Rattle.record_model.specs.declared.entry.Entry.{Entry as Raw}
use Rattle.index_plan.specs.Lists.{entry_at}
use Rattle.index_plan.proofs.Entries.{at_front}
use Rattle.index_plan.proofs.node.cut.Goals as goal

abbrev Front : List Raw → ℕ → Raw → List Raw → Type 0
Front xs i r rest = (r ≡ entry_at i xs) × (rest ≡ drop (i + 1) xs)

-- the entry that is cut at, and those behind it
front : (xs rest right : List Raw) (i : ℕ) (r : Raw) → i < length xs → right ≡ drop i xs → right ≡ r ∷ rest → Front xs i r rest
front xs rest right i r h is e =
    let f = at_front xs i h in
    let n : drop (i + 1) xs ≡ drop (suc i) xs = ap (λ (j : ℕ). drop j xs) (add-one i) in
    (cc, cc)

pub returns-clause-rest : goal.returns-clause-rest
returns-clause-rest c =
    let f = front c.args.node.now c.remove-key.new.self c.in_ok-right.right c.args.at c.remove-key.result c.requires c.in_ok-right.ensures.later c.remove-key.ensures.entry in
    cc (f.1, c.replace-left.ensures.after)
