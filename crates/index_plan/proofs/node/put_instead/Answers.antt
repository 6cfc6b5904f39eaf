use Rattle.std.proofs.Common.{◌≡◌, ℕ, zero, suc, ◌<◌, List, [], ◌∷◌, ◌++◌, Option, refl, ap, ◌∙◌, sym, length, take, drop, set, arith}
use Rattle.record_model.specs.declared.entry.Entry.{Entry as Raw}
use Rattle.index_model.specs.declared.key.Key.{Key}
use Rattle.index_model.specs.Trees.{raw}
use Rattle.index_plan.specs.Takings.{instead}
use Rattle.index_plan.proofs.node.put_instead.Goals as goal

set_is : (xs : List Raw) (i : ℕ) (y : Raw) → i < length xs → set xs i y ≡ take i xs ++ y ∷ drop (suc i) xs
set_is [] i y h = absurd (omega arith)
set_is (x ∷ xs) zero y h = refl
set_is (x ∷ xs) (suc i) y h = ap (λ (l : List Raw). x ∷ l) (set_is xs i y (omega arith))

pub returns-in-Some : goal.returns-in-Some
returns-in-Some c =
    c.replace.ensures.list
    ∙ set_is c.args.node.now c.args.at _ c.requires
    ∙ ap (λ (d : Option ℕ). take c.args.at c.args.node.now ++ raw c.in-Some.key d ∷ drop (suc c.args.at) c.args.node.now) c.down_at-down.ensures
    ∙ ap (λ (o : Option Key). instead c.args.at c.args.node.now o) (sym c.in-Some.is)
