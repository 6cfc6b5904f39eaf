use Rattle.std.proofs.Common.{◌≡◌, ◌∷◌, [], ◌++◌, List, ℕ, suc, ◌+◌, ap, ◌∙◌, arith}
use Rattle.std.specs.List.{range_with_len}
use Rattle.place_makes.proofs.Ranges.{one_more}
use Rattle.place_makes.proofs.vcns.vcns_from.Goals as goal

pub loop-i-preserved : goal.loop-i-preserved
loop-i-preserved c =
    let next : suc c.loop-i.i ≡ c.loop-i.i + 1 = omega arith in
    c.in_ok-push.ensures.items ∙ ap (λ (l : List ℕ). l ++ (c.args.first + c.loop-i.i) ∷ []) c.loop-i.invariant ∙ one_more c.args.first c.loop-i.i ∙ ap (range_with_len c.args.first) next

pub returns : goal.returns
returns c =
    let low = c.loop-i-test.false in
    let high = c.loop-i.auto.i-end in
    let all : c.loop-i.i ≡ 17 = omega (arith, low, high) in
    c.loop-i.invariant ∙ ap (range_with_len c.args.first) all
