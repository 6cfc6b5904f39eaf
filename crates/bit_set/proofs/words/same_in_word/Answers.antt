use Rattle.std.proofs.Common.{arith}
use Rattle.std.proofs.lemmas.Nat.Bits.{bit_at-zero}
use Rattle.bit_set.proofs.Places.{same_below, other_at, trailing_in_word}
use Rattle.bit_set.proofs.words.same_in_word.Goals as goal

pub returns-then-others-eq0-clause-same : goal.returns-then-others-eq0-clause-same
returns-then-others-eq0-clause-same c =
    same_below c.differing.result c.args.word c.args.from _ c.args.value c.differing.ensures (λ i lt. rw c.if-others-eq0.true (bit_at-zero i)) (omega arith)

pub returns-clause-within : goal.returns-clause-within
returns-clause-within c =
    let found = trailing_in_word c.differing.result c.args.from c.differing.type_inv c.requires c.if-others-eq0.false in
    rw c.from.ensures (omega (arith, found.0))

pub returns-clause-same : goal.returns-clause-same
returns-clause-same c =
    let found = trailing_in_word c.differing.result c.args.from c.differing.type_inv c.requires c.if-others-eq0.false in
    rw c.from.ensures (same_below c.differing.result c.args.word c.args.from _ c.args.value c.differing.ensures found.2 (omega (arith, found.0)))

pub returns-clause-other : goal.returns-clause-other
returns-clause-other c =
    let found = trailing_in_word c.differing.result c.args.from c.differing.type_inv c.requires c.if-others-eq0.false in
    rw c.from.ensures (other_at c.differing.result c.args.word c.args.from _ c.args.value c.differing.ensures found.1)
