use Rattle.draft_bits.proofs.Bitwise.{filled_inside, filled_outside, cleared_inside, cleared_outside}
use Rattle.draft_bits.proofs.bytes.filled.Goals as goal

pub returns-then-value-clause-inside : goal.returns-then-value-clause-inside
returns-then-value-clause-inside c = λ j le lt. rw (c.low_ones.ensures, c.if-value.true) (filled_inside c.args.byte c.args.from c.args.len j c.requires.within le lt)

pub returns-then-value-clause-others : goal.returns-then-value-clause-others
returns-then-value-clause-others c = λ j lt out. rw c.low_ones.ensures (filled_outside c.args.byte c.args.from c.args.len j c.requires.within out)

pub returns-else-value-clause-inside : goal.returns-else-value-clause-inside
returns-else-value-clause-inside c = λ j le lt. rw (c.low_ones.ensures, c.if-value.false) (cleared_inside c.args.byte c.args.from c.args.len j c.requires.within le lt)

pub returns-else-value-clause-others : goal.returns-else-value-clause-others
returns-else-value-clause-others c = λ j lt out. rw c.low_ones.ensures (cleared_outside c.args.byte c.args.from c.args.len j c.requires.within lt out)
