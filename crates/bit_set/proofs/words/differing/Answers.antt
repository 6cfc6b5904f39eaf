use Rattle.std.proofs.Common.{arith}
use Rattle.bit_set.proofs.Places.{is_one-not}
use Rattle.bit_set.proofs.words.differing.Goals as goal

pub returns-then-value : goal.returns-then-value
returns-then-value c = λ j lt. rw c.if-value.true (is_one-not c.args.word j (omega arith) lt)
