use Rattle.std.proofs.Common.{arith}
use Rattle.script_text.proofs.Spelled.{within_bound, past_bound}
use Rattle.script_text.proofs.word.digits_in.Goals as goal

pub returns-then-word-gt-WRITTEN_BYTES-clause-value : goal.returns-then-word-gt-WRITTEN_BYTES-clause-value
returns-then-word-gt-WRITTEN_BYTES-clause-value c = past_bound c.args.word.now (omega arith)

pub returns-in-Ok-clause-value : goal.returns-in-Ok-clause-value
returns-in-Ok-clause-value c = rw c.from.ensures (within_bound c.args.word.now c.in-Ok.bytes.items (omega arith) c.in-Ok.ensures.ok).0

pub returns-in-Ok-clause-within : goal.returns-in-Ok-clause-within
returns-in-Ok-clause-within c = rw c.from.ensures (within_bound c.args.word.now c.in-Ok.bytes.items (omega arith) c.in-Ok.ensures.ok).1
