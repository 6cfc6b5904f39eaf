use Rattle.std.proofs.Common.{sym, arith}
use Rattle.host_base.proofs.Decimals.{too_large}
use Rattle.host_base.proofs.number.decimal.Goals as goal

pub returns-then-number : goal.returns-then-number
returns-then-number c = sym (too_large c.args.digits.now c.loop-digit.number c.loop-digit.digit-index (omega arith) c.loop-digit.invariant.read (omega arith))
