use Rattle.std.proofs.Common.{arith}
use Rattle.bit_set.proofs.Searches.{is_first_in, none_in, which_end}
use Rattle.bit_set.proofs.set.BitSet.first_run_in.Goals as goal

pub returns-then-run-len : goal.returns-then-run-len
returns-then-run-len c = none_in c.args.self.now c.args.from c.min-last.result c.args.end c.args.len _ _ c.search-run.ensures (which_end c.args.self.now c.args.end c.min-last.result (omega (arith, c.min-last.ensures, c.bits.ensures))) c.if-run-len.true

pub returns : goal.returns
returns c = is_first_in c.args.self.now c.args.from c.min-last.result c.args.end c.args.len _ _ c.search-run.ensures (omega (arith, c.min-last.ensures)) c.if-run-len.false
