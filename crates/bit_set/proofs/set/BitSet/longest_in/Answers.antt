use Rattle.std.proofs.Common.{arith}
use Rattle.bit_set.proofs.Searches.{is_longest_in, all_set_in, which_end}
use Rattle.bit_set.proofs.set.BitSet.longest_in.Goals as goal

pub returns-then-run-eq0 : goal.returns-then-run-eq0
returns-then-run-eq0 c = all_set_in c.args.self.now c.args.from c.min-last.result c.args.end _ _ c.search-run.ensures c.if-last-from.false (which_end c.args.self.now c.args.end c.min-last.result (omega (arith, c.min-last.ensures, c.bits.ensures))) (omega arith)

pub returns : goal.returns
returns c = is_longest_in c.args.self.now c.args.from c.min-last.result c.args.end _ _ c.search-run.ensures c.if-last-from.false (omega (arith, c.min-last.ensures)) (which_end c.args.self.now c.args.end c.min-last.result (omega (arith, c.min-last.ensures, c.bits.ensures))) (omega arith)
