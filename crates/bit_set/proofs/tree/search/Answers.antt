use Rattle.std.proofs.Common.{arith}
use Rattle.bit_set.specs.Words.{word_bit}
use Rattle.bit_set.proofs.Trees.{pow_small}
use Rattle.bit_set.proofs.Searches.{begins, ended}
use Rattle.bit_set.proofs.tree.search.Goals as goal

pub walk-met-requires-clause-start : goal.walk-met-requires-clause-start
walk-met-requires-clause-start c = omega (arith, pow_small c.args.levels c.requires.few)

pub returns : goal.returns
returns c = λ tree.
    let met = c.walk-met.ensures.met c.args.from tree (begins (word_bit c.args.words.now) c.args.from c.args.want.len c.none_from.result (c.none_from.ensures (word_bit c.args.words.now))) in
    ended (word_bit c.args.words.now) c.args.from c.args.want.end c.args.want.len c.scan.result (c.scan.ensures.met c.args.from met) c.scan.ensures.order c.scan.ensures.done
