use Rattle.std.proofs.Common.{◌*◌, arith}
use Rattle.bit_set.specs.Words.{word_bit}
use Rattle.bit_set.proofs.Searches.{begins}
use Rattle.bit_set.proofs.Trees.{scanned}
use Rattle.bit_set.proofs.tree.summary_of.Goals as goal

pub returns : goal.returns
returns c =
    let met = c.scan.ensures.met (1024 * c.args.start) (begins (word_bit c.args.words.now) (1024 * c.args.start) 1024 c.none_from.result (c.none_from.ensures (word_bit c.args.words.now))) in
    scanned (word_bit c.args.words.now) (1024 * c.args.start) 1024 _ c.scan.result met c.scan.ensures.order c.scan.ensures.done (omega arith)
