use Rattle.std.proofs.Common.{◌-◌, sym, arith}
use Rattle.bit_set.specs.Words.{word_bit}
use Rattle.bit_set.proofs.Trees.{pow_level, tree_root, tree_split}
use Rattle.bit_set.proofs.tree.+walk.Goals as goal

pub returns-in-Some-clause-met : goal.returns-in-Some-clause-met
returns-in-Some-clause-met t c = λ from tree met. c.in-Some.ensures.met (word_bit c.args.words.now) from (tree_root (word_bit c.args.words.now) c.args.tree.now 0 0 c.args.level c.args.start c.blocks_at-size.result (sym c.blocks_at-size.ensures) tree) met

pub returns-then-level-eq0-clause-met : goal.returns-then-level-eq0-clause-met
returns-then-level-eq0-clause-met t c = λ from tree met. c.scan_block.ensures.met from met

pub walk-left-requires : goal.walk-left-requires
walk-left-requires t c =
    let two = pow_level c.args.level (c.args.level - 1) (omega arith) in
    (omega arith, (omega arith, (omega arith, (omega arith, (omega arith, omega arith)))))

pub walk-requires : goal.walk-requires
walk-requires t c =
    let two = pow_level c.args.level (c.args.level - 1) (omega arith) in
    (omega arith, (omega arith, (omega (arith, c.blocks_at-half.ensures), (omega arith, (c.walk-left.ensures.order, omega arith)))))

pub returns-clause-met : goal.returns-clause-met
returns-clause-met t c = λ from tree met.
    let parts = tree_split (word_bit c.args.words.now) c.args.tree.now 0 0 c.args.level (c.args.level - 1) c.args.start c.blocks_at-half.result (omega arith) (sym c.blocks_at-half.ensures) tree in
    c.walk.ensures.met from parts.1 (c.walk-left.ensures.met from parts.0 met)
