use Rattle.std.proofs.Common.{◌-◌, ◌^◌, sym, inl, inr, arith}
use Rattle.bit_set.specs.Words.{word_bit}
use Rattle.bit_set.proofs.Trees.{pow_level, tree_apart, tree_single, stays, mended}
use Rattle.bit_set.proofs.tree.+mend.Goals as goal

pub returns-then-start-blocks_at-clause-mended : goal.returns-then-start-blocks_at-clause-mended
returns-then-start-blocks_at-clause-mended t c = tree_apart (word_bit c.args.words.now) c.args.tree.now c.args.first c.args.end c.args.level c.args.start (inl (omega (arith, c.blocks_at.ensures)))

pub returns-then-end-start-clause-mended : goal.returns-then-end-start-clause-mended
returns-then-end-start-clause-mended t c = tree_apart (word_bit c.args.words.now) c.args.tree.now c.args.first c.args.end c.args.level c.args.start (inr c.if-end-start.true)

pub returns-then-level-eq0-clause-mended : goal.returns-then-level-eq0-clause-mended
returns-then-level-eq0-clause-mended t c = λ tree. tree_single (word_bit c.args.words.now) c.mend_block.new.tree 0 0 c.args.level c.args.start c.if-level-eq0.true (λ fits out. c.mend_block.ensures.mended)

pub mend-requires : goal.mend-requires
mend-requires t c =
    let two = pow_level c.args.level (c.args.level - 1) (omega arith) in
    (omega arith, (omega arith, (omega arith, (omega arith, (omega arith, omega arith)))))

pub mend-requires-2 : goal.mend-requires-2
mend-requires-2 t c =
    let two = pow_level c.args.level (c.args.level - 1) (omega arith) in
    (omega arith, (omega arith, (omega (arith, c.blocks_at-half.ensures), (omega (arith, c.mend.ensures.same_count), (omega (arith, c.mend.ensures.same_count), omega (arith, c.mend.ensures.same_count))))))

pub mend_node-requires-clause-start : goal.mend_node-requires-clause-start
mend_node-requires-clause-start t c =
    let two = pow_level c.args.level (c.args.level - 1) (omega arith) in
    omega (arith, c.blocks_at-half.ensures)

pub returns-clause-others : goal.returns-clause-others
returns-clause-others t c =
    let two = pow_level c.args.level (c.args.level - 1) (omega arith) in
    stays c.args.tree.now c.mend.new.tree c.mend-2.new.tree c.mend_node.new.tree (c.args.level - 1) c.args.start c.blocks_at-half.result (2 ^ c.args.level) (sym c.blocks_at-half.ensures) (omega (arith, c.blocks_at-half.ensures)) c.mend.ensures.others c.mend-2.ensures.others c.mend_node.ensures.others

pub returns-clause-mended : goal.returns-clause-mended
returns-clause-mended t c =
    mended (word_bit c.args.words.now) c.args.tree.now c.mend.new.tree c.mend-2.new.tree c.mend_node.new.tree c.args.first c.args.end c.args.level (c.args.level - 1) c.args.start c.blocks_at-half.result (omega arith) (sym c.blocks_at-half.ensures) c.mend.ensures.same_count c.mend-2.ensures.same_count c.mend_node.ensures.same_count c.mend.ensures.others c.mend-2.ensures.others c.mend_node.ensures.others c.mend.ensures.mended c.mend-2.ensures.mended (c.mend_node.ensures.mended (word_bit c.args.words.now))
