use Rattle.std.proofs.Common.{length, ap, arith}
use Rattle.bit_set.specs.Words.{word_bit}
use Rattle.bit_set.proofs.Views.{lent_back}
use Rattle.bit_set.proofs.Trees.{pow_small, tree_new}
use Rattle.bit_set.proofs.tree.tree_over.Goals as goal

pub mend-requires-clause-start : goal.mend-requires-clause-start
mend-requires-clause-start c = omega (arith, pow_small c.args.levels c.requires.few)

pub returns-clause-right : goal.returns-clause-right
returns-clause-right c =
    rw (lent_back c.in_ok-tree.tree.len c.mend.new.tree c.in_ok-tree.tree.items (omega (arith, c.mend.ensures.same_count, c.deref_mut.ensures.len)) (omega (arith, ap length c.deref_mut.ensures.value, c.deref_mut.ensures.len)))
    (c.mend.ensures.mended (tree_new (word_bit c.args.words.now) c.deref_mut.result.now c.args.blocks c.args.levels 0 (omega (arith, c.deref_mut.ensures.len, c.in_ok-tree.ensures.len))))
