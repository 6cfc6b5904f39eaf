use Rattle.std.proofs.Common.{◌/◌, inl, inr, arith}
use Rattle.bit_set.specs.Words.{word_bit}
use Rattle.bit_set.proofs.Trees.{pow_small, tree_moved}
use Rattle.bit_set.proofs.tree.mend_run.Goals as goal

pub mend-requires-clause-start : goal.mend-requires-clause-start
mend-requires-clause-start c = omega (arith, pow_small c.args.levels c.requires.few)

pub returns-clause-mended : goal.returns-clause-mended
returns-clause-mended c = λ old same tree.
    c.mend.ensures.mended (tree_moved (word_bit old) (word_bit c.args.words.now) c.args.tree.now (c.args.first / 1024) c.min-last.result c.args.levels 0
    (λ i inside out. same i (elim out [
      | inl low ↦ inl (omega arith)
      | inr high ↦ inr (omega (arith, c.div_ceil.ensures, c.min-last.ensures, c.blocks_in.ensures))
    ]))
    tree)
