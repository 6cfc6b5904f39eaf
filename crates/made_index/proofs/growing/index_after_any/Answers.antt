use Rattle.std.proofs.Common.{sym, ◌∙◌}
use Rattle.std.specs.Prelude.{length}
use Rattle.made_index.proofs.Turning.{root_alone, after_own}
use Rattle.made_index.proofs.growing.index_after_any.Goals as goal

pub returns-then-has_blocks-clause-after : goal.returns-then-has_blocks-clause-after
returns-then-has_blocks-clause-after g c = λ n t is.
    after_own (g.B.FreeBits.bits c.args.bits.now) (g.B.FreeBits.bits c.index_after.new.bits) n c.args.file.now t c.args.more c.index_after.result (sym c.has_blocks.ensures.value ∙ c.if-has_blocks.true) (c.index_after.ensures.after n t is)

pub first_blocks-requires-clause-has : goal.first_blocks-requires-clause-has
first_blocks-requires-clause-has g c = root_alone (length (g.B.FreeBits.bits c.args.bits.now)) c.args.file.now c.requires.has (sym c.has_blocks.ensures.value ∙ c.if-has_blocks.false)
