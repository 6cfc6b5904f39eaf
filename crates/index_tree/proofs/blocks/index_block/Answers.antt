use Rattle.std.proofs.Common.{◌∙◌, ap, arith}
use Rattle.volume_model.specs.Indexes.{or_void}
use Rattle.index_tree.proofs.Listed.{initialised_block}
use Rattle.index_tree.proofs.blocks.index_block.Goals as goal

pub returns : goal.returns
returns c =
    c.or_void.ensures
    ∙ ap or_void (c.block_at.ensures ∙ rw c.as_slice.ensures.value at c.runs_near-runs.ensures.block)
    ∙ initialised_block c.args.per c.args.extents.now c.args.number (omega arith)
