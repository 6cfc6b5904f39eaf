use Rattle.std.proofs.Common.{◌∙◌, ap, arith, List, Some}
use Rattle.std.specs.Prelude.{slice_get}
use Rattle.stream_map.specs.disk_model.declared.block.Block.{Block}
use Rattle.index_tree.proofs.Listed.{block_listed, block_added}
use Rattle.index_tree.proofs.blocks.BlockList.get.Goals as goal

pub returns-then-number-self : goal.returns-then-number-self
returns-then-number-self c =
    ap (λ (b : Block). Some b) c.index_block.ensures
    ∙ block_listed c.self.inside.per c.self.inside.extents c.self.inside.more.items c.self.inside.count c.args.number c.self.invariant.counted (omega arith)
    ∙ ap (λ (bs : List Block). slice_get bs c.args.number) c.self.view_is

pub returns : goal.returns
returns c =
    c.added.ensures
    ∙ block_added c.self.inside.per c.self.inside.extents c.self.inside.more.items c.self.inside.count c.args.number c.self.invariant.counted (omega arith)
    ∙ ap (λ (bs : List Block). slice_get bs c.args.number) c.self.view_is
