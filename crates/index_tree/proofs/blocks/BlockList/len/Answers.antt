use Rattle.std.proofs.Common.{arith, ap, length, List}
use Rattle.stream_map.specs.disk_model.declared.block.Block.{Block}
use Rattle.index_tree.proofs.Listed.{length_of_all}
use Rattle.index_tree.proofs.blocks.BlockList.len.Goals as goal

pub returns : goal.returns
returns c =
    omega (arith, length_of_all c.self.inside.per c.self.inside.extents c.self.inside.more.items c.self.inside.count c.self.invariant.counted, ap (λ (bs : List Block). length bs) c.self.view_is)
