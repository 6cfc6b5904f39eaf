use Rattle.record_writer.proofs.Pieces.{mapped_put}
use Rattle.record_writer.proofs.attrs.put_mapped.Goals as goal

pub returns : goal.returns
returns c =
    mapped_put c.args.at c.header_length-header.result c.up8-place.result c.args.out.now _ _ _ _ c.args.head.now c.args.name.now c.args.sizes.now c.args.pairs.now c.up8.result
    c.header_length-header.ensures.value c.up8-place.ensures c.up8.ensures c.put_front.ensures c.put_sizes.ensures c.put_name.ensures c.put_filled.ensures
