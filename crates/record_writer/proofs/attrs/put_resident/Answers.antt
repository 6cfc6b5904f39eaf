use Rattle.record_writer.proofs.Pieces.{resident_put}
use Rattle.record_writer.proofs.attrs.put_resident.Goals as goal

pub returns : goal.returns
returns c =
    resident_put c.args.at c.up8-place.result c.args.out.now _ _ _ _ _ _ c.args.head.now c.args.name.now c.args.value.now c.args.indexed c.up8.result c.up8-place.ensures c.up8.ensures
    c.put_front.ensures c.put_u32.ensures c.put_u16.ensures c.put_bytes.ensures c.put_name.ensures c.put_filled.ensures
