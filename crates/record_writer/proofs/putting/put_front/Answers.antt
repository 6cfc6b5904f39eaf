use Rattle.record_writer.proofs.Pieces.{front_put}
use Rattle.record_writer.proofs.putting.put_front.Goals as goal

pub returns : goal.returns
returns c =
    front_put c.args.at c.args.out.now _ _ _ _ _ _ c.args.head.now c.args.name.now c.args.front.own_length c.args.front.mapped c.args.front.header c.put_u32.ensures c.put_u32-2.ensures c.put_bytes.ensures
    c.put_u16.ensures c.put_u16-2.ensures c.put_u16-3.ensures
