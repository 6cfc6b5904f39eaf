use Rattle.record_writer.proofs.Pieces.{sizes_put}
use Rattle.record_writer.proofs.putting.put_sizes.Goals as goal

pub returns : goal.returns
returns c =
    sizes_put c.args.at c.args.place c.args.out.now _ _ _ _ _ _ _ _ _ c.args.sizes.now c.put_u64.ensures c.put_u64-2.ensures c.put_u16.ensures c.put_u16-2.ensures c.put_zeros.ensures
    c.put_u64-3.ensures c.put_u64-4.ensures c.put_u64-5.ensures c.put_held.ensures
