use Rattle.std.proofs.Common.{refl, arith}
use Rattle.record_writer.proofs.Pieces.{filled_put}
use Rattle.record_writer.proofs.putting.put_filled.Goals as goal

pub returns : goal.returns
returns c = filled_put c.args.at 0 _ _ c.args.bytes.now c.args.out.now c.put_bytes.new.bytes c.put_zeros.new.out c.put_bytes.ensures c.put_zeros.ensures refl (omega (arith, c.up8.ensures))
