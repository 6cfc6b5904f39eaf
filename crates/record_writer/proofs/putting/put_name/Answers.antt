use Rattle.std.proofs.Common.{refl, arith}
use Rattle.record_writer.proofs.Pieces.{name_put}
use Rattle.record_writer.proofs.putting.put_name.Goals as goal

pub returns : goal.returns
returns c = name_put c.args.at c.args.header _ _ c.args.name.now c.args.out.now c.put_units.new.out c.put_zeros.new.out c.put_units.ensures c.put_zeros.ensures refl (omega (arith, c.up8.ensures))
