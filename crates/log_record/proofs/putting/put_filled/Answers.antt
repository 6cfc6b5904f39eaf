use Rattle.std.proofs.Common.{rules}
use Rattle.log_record.proofs.OverBytes.{filled_put}
use Rattle.log_record.proofs.putting.put_filled.Goals as goal

pub returns : goal.returns
returns c = filled_put c.args.at _ c.args.bytes.now c.args.out.now c.put_bytes.new.bytes _ c.put_bytes.ensures (search rules) c.put_zeros.ensures
