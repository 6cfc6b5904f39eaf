use Rattle.std.proofs.Common.{◌+◌, ◌-◌, ℕ, arith}
use Rattle.std.proofs.lemmas.List.{length-take, length-drop}
use Rattle.log_record.proofs.OverBytes.{zeros_put}
use Rattle.log_record.proofs.putting.put_zeros.Goals as goal

pub returns : goal.returns
returns c = zeros_put c.args.at (c.args.at + c.args.count - c.args.at) _ c.args.count c.args.out.now c.clear.new.bytes c.clear.ensures (omega (arith, c.requires, length-take {A = ℕ}, length-drop {A = ℕ})) (omega arith) c.requires
