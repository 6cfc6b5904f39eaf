use Rattle.std.proofs.Common.{◌+◌, ◌-◌, ◌∙◌, ap, length-take, length-drop, drop, arith}
use Rattle.disk_model.specs.Bytes.{zeros}
use Rattle.record_model.proofs.UnitBytes.{length-zeros}
use Rattle.record_writer.proofs.Pieces.{part_put}
use Rattle.record_writer.proofs.putting.put_zeros.Goals as goal

pub returns : goal.returns
returns c =
    let size = length-zeros c.args.count in
    part_put c.args.at (c.args.at + c.args.count - c.args.at) c.args.out.now c.clear.new.bytes (zeros c.args.count) (c.clear.ensures ∙ ap zeros (omega (arith, length-take (c.args.at + c.args.count - c.args.at) (drop c.args.at c.args.out.now), length-drop c.args.at c.args.out.now))) (omega arith) (omega arith)
