use Rattle.std.proofs.Common.{◌≡◌, ◌+◌, ◌-◌, length, take, drop, ap, ◌∙◌, arith}
use Rattle.std.proofs.lemmas.List.{length-take, length-drop}
use Rattle.disk_model.specs.Bytes.{zeros}
use Rattle.index_node.proofs.Placing.{zeros_put}
use Rattle.index_node.proofs.writing.put_zeros.Goals as goal

pub returns : goal.returns
returns c =
    let n = c.args.at + c.args.count - c.args.at in
    let size : length (take n (drop c.args.at c.args.out.now)) ≡ c.args.count = omega (arith, length-take n (drop c.args.at c.args.out.now), length-drop c.args.at c.args.out.now, c.requires) in
    zeros_put c.args.at c.args.count c.args.out.now c.clear.new.bytes (c.clear.ensures ∙ ap zeros size) c.requires
