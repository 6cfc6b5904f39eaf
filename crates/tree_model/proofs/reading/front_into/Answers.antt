use Rattle.std.proofs.Common.{length, rules}
use Rattle.tree_model.proofs.Fronting.{in_two_parts}
use Rattle.tree_model.proofs.reading.front_into.Goals as goal

pub returns : goal.returns
returns c =
    in_two_parts c.args.bytes.now c.rest-rest.result.now c.copy_from_slice.new.self c.fill.new.self c.args.offset (length c.args.out.now) c.min-count.result
    (search rules) (search rules) (search rules) (search rules)
