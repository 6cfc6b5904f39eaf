use Rattle.std.proofs.Common.{◌≡◌, length, ◌∙◌}
use Rattle.std.proofs.lemmas.List.{take_at}
use Rattle.upcase_order.proofs.Units.{read_units}
use Rattle.upcase_order.proofs.upcase.values_of.Goals as goal

pub returns : goal.returns
returns c =
    let size : length c.read_u16_into.new.dst ≡ c.in_ok-values.values.len = c.read_u16_into.auto.dst ∙ c.deref_mut.ensures.len in
    let count : length c.read_u16_into.new.dst ≡ c.args.count = size ∙ c.in_ok-values.ensures.len in
    take_at _ _ _ size ∙ read_units c.args.count c.args.bytes.now c.read_u16_into.new.dst count c.read_u16_into.ensures
