use Rattle.std.proofs.Common.{ℕ, List, ap, ◌∙◌, subst}
use Rattle.byteorder.specs.Endian.{IsRead, little_number}
use Rattle.record_model.specs.Attributes.{units_at}
use Rattle.index_change.proofs.KeyUnits.{read_units}
use Rattle.index_change.proofs.naming.read_units.Goals as goal

pub returns : goal.returns
returns c =
    let read = subst (λ (s : List ℕ). IsRead little_number 2 s c.read_u16_into.new.dst) c.split_at.ensures.back c.read_u16_into.ensures in
    read_units c.args.key.now c.read_u16_into.new.dst read ∙ ap (λ (n : ℕ). units_at 0x42 n c.args.key.now) c.read_u16_into.auto.dst
