use Rattle.std.proofs.Common.{List, length, ap, arith}
use Rattle.record_model.specs.declared.attribute.Attr.{Attr}
use Rattle.volume_format.proofs.FittingRecords.{attrs_few}
use Rattle.volume_format.proofs.records.system_record.Goals as goal

pub overflow_cast-next_id : goal.overflow_cast-next_id
overflow_cast-next_id c = omega (arith, attrs_few c.args.v c.args.time c.args.number c.requires.system, c.len-next_id.ensures, ap (λ (l : List Attr). length l) c.attrs.ensures.value, ap (λ (l : List Attr). length l) c.in_ok-file.ensures)
