use Rattle.std.proofs.Common.{length, sym, ap, ◌∙◌, Ok}
use Rattle.index_model.proofs.record_model.Attributes.{length-units_at}
use Rattle.upcase_order.proofs.Units.{upcase-read, upcase-refused}
use Rattle.upcase_order.proofs.upcase.Upcase.read.Goals as goal

pub returns-then-bytes-ne-TABLE_BYTES : goal.returns-then-bytes-ne-TABLE_BYTES
returns-then-bytes-ne-TABLE_BYTES c = record { value = upcase-refused c.args.bytes.now c.if-bytes-ne-TABLE_BYTES.true }

pub invariant_of-result : goal.invariant_of-result
invariant_of-result c = ap length c.in_ok-values_of.ensures ∙ length-units_at 0 65536 c.args.bytes.now

pub returns : goal.returns
returns c = record { value = upcase-read c.args.bytes.now c.if-bytes-ne-TABLE_BYTES.false ∙ ap Ok (sym c.in_ok-values_of.ensures) }
