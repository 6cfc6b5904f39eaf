use Rattle.std.proofs.Common.{◌∙◌, ap, arith}
use Rattle.std.specs.Prelude.{length}
use Rattle.log_reading.proofs.log_model.EntrySpelled.{length-zeros}
use Rattle.log_area.proofs.page.RingPage.new.Goals as goal

pub invariant_of-result : goal.invariant_of-result
invariant_of-result c = record { size = ap length c.in_ok-zeroed.ensures ∙ length-zeros 4096; small = omega arith }
