use Rattle.std.proofs.Common.{ap, subst, arith}
use Rattle.log_area.specs.Areas.{LogAreaOf, IsLogArea}
use Rattle.log_reading.specs.log_page.Places.{sequence_bits}
use Rattle.std.proofs.Common.{◌∙◌}
use Rattle.log_area.proofs.Numbering.{next_sum, lap_limit, lap_tested}
use Rattle.log_area.proofs.area.LogArea.has_lap.Goals as goal

pub overflow_add-result : goal.overflow_add-result
overflow_add-result c =
    let v = c.self.view_is in
    let few = next_sum c.args.self.now c.args.bytes c.self.inside.lap c.next_number-number.result c.size.result (subst IsLogArea v c.self.invariant.0) (ap (λ (a : LogAreaOf). a.lap) v) c.next_number-number.ensures.value c.size.ensures.value in
    omega arith

pub overflow_shl-result : goal.overflow_shl-result
overflow_shl-result c =
    let v = c.self.view_is in
    (lap_limit c.args.self.now c.sequence_bits.result (subst IsLogArea v c.self.invariant.0) (c.sequence_bits.ensures.value ∙ ap (λ (a : LogAreaOf). sequence_bits a.pages) v)).0

pub returns : goal.returns
returns c =
    let v = c.self.view_is in
    record {
      value = lap_tested c.args.self.now c.args.bytes c.self.inside.lap c.next_number-number.result c.size.result c.sequence_bits.result (subst IsLogArea v c.self.invariant.0) (ap (λ (a : LogAreaOf). a.lap) v)
          c.next_number-number.ensures.value c.size.ensures.value (c.sequence_bits.ensures.value ∙ ap (λ (a : LogAreaOf). sequence_bits a.pages) v);
    }
