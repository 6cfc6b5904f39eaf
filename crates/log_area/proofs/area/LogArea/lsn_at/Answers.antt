use Rattle.std.proofs.Common.{ap, subst, arith}
use Rattle.log_area.specs.Areas.{LogAreaOf, IsLogArea}
use Rattle.log_area.proofs.Numbering.{lap_sum, lsn_is}
use Rattle.log_area.proofs.area.LogArea.lsn_at.Goals as goal

pub overflow_add-lap : goal.overflow_add-lap
overflow_add-lap c =
    let v = c.self.view_is in
    let few = lap_sum c.args.self.now c.args.number c.self.inside.lap c.size.result (subst IsLogArea v c.self.invariant.0) c.requires.near (ap (λ (a : LogAreaOf). a.lap) v) c.size.ensures.value in
    omega arith

pub returns : goal.returns
returns c =
    let v = c.self.view_is in
    record {
      value = lsn_is c.args.self.now c.args.number c.args.at c.self.inside.pages c.self.inside.lap c.size.result c.size-2.result c.saturating_sub-bits.result
          (ap (λ (a : LogAreaOf). a.pages) v) (ap (λ (a : LogAreaOf). a.lap) v) c.size.ensures.value c.size-2.ensures.value (omega (arith, c.saturating_sub-bits.ensures, c.digits.ensures.value));
    }
