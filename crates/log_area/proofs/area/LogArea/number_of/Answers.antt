use Rattle.std.proofs.Common.{ℕ, ◌∙◌, ◌-◌, ◌/◌, ap, ap₂, subst, refl, arith}
use Rattle.log_reading.specs.log_page.Places.{lap_of, offset_of}
use Rattle.log_area.specs.Areas.{LogAreaOf, IsLogArea}
use Rattle.log_area.proofs.Numbering.{number_fits}
use Rattle.log_area.proofs.area.LogArea.number_of.Goals as goal

pub overflow_mul-result : goal.overflow_mul-result
overflow_mul-result c =
    let v = c.self.view_is in
    let few = number_fits c.args.self.now c.args.lsn (c.lap_of.result - c.self.inside.lap) _ c.size.result (subst IsLogArea v c.self.invariant.0) (omega (arith, c.ranges.lsn.fits))
    (ap₂ (λ (x : ℕ) (y : ℕ). x - y) (c.lap_of.ensures.value ∙ ap (λ (a : LogAreaOf). lap_of a.pages c.args.lsn) v) (ap (λ (a : LogAreaOf). a.lap) v)) refl c.size.ensures.value in
    omega arith

pub overflow_add-result : goal.overflow_add-result
overflow_add-result c =
    let v = c.self.view_is in
    let few = number_fits c.args.self.now c.args.lsn (c.lap_of.result - c.self.inside.lap) (c.offset_of.result / 4096 - 4) c.size.result (subst IsLogArea v c.self.invariant.0) (omega (arith, c.ranges.lsn.fits))
    (ap₂ (λ (x : ℕ) (y : ℕ). x - y) (c.lap_of.ensures.value ∙ ap (λ (a : LogAreaOf). lap_of a.pages c.args.lsn) v) (ap (λ (a : LogAreaOf). a.lap) v))
    (ap (λ (x : ℕ). x / 4096 - 4) (c.offset_of.ensures.value ∙ ap (λ (a : LogAreaOf). offset_of a.pages c.args.lsn) v)) c.size.ensures.value in
    omega arith
