use Rattle.std.proofs.Common.{ℕ, ◌^◌, ◌<◌, ap, sym, subst, ◌∙◌}
use Rattle.log_page.specs.declared.places.LogPlace.{LogPlace}
use Rattle.volume_core.proofs.Laps.{bits_of_laps, lap_tested}
use Rattle.volume_core.proofs.telling.has_lap_behind.Goals as goal

pub overflow_shl-result : goal.overflow_shl-result
overflow_shl-result c =
    let is = ap (λ (p : LogPlace). p.pages) (sym c.place.ensures) in
    (bits_of_laps c.place.result.now.pages c.sequence_bits.result (subst (λ (n : ℕ). 4 < n) is c.requires.ring.ring) (subst (λ (n : ℕ). n < 2 ^ 52) is c.requires.ring.small) c.sequence_bits.ensures.value).0

pub returns : goal.returns
returns c =
    let is = ap (λ (p : LogPlace). p.pages) (sym c.place.ensures) in
    lap_tested c.args.state.now.log c.log-log.result.now c.place.result.now.pages c.next.result c.lap_of.result c.sequence_bits.result c.log-log.ensures (sym is ∙ sym c.known.ensures.on_log.pages_are)
    (subst (λ (n : ℕ). 4 < n) is c.requires.ring.ring) (subst (λ (n : ℕ). n < 2 ^ 52) is c.requires.ring.small) (c.next.ensures.exact (c.has_lap.ensures.value.0 c.if-not-has_lap.false)) c.lap_of.ensures.value c.sequence_bits.ensures.value
