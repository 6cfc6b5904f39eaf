use Rattle.std.proofs.Common.{◌≡◌, ℕ, ◌*◌, min, Bool, true, List, sym, ap, ◌∙◌, subst, ◌↔◌}
use Rattle.log_page.specs.declared.places.Extent.{Extent}
use Rattle.log_reading.specs.Rings.{IsRingPlace}
use Rattle.log_reading.specs.Rows.{front_runs, are_whole, are_apart}
use Rattle.log_reading.proofs.RingPlaces.{not_whole, is_ring}
use Rattle.log_reading.proofs.ring.is_ring_place.Goals as goal

pub returns-then-not-are_whole : goal.returns-then-not-are_whole
returns-then-not-are_whole c =
    let place = c.args.place.now in
    let parts : c.deref.result.now ≡ front_runs place.runs (8 * place.pages) = c.deref.ensures.value ∙ c.in_ok-parts.ensures ∙ ap (λ (rs : List Extent). front_runs rs (8 * place.pages)) c.as_slice.ensures in
    not_whole place c.deref.result.now parts (ap (λ (n : ℕ). are_whole n (8 * place.pages) 0 c.deref.result.now) (sym c.sector_limit.ensures) ∙ sym c.are_whole.ensures ∙ c.if-not-are_whole.true)

pub returns : goal.returns
returns c =
    let place = c.args.place.now in
    let parts : c.in_ok-parts.parts.items ≡ front_runs place.runs (8 * place.pages) = c.in_ok-parts.ensures ∙ ap (λ (rs : List Extent). front_runs rs (8 * place.pages)) c.as_slice.ensures in
    let whole : are_whole (min place.device (8 * place.clusters)) (8 * place.pages) 0 c.in_ok-parts.parts.items ≡ true =
    ap (λ (rs : List Extent). are_whole (min place.device (8 * place.clusters)) (8 * place.pages) 0 rs) (sym c.deref.ensures.value)
    ∙ ap (λ (n : ℕ). are_whole n (8 * place.pages) 0 c.deref.result.now) (sym c.sector_limit.ensures)
    ∙ sym c.are_whole.ensures
    ∙ c.if-not-are_whole.false in
    let apart = sym (c.are_apart.ensures ∙ ap (are_apart 0 0) c.deref-2.ensures.value) in
    subst (λ (b : Bool). (b ≡ true) ↔ IsRingPlace place) apart
    (is_ring place c.in_ok-parts.parts.items c.sort_runs.new.runs.items parts (sym c.has_ring.ensures.value ∙ c.if-not-has_ring.false) whole c.sort_runs.ensures.same c.sort_runs.ensures.rising)
