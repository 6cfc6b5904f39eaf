use Rattle.std.proofs.Common.{◌≡◌, true, List, sym, ap, ◌∙◌}
use Rattle.std.specs.Prelude.{sum_by}
use Rattle.std.specs.List.{list_all}
use Rattle.log_page.specs.declared.places.Extent.{Extent}
use Rattle.volume_start.specs.Fitting.{is_low}
use Rattle.volume_start.proofs.fitting.fits_start.Goals as goal

pub returns : goal.returns
returns c =
    let runs = c.as_slice-runs.ensures in
    let low : list_all is_low c.args.place.now.runs ≡ true = ap (λ (xs : List Extent). list_all is_low xs) (sym runs) ∙ sym c.are_low.ensures ∙ c.if-not-are_low.false in
    let on = c.lies_on.ensures.0 c.if-not-lies_on.false in
    let ring = c.in_ok-is_ring_place.ensures.0 c.if-not-branch.false in (
      λ is. record { low = low; alone = ap (λ (xs : List Extent). sum_by (λ (e : Extent). e.sectors) xs) (sym runs) ∙ c.have_sectors.ensures.0 is; ring = ring; inside = on.0; whole = on.1 },
      λ fits. c.have_sectors.ensures.1 (ap (λ (xs : List Extent). sum_by (λ (e : Extent). e.sectors) xs) runs ∙ fits.alone),
    )
