use Rattle.std.proofs.Common.{ℕ, List, subst}
use Rattle.image_read.specs.log_page.declared.places.Extent.{Extent}
use Rattle.volume_mount.specs.Fronts.{LieInFront}
use Rattle.volume_mount.proofs.Fronting.{front_is}
use Rattle.volume_mount.proofs.pages.front_sectors.Goals as goal

pub returns : goal.returns
returns c =
    let place = c.args.place.now in let count = c.lying_in_front.result in
    front_is place count
    (subst (λ (all : ℕ). LieInFront place.device all place.runs count) c.div_ceil-begun.ensures
    (subst (λ (runs : List Extent). LieInFront place.device c.div_ceil-begun.result runs count) c.as_slice.ensures c.lying_in_front.ensures))
