use Rattle.std.proofs.Common.{ap, subst}
use Rattle.log_area.specs.Areas.{LogAreaOf, IsLogArea}
use Rattle.log_area.proofs.Numbering.{fits_slot}
use Rattle.log_area.proofs.area.LogArea.slot.Goals as goal

pub returns-clause-inside : goal.returns-clause-inside
returns-clause-inside c =
    let v = c.self.view_is in
    fits_slot c.args.self.now c.args.number c.self.inside.pages (subst IsLogArea v c.self.invariant.0) (ap (λ (a : LogAreaOf). a.pages) v)
