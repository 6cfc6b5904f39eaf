use Rattle.std.proofs.Common.{subst}
use Rattle.log_area.specs.Areas.{IsLogArea}
use Rattle.log_area.proofs.Numbering.{next_lsn_is, next_exact}
use Rattle.log_area.proofs.area.LogArea.next.Goals as goal

pub returns-clause-exact : goal.returns-clause-exact
returns-clause-exact c =
    next_exact c.args.self.now c.args.bytes c.lsn_at.result (subst IsLogArea c.self.view_is c.self.invariant.0) c.requires
    (next_lsn_is c.args.self.now c.args.bytes c.next_number.result c.next_at.result c.lsn_at.result c.next_number.ensures.value c.next_at.ensures.value c.lsn_at.ensures.value)
