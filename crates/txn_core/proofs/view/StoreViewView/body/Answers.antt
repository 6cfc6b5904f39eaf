use Rattle.std.proofs.Common.{arith}
use Rattle.device_blocks.proofs.device_view.Failing.{went_well, ended, failed}
use Rattle.txn_core.proofs.view.StoreViewView.body.Goals as goal

pub returns-in-Err-clause-cause : goal.returns-in-Err-clause-cause
returns-in-Err-clause-cause g c = failed {T = Unit {0}} _ _ _ _ c.in-Err.field-0 _ c.in-Err.ensures.later c.in-Err.ensures.cause

pub returns-then-moment-lt-LAST_MOMENT-clause-cause : goal.returns-then-moment-lt-LAST_MOMENT-clause-cause
returns-then-moment-lt-LAST_MOMENT-clause-cause g c = went_well _ _ _ _ _ c.in-Ok.ensures.cause.unfailed c.in-Ok.ensures.later (omega (arith, c.moment.ensures, c.if-moment-lt-LAST_MOMENT.true))

pub returns-else-moment-lt-LAST_MOMENT-clause-cause : goal.returns-else-moment-lt-LAST_MOMENT-clause-cause
returns-else-moment-lt-LAST_MOMENT-clause-cause g c = ended _ _ _ _ _ c.in-Ok.ensures.cause.later c.in-Ok.ensures.later (omega (arith, c.moment.ensures, c.if-moment-lt-LAST_MOMENT.false))
