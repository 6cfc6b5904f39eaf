use Rattle.std.proofs.Common.{◌≡◌, true, List, ℕ, subst, sym}
use Rattle.disk_model.specs.Fixups.{is_in_shape}
use Rattle.log_reading.proofs.log_page.Spelled.{in_shape}
use Rattle.log_area.proofs.restarting.put_restart.Goals as goal

pub protect-requires-clause-shape : goal.protect-requires-clause-shape
protect-requires-clause-shape c = subst (λ (page : List ℕ). is_in_shape page ≡ true) (sym c.write.ensures.spelled) (in_shape c.args.page.now)
