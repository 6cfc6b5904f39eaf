use Rattle.std.proofs.Common.{arith, ◌*◌, ℕ, List, sym, subst, [], ◌∷◌}
use Rattle.std.proofs.lemmas.Result.{on_ok_weaker}
use Rattle.volume_format.specs.Layouts.{log_first}
use Rattle.volume_format.specs.Images.{Puts, log_bytes}
use Rattle.volume_format.proofs.Pieces.{log_filled}
use Rattle.std.proofs.lemmas.Result.{on_err_weaker}
use Rattle.volume_format.specs.Stopping.{PutsTorn}
use Rattle.volume_format.proofs.Calls.{began_as}
use Rattle.volume_format.proofs.Crashing.{stays_above}
use Rattle.volume_format.proofs.writing.put_log.Goals as goal

pub returns-clause-image : goal.returns-clause-image
unfolding log_bytes
returns-clause-image g c =
    on_ok_weaker c.put_filled.result
    (λ put. subst (λ (bytes : List ℕ). Puts (record { cluster = log_first; bytes = bytes } ∷ []) (g.D.Device.gives c.args.device.now) (g.D.Device.gives c.put_filled.new.device)) (sym (log_filled (4096 * c.args.v.log_pages))) put)
    c.put_filled.ensures.image

pub returns-clause-moment : goal.returns-clause-moment
returns-clause-moment g c = on_ok_weaker c.put_filled.result (λ e. omega (arith, e)) c.put_filled.ensures.moment

pub returns-clause-torn : goal.returns-clause-torn
unfolding log_bytes
returns-clause-torn g c =
    on_err_weaker c.put_filled.result
    (λ torn. subst (λ (bytes : List ℕ). PutsTorn (record { cluster = log_first; bytes = bytes }) (g.D.Device.gives c.args.device.now) (g.D.Device.gives c.put_filled.new.device)) (sym (log_filled (4096 * c.args.v.log_pages))) torn)
    c.put_filled.ensures.torn

pub returns-clause-changes : goal.returns-clause-changes
returns-clause-changes g c = on_ok_weaker c.put_filled.result (λ e. began_as _ _ _ _ (omega arith) e) c.put_filled.ensures.changes

pub returns-clause-above : goal.returns-clause-above
returns-clause-above g c = stays_above _ _ _ _ _ (omega arith) c.put_filled.ensures.above
