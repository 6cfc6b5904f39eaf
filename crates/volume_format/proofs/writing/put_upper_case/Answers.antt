use Rattle.std.proofs.Common.{ℕ, List, sym, subst, [], ◌∷◌, arith}
use Rattle.std.proofs.lemmas.Result.{on_ok_weaker}
use Rattle.upcase_order.specs.Tables.{standard_table}
use Rattle.volume_format.specs.Layouts.{upper_case_first}
use Rattle.volume_format.specs.Images.{Puts, upper_case_bytes}
use Rattle.volume_format.proofs.Pieces.{upper_filled}
use Rattle.std.proofs.lemmas.Result.{on_err_weaker}
use Rattle.volume_format.specs.Stopping.{PutsTorn}
use Rattle.volume_format.proofs.Calls.{began_as}
use Rattle.volume_format.proofs.Crashing.{stays_above}
use Rattle.volume_format.proofs.writing.put_upper_case.Goals as goal

pub returns-clause-image : goal.returns-clause-image
unfolding upper_case_bytes standard_table
returns-clause-image g c =
    on_ok_weaker c.put_filled.result
    (λ put. subst (λ (bytes : List ℕ). Puts (record { cluster = upper_case_first; bytes = bytes } ∷ []) (g.D.Device.gives c.args.device.now) (g.D.Device.gives c.put_filled.new.device)) (sym (upper_filled 65536 131072 (omega arith) (omega arith))) put)
    c.put_filled.ensures.image

pub returns-clause-moment : goal.returns-clause-moment
returns-clause-moment g c = on_ok_weaker c.put_filled.result (λ e. omega (arith, e)) c.put_filled.ensures.moment

pub returns-clause-torn : goal.returns-clause-torn
unfolding upper_case_bytes standard_table
returns-clause-torn g c =
    on_err_weaker c.put_filled.result
    (λ torn. subst (λ (bytes : List ℕ). PutsTorn (record { cluster = upper_case_first; bytes = bytes }) (g.D.Device.gives c.args.device.now) (g.D.Device.gives c.put_filled.new.device)) (sym (upper_filled 65536 131072 (omega arith) (omega arith))) torn)
    c.put_filled.ensures.torn

pub returns-clause-changes : goal.returns-clause-changes
returns-clause-changes g c = on_ok_weaker c.put_filled.result (λ e. began_as _ _ _ _ (omega arith) e) c.put_filled.ensures.changes

pub returns-clause-above : goal.returns-clause-above
returns-clause-above g c = stays_above _ _ _ _ _ (omega arith) c.put_filled.ensures.above
