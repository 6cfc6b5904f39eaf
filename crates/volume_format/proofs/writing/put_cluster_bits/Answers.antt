use Rattle.std.proofs.Common.{arith, ℕ, subst, [], ◌∷◌}
use Rattle.std.proofs.lemmas.Result.{on_ok_weaker}
use Rattle.volume_format.specs.Images.{Puts, cluster_bits}
use Rattle.volume_format.specs.Fillings.{filling_byte, filling_bytes}
use Rattle.std.proofs.lemmas.Result.{on_err_weaker}
use Rattle.volume_format.specs.Stopping.{PutsTorn}
use Rattle.volume_format.proofs.Calls.{began_as}
use Rattle.volume_format.proofs.Crashing.{stays_above}
use Rattle.volume_format.proofs.writing.put_cluster_bits.Goals as goal

pub returns-clause-image : goal.returns-clause-image
unfolding cluster_bits filling_bytes filling_byte
returns-clause-image g c =
    on_ok_weaker c.put_filled.result
    (λ put. subst (λ (k : ℕ). Puts (record { cluster = k; bytes = cluster_bits c.args.v } ∷ []) (g.D.Device.gives c.args.device.now) (g.D.Device.gives c.put_filled.new.device)) c.cluster_bits_first.ensures put)
    c.put_filled.ensures.image

pub returns-clause-moment : goal.returns-clause-moment
returns-clause-moment g c = on_ok_weaker c.put_filled.result (λ e. omega (arith, e)) c.put_filled.ensures.moment

pub returns-clause-torn : goal.returns-clause-torn
unfolding cluster_bits filling_bytes filling_byte
returns-clause-torn g c =
    on_err_weaker c.put_filled.result
    (λ torn. subst (λ (k : ℕ). PutsTorn (record { cluster = k; bytes = cluster_bits c.args.v }) (g.D.Device.gives c.args.device.now) (g.D.Device.gives c.put_filled.new.device)) c.cluster_bits_first.ensures torn)
    c.put_filled.ensures.torn

pub returns-clause-changes : goal.returns-clause-changes
returns-clause-changes g c = on_ok_weaker c.put_filled.result (λ e. began_as _ _ _ _ (omega arith) e) c.put_filled.ensures.changes

pub returns-clause-above : goal.returns-clause-above
returns-clause-above g c = stays_above _ _ _ _ _ (omega (arith, c.cluster_bits_first.ensures)) c.put_filled.ensures.above
