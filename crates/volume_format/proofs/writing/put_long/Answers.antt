use Rattle.std.proofs.Common.{◌*◌, arith}
use Rattle.std.proofs.lemmas.Result.{on_ok_weaker}
use Rattle.std.proofs.lemmas.Result.{on_err_weaker}
use Rattle.std.proofs.Common.{[], ◌∷◌}
use Rattle.volume_format.specs.Layouts.{upper_case_first, log_first, cluster_bits_first}
use Rattle.volume_format.specs.Images.{Region, upper_case_bytes, log_bytes, cluster_bits}
use Rattle.volume_format.proofs.Stopping.{any_err, stops_in, stops_next}
use Rattle.volume_format.proofs.Calls.{began_more}
use Rattle.std.proofs.Common.{refl}
use Rattle.volume_format.proofs.Crashing.{stays_above, stays_then}
use Rattle.volume_format.proofs.writing.put_long.Goals as goal

pub returns-clause-moment : goal.returns-clause-moment
returns-clause-moment g c = on_ok_weaker c.put_cluster_bits.result (λ e. omega (arith, e, c.in_ok-put_upper_case.ensures.moment, c.in_ok-put_log.ensures.moment)) c.put_cluster_bits.ensures.moment

pub returns-in_err-put_upper_case-clause-stopped : goal.returns-in_err-put_upper_case-clause-stopped
returns-in_err-put_upper_case-clause-stopped g c =
    let v = c.args.v in
    let a : Region = record { cluster = upper_case_first; bytes = upper_case_bytes } in
    let b : Region = record { cluster = log_first; bytes = log_bytes v } in
    let d : Region = record { cluster = cluster_bits_first v; bytes = cluster_bits v } in
    any_err c.from_residual.result (stops_in a (b ∷ d ∷ []) _ _ c.in_err-put_upper_case.ensures.torn)

pub returns-in_err-put_log-clause-stopped : goal.returns-in_err-put_log-clause-stopped
returns-in_err-put_log-clause-stopped g c =
    let v = c.args.v in
    let a : Region = record { cluster = upper_case_first; bytes = upper_case_bytes } in
    let b : Region = record { cluster = log_first; bytes = log_bytes v } in
    let d : Region = record { cluster = cluster_bits_first v; bytes = cluster_bits v } in
    any_err c.from_residual-in_err-put_log.result (stops_next a (b ∷ d ∷ []) _ _ _ c.in_ok-put_upper_case.ensures.image (stops_in b (d ∷ []) _ _ c.in_err-put_log.ensures.torn))

pub returns-clause-stopped : goal.returns-clause-stopped
returns-clause-stopped g c =
    let v = c.args.v in
    let a : Region = record { cluster = upper_case_first; bytes = upper_case_bytes } in
    let b : Region = record { cluster = log_first; bytes = log_bytes v } in
    let d : Region = record { cluster = cluster_bits_first v; bytes = cluster_bits v } in
    on_err_weaker c.put_cluster_bits.result
    (λ torn. stops_next a (b ∷ d ∷ []) _ _ _ c.in_ok-put_upper_case.ensures.image (stops_next b (d ∷ []) _ _ _ c.in_ok-put_log.ensures.image (stops_in d [] _ _ torn)))
    c.put_cluster_bits.ensures.torn

pub returns-clause-changes : goal.returns-clause-changes
returns-clause-changes g c =
    on_ok_weaker c.put_cluster_bits.result (λ e. began_more _ 0 _ 0 _ 0 _ _ _ refl refl (began_more _ 0 _ 0 _ 0 _ _ _ refl refl c.in_ok-put_upper_case.ensures.changes c.in_ok-put_log.ensures.changes) e) c.put_cluster_bits.ensures.changes

pub returns-in_err-put_upper_case-clause-above : goal.returns-in_err-put_upper_case-clause-above
returns-in_err-put_upper_case-clause-above g c = stays_above _ _ _ _ _ (omega arith) c.in_err-put_upper_case.ensures.above

pub returns-in_err-put_log-clause-above : goal.returns-in_err-put_log-clause-above
returns-in_err-put_log-clause-above g c = stays_then _ _ _ _ _ _ _ _ (omega arith) (omega arith) (omega (arith, c.in_ok-put_upper_case.ensures.moment)) c.in_ok-put_upper_case.ensures.above c.in_err-put_log.ensures.above

pub returns-clause-above : goal.returns-clause-above
returns-clause-above g c =
    stays_then (8 * cluster_bits_first c.args.v) _ _ _ _ _ _ _ (omega arith) (omega arith) (omega (arith, c.in_ok-put_upper_case.ensures.moment, c.in_ok-put_log.ensures.moment))
    (stays_then _ _ _ _ _ _ _ _ (omega arith) (omega arith) (omega (arith, c.in_ok-put_upper_case.ensures.moment)) c.in_ok-put_upper_case.ensures.above c.in_ok-put_log.ensures.above)
    c.put_cluster_bits.ensures.above
