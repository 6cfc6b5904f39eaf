use Rattle.std.proofs.Common.{◌*◌, ℕ, List, length, ap, arith}
use Rattle.std.proofs.lemmas.Result.{on_ok_weaker}
use Rattle.std.proofs.lemmas.Result.{on_err_weaker}
use Rattle.std.proofs.Common.{[], ◌∷◌}
use Rattle.volume_format.specs.Layouts.{table_first, mirror_first, record_bits_first, upper_case_first}
use Rattle.volume_format.specs.Images.{Region}
use Rattle.volume_format.proofs.Stopping.{any_err, torn_as, put_as, stops_in, stops_next}
use Rattle.volume_format.proofs.Calls.{began_more}
use Rattle.std.proofs.Common.{refl}
use Rattle.volume_format.proofs.Crashing.{stays_above, stays_then}
use Rattle.volume_format.proofs.writing.put_records.Goals as goal

pub returns-clause-moment : goal.returns-clause-moment
returns-clause-moment g c = on_ok_weaker c.put-3.result (λ e. omega (arith, e, c.in_ok-put.ensures.moment, c.in_ok-put-2.ensures.moment)) c.put-3.ensures.moment

pub returns-in_err-put-clause-stopped : goal.returns-in_err-put-clause-stopped
returns-in_err-put-clause-stopped g c =
    let p = c.args.parts.now in
    let a : Region = record { cluster = table_first; bytes = p.table.items } in
    let b : Region = record { cluster = mirror_first; bytes = p.mirror.items } in
    let d : Region = record { cluster = record_bits_first; bytes = p.record_bits.items } in
    any_err c.from_residual.result (stops_in a (b ∷ d ∷ []) _ _ (torn_as table_first _ p.table.items _ _ c.deref.ensures.value c.in_err-put.ensures.torn))

pub returns-in_err-put-2-clause-stopped : goal.returns-in_err-put-2-clause-stopped
returns-in_err-put-2-clause-stopped g c =
    let p = c.args.parts.now in
    let a : Region = record { cluster = table_first; bytes = p.table.items } in
    let b : Region = record { cluster = mirror_first; bytes = p.mirror.items } in
    let d : Region = record { cluster = record_bits_first; bytes = p.record_bits.items } in
    any_err c.from_residual-in_err-put-2.result (stops_next a (b ∷ d ∷ []) _ _ _ (put_as table_first _ p.table.items _ _ c.deref.ensures.value c.in_ok-put.ensures.image) (stops_in b (d ∷ []) _ _ (torn_as mirror_first _ p.mirror.items _ _ c.deref-2.ensures.value c.in_err-put-2.ensures.torn)))

pub returns-clause-stopped : goal.returns-clause-stopped
returns-clause-stopped g c =
    let p = c.args.parts.now in
    let a : Region = record { cluster = table_first; bytes = p.table.items } in
    let b : Region = record { cluster = mirror_first; bytes = p.mirror.items } in
    let d : Region = record { cluster = record_bits_first; bytes = p.record_bits.items } in
    on_err_weaker c.put-3.result
    (λ torn. stops_next a (b ∷ d ∷ []) _ _ _ (put_as table_first _ p.table.items _ _ c.deref.ensures.value c.in_ok-put.ensures.image) (stops_next b (d ∷ []) _ _ _ (put_as mirror_first _ p.mirror.items _ _ c.deref-2.ensures.value c.in_ok-put-2.ensures.image) (stops_in d [] _ _ (torn_as record_bits_first _ p.record_bits.items _ _ c.deref-3.ensures.value torn))))
    c.put-3.ensures.torn

pub returns-clause-changes : goal.returns-clause-changes
returns-clause-changes g c =
    on_ok_weaker c.put-3.result (λ e. began_more 2 0 1 0 3 0 _ _ _ refl refl (began_more 1 0 1 0 2 0 _ _ _ refl refl c.in_ok-put.ensures.changes c.in_ok-put-2.ensures.changes) e) c.put-3.ensures.changes

pub returns-in_err-put-clause-above : goal.returns-in_err-put-clause-above
returns-in_err-put-clause-above g c = stays_above _ _ _ _ _ (omega (arith, c.requires.sizes.table, ap (λ (l : List ℕ). length l) c.deref.ensures.value)) c.in_err-put.ensures.above

pub returns-in_err-put-2-clause-above : goal.returns-in_err-put-2-clause-above
returns-in_err-put-2-clause-above g c =
    stays_then _ _ _ _ _ _ _ _ (omega (arith, c.requires.sizes.table, ap (λ (l : List ℕ). length l) c.deref.ensures.value)) (omega (arith, c.requires.sizes.mirror, ap (λ (l : List ℕ). length l) c.deref-2.ensures.value)) (omega (arith, c.in_ok-put.ensures.moment)) c.in_ok-put.ensures.above c.in_err-put-2.ensures.above

pub returns-clause-above : goal.returns-clause-above
returns-clause-above g c =
    stays_then (8 * upper_case_first) _ _ _ _ _ _ _ (omega arith) (omega (arith, c.requires.sizes.record_bits, ap (λ (l : List ℕ). length l) c.deref-3.ensures.value)) (omega (arith, c.in_ok-put.ensures.moment, c.in_ok-put-2.ensures.moment))
    (stays_then _ _ _ _ _ _ _ _ (omega (arith, c.requires.sizes.table, ap (λ (l : List ℕ). length l) c.deref.ensures.value)) (omega (arith, c.requires.sizes.mirror, ap (λ (l : List ℕ). length l) c.deref-2.ensures.value)) (omega (arith, c.in_ok-put.ensures.moment)) c.in_ok-put.ensures.above c.in_ok-put-2.ensures.above)
    c.put-3.ensures.above
