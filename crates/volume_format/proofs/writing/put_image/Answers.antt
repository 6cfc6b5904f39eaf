use Rattle.std.proofs.Common.{ℕ, ◌*◌, List, length, ap, arith}
use Rattle.std.proofs.lemmas.Result.{on_ok_weaker}
use Rattle.volume_format.specs.Layouts.{used_clusters}
use Rattle.volume_format.proofs.Stopping.{any_err, torn_as, put_as, in_records, in_long, in_block, in_boot, in_sync, stopped_keeps}
use Rattle.volume_format.proofs.Calls.{began_more}
use Rattle.std.proofs.Common.{refl}
use Rattle.volume_format.proofs.Crashing.{stays_above, stays_then}
use Rattle.volume_format.proofs.writing.put_image.Goals as goal

pub returns-clause-moment : goal.returns-clause-moment
returns-clause-moment g c =
    on_ok_weaker c.finish.result (λ e. omega (arith, e, c.in_ok-put_records.ensures.moment, c.in_ok-put_long.ensures.moment, c.in_ok-put.ensures.moment, c.in_ok-put-2.ensures.moment)) c.finish.ensures.moment

pub returns-in_err-put_records-clause-stopped : goal.returns-in_err-put_records-clause-stopped
returns-in_err-put_records-clause-stopped g c = any_err c.from_residual.result (in_records c.args.v c.args.parts.now _ _ c.in_err-put_records.ensures.stopped)

pub returns-in_err-put_records-clause-others : goal.returns-in_err-put_records-clause-others
returns-in_err-put_records-clause-others g c = stopped_keeps c.args.v c.args.parts.now _ _ c.requires.sizes (in_records c.args.v c.args.parts.now _ _ c.in_err-put_records.ensures.stopped)

pub returns-in_err-put_long-clause-stopped : goal.returns-in_err-put_long-clause-stopped
returns-in_err-put_long-clause-stopped g c = any_err c.from_residual-in_err-put_long.result (in_long c.args.v c.args.parts.now _ _ _ c.in_ok-put_records.ensures.image c.in_err-put_long.ensures.stopped)

pub returns-in_err-put_long-clause-others : goal.returns-in_err-put_long-clause-others
returns-in_err-put_long-clause-others g c = stopped_keeps c.args.v c.args.parts.now _ _ c.requires.sizes (in_long c.args.v c.args.parts.now _ _ _ c.in_ok-put_records.ensures.image c.in_err-put_long.ensures.stopped)

pub returns-in_err-put-clause-stopped : goal.returns-in_err-put-clause-stopped
returns-in_err-put-clause-stopped g c = any_err c.from_residual-in_err-put.result (in_block c.args.v c.args.parts.now _ _ _ _ _ c.block_first.ensures c.in_ok-put_records.ensures.image c.in_ok-put_long.ensures.image (torn_as c.block_first.result _ c.args.parts.now.block.items _ _ c.deref.ensures.value c.in_err-put.ensures.torn))

pub returns-in_err-put-clause-others : goal.returns-in_err-put-clause-others
returns-in_err-put-clause-others g c = stopped_keeps c.args.v c.args.parts.now _ _ c.requires.sizes (in_block c.args.v c.args.parts.now _ _ _ _ _ c.block_first.ensures c.in_ok-put_records.ensures.image c.in_ok-put_long.ensures.image (torn_as c.block_first.result _ c.args.parts.now.block.items _ _ c.deref.ensures.value c.in_err-put.ensures.torn))

pub returns-in_err-put-2-clause-stopped : goal.returns-in_err-put-2-clause-stopped
returns-in_err-put-2-clause-stopped g c = any_err c.from_residual-in_err-put-2.result (in_boot c.args.v c.args.parts.now _ _ _ _ _ _ c.block_first.ensures c.in_ok-put_records.ensures.image c.in_ok-put_long.ensures.image (put_as c.block_first.result _ c.args.parts.now.block.items _ _ c.deref.ensures.value c.in_ok-put.ensures.image) (torn_as 0 _ c.args.parts.now.boot.items _ _ c.deref-2.ensures.value c.in_err-put-2.ensures.torn))

pub returns-in_err-put-2-clause-others : goal.returns-in_err-put-2-clause-others
returns-in_err-put-2-clause-others g c = stopped_keeps c.args.v c.args.parts.now _ _ c.requires.sizes (in_boot c.args.v c.args.parts.now _ _ _ _ _ _ c.block_first.ensures c.in_ok-put_records.ensures.image c.in_ok-put_long.ensures.image (put_as c.block_first.result _ c.args.parts.now.block.items _ _ c.deref.ensures.value c.in_ok-put.ensures.image) (torn_as 0 _ c.args.parts.now.boot.items _ _ c.deref-2.ensures.value c.in_err-put-2.ensures.torn))

pub returns-clause-stopped : goal.returns-clause-stopped
returns-clause-stopped g c = any_err c.finish.result (in_sync c.args.v c.args.parts.now _ _ _ _ _ _ _ c.block_first.ensures c.in_ok-put_records.ensures.image c.in_ok-put_long.ensures.image (put_as c.block_first.result _ c.args.parts.now.block.items _ _ c.deref.ensures.value c.in_ok-put.ensures.image) (put_as 0 _ c.args.parts.now.boot.items _ _ c.deref-2.ensures.value c.in_ok-put-2.ensures.image) c.finish.ensures.gives)

pub returns-clause-others : goal.returns-clause-others
returns-clause-others g c = stopped_keeps c.args.v c.args.parts.now _ _ c.requires.sizes (in_sync c.args.v c.args.parts.now _ _ _ _ _ _ _ c.block_first.ensures c.in_ok-put_records.ensures.image c.in_ok-put_long.ensures.image (put_as c.block_first.result _ c.args.parts.now.block.items _ _ c.deref.ensures.value c.in_ok-put.ensures.image) (put_as 0 _ c.args.parts.now.boot.items _ _ c.deref-2.ensures.value c.in_ok-put-2.ensures.image) c.finish.ensures.gives)

pub returns-clause-changes : goal.returns-clause-changes
returns-clause-changes g c =
    let begun = began_more _ 0 _ 0 _ 0 _ _ _ refl refl (began_more _ 0 _ 0 _ 0 _ _ _ refl refl (began_more _ 0 _ 0 _ 0 _ _ _ refl refl c.in_ok-put_records.ensures.changes c.in_ok-put_long.ensures.changes) c.in_ok-put.ensures.changes) c.in_ok-put-2.ensures.changes in
    on_ok_weaker c.finish.result (λ e. began_more _ 0 0 1 _ 1 _ _ _ (omega arith) refl begun e) c.finish.ensures.changes

pub returns-in_err-put_records-clause-above : goal.returns-in_err-put_records-clause-above
returns-in_err-put_records-clause-above g c = stays_above _ _ _ _ _ (omega arith) c.in_err-put_records.ensures.above

pub returns-in_err-put_long-clause-above : goal.returns-in_err-put_long-clause-above
returns-in_err-put_long-clause-above g c = stays_then _ _ (8 * used_clusters c.args.v) _ _ _ _ _ (omega arith) (omega arith) (omega (arith, c.in_ok-put_records.ensures.moment)) c.in_ok-put_records.ensures.above c.in_err-put_long.ensures.above

pub returns-in_err-put-clause-above : goal.returns-in_err-put-clause-above
returns-in_err-put-clause-above g c =
    stays_then _ _ (8 * used_clusters c.args.v) _ _ _ _ _ (omega arith) (omega (arith, c.block_first.ensures, c.requires.sizes.block, ap (λ (l : List ℕ). length l) c.deref.ensures.value)) (omega (arith, c.in_ok-put_records.ensures.moment, c.in_ok-put_long.ensures.moment))
    (stays_then _ _ (8 * used_clusters c.args.v) _ _ _ _ _ (omega arith) (omega arith) (omega (arith, c.in_ok-put_records.ensures.moment)) c.in_ok-put_records.ensures.above c.in_ok-put_long.ensures.above)
    c.in_err-put.ensures.above

pub returns-in_err-put-2-clause-above : goal.returns-in_err-put-2-clause-above
returns-in_err-put-2-clause-above g c =
    stays_then _ _ (8 * used_clusters c.args.v) _ _ _ _ _ (omega arith) (omega (arith, c.requires.layout.log_some, c.requires.sizes.boot, ap (λ (l : List ℕ). length l) c.deref-2.ensures.value)) (omega (arith, c.in_ok-put_records.ensures.moment, c.in_ok-put_long.ensures.moment, c.in_ok-put.ensures.moment))
    (stays_then _ _ (8 * used_clusters c.args.v) _ _ _ _ _ (omega arith) (omega (arith, c.block_first.ensures, c.requires.sizes.block, ap (λ (l : List ℕ). length l) c.deref.ensures.value)) (omega (arith, c.in_ok-put_records.ensures.moment, c.in_ok-put_long.ensures.moment))
    (stays_then _ _ (8 * used_clusters c.args.v) _ _ _ _ _ (omega arith) (omega arith) (omega (arith, c.in_ok-put_records.ensures.moment)) c.in_ok-put_records.ensures.above c.in_ok-put_long.ensures.above)
    c.in_ok-put.ensures.above)
    c.in_err-put-2.ensures.above

pub returns-clause-above : goal.returns-clause-above
returns-clause-above g c =
    stays_then _ (8 * used_clusters c.args.v) (8 * used_clusters c.args.v) _ _ _ _ _ (omega arith) (omega arith) (omega (arith, c.in_ok-put_records.ensures.moment, c.in_ok-put_long.ensures.moment, c.in_ok-put.ensures.moment, c.in_ok-put-2.ensures.moment))
    (stays_then _ _ (8 * used_clusters c.args.v) _ _ _ _ _ (omega arith) (omega (arith, c.requires.layout.log_some, c.requires.sizes.boot, ap (λ (l : List ℕ). length l) c.deref-2.ensures.value)) (omega (arith, c.in_ok-put_records.ensures.moment, c.in_ok-put_long.ensures.moment, c.in_ok-put.ensures.moment))
    (stays_then _ _ (8 * used_clusters c.args.v) _ _ _ _ _ (omega arith) (omega (arith, c.block_first.ensures, c.requires.sizes.block, ap (λ (l : List ℕ). length l) c.deref.ensures.value)) (omega (arith, c.in_ok-put_records.ensures.moment, c.in_ok-put_long.ensures.moment))
    (stays_then _ _ (8 * used_clusters c.args.v) _ _ _ _ _ (omega arith) (omega arith) (omega (arith, c.in_ok-put_records.ensures.moment)) c.in_ok-put_records.ensures.above c.in_ok-put_long.ensures.above)
    c.in_ok-put.ensures.above)
    c.in_ok-put-2.ensures.above)
    (c.finish.ensures.above (8 * used_clusters c.args.v))
