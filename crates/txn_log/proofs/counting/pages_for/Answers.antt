use Rattle.std.proofs.Common.{ℕ, List, length, refl, ap, ◌∙◌, arith}
use Rattle.std.specs.Prelude.{◌==◌}
use Rattle.store_pools.specs.Pools.{marks_of}
use Rattle.txn_log.specs.Counts.{pages_of, sizes_of, capped}
use Rattle.txn_log.proofs.Told.{change_counted, change_passed, commit_counted, not_none}
use Rattle.txn_log.proofs.counting.pages_for.Goals as goal
use Rattle.txn_log.proofs.counting.pages_for.Goals.{then-not-is_empty+in_ok-tell_change, else-not-is_empty}

pub loop-change-preserved : goal.loop-change-preserved
loop-change-preserved c =
    elim c.if-not-is_empty.branch [
      | then-not-is_empty+in_ok-tell_change w ↦ record {
        below = rw w.filled-is w.put_change-filled.ensures.below;
        counted = rw (w.filled-is, w.told-is)
            (change_counted c.args.changes.now c.loop-change.change-index c.change-item.result c.loop-change.told w.tell_change.new.told c.args.marks.now c.loop-change.filled.pages c.loop-change.filled.free w.put_change-filled.result.pages
            w.put_change-filled.result.free w.is_imaged-imaged.result _ c.requires.grid (omega arith) c.change-item.is (not_none c.change-item.result.new w.if-not-is_empty.ensures.1) w.is_imaged-imaged.ensures w.in_ok-tell_change.ensures w.put_change-filled.ensures.counted c.loop-change.invariant.counted);
      }
      | else-not-is_empty w ↦ record {
        below = rw w.filled-is c.loop-change.invariant.below;
        counted = rw (w.filled-is, w.told-is)
            (change_passed c.args.changes.now c.loop-change.change-index c.change-item.result c.loop-change.told c.args.marks.now c.loop-change.filled.pages c.loop-change.filled.free _ (omega arith) c.change-item.is (ap (λ (xs : List ℕ). length xs == 0) (w.if-not-is_empty.ensures.0 refl)) c.loop-change.invariant.counted);
      }
    ]

pub returns : goal.returns
returns c =
    commit_counted c.args.changes.now c.loop-change.change-index c.loop-change.told c.args.marks.now c.loop-change.filled.pages c.loop-change.filled.free c.free_at.result c.put.result.pages (λ b. (marks_of c.args.marks.now b).imaged) (omega arith)
    c.put.ensures.pages c.loop-change.invariant.counted
    ∙ ap (λ (free : ℕ). capped (pages_of free (sizes_of (λ b. (marks_of c.args.marks.now b).imaged) c.args.changes.now))) c.free_at.ensures.value
