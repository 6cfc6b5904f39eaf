use Rattle.std.proofs.Common.{BTreeSet, ℕ, ap, ◌∙◌, sym}
use Rattle.std.specs.Ordering.{nat_cmp}
use Rattle.std.specs.BTreeSet.{contains}
use Rattle.log_recovery.proofs.Walking.{ended_with, ended_without, after_put}
use Rattle.log_recovery.proofs.ended.ended_of.Goals as goal
use Rattle.log_recovery.proofs.ended.ended_of.Goals.{then-is_commit+in_ok-insert, else-is_commit}

pub loop-entry-preserved : goal.loop-entry-preserved
loop-entry-preserved c =
    let log = c.args.entries.now in
    let k = c.loop-entry.entry-index in
    let e = c.entry-item.result in
    elim c.if-is_commit.branch [
      | then-is_commit+in_ok-insert w ↦ λ tx. ap (λ (set : BTreeSet ℕ). contains nat_cmp set tx) w.ended-is
          ∙ ended_with log k e tx (contains nat_cmp c.loop-entry.ended tx) _ c.loop-entry-test.true c.entry-item.is (sym c.is_commit.ensures ∙ w.if-is_commit.true)
          (after_put (contains nat_cmp c.loop-entry.ended tx) _ e.tx tx (w.in_ok-insert.ensures.updates.0 tx)) (c.loop-entry.invariant tx)
      | else-is_commit w ↦ λ tx. ap (λ (set : BTreeSet ℕ). contains nat_cmp set tx) w.ended-is
          ∙ ended_without log k e tx (contains nat_cmp c.loop-entry.ended tx) c.loop-entry-test.true c.entry-item.is (sym c.is_commit.ensures ∙ w.if-is_commit.false) (c.loop-entry.invariant tx)
    ]
