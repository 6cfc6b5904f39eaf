use Rattle.std.proofs.Common.{subst, ◌∙◌, ◌<◌, ℕ}
use Rattle.txn_log.specs.store_pools.Pools.{marks_of}
use Rattle.txn_log.specs.txn_model.Calls.{rivals_of}
use Rattle.txn_state.proofs.Turning.{turn_step}
use Rattle.txn_state.proofs.rivals.turn_rivals.Goals as goal

pub loop-k-preserved : goal.loop-k-preserved
loop-k-preserved g c =
    turn_step (g.F.Turns.turned c.args.change.now) (rivals_of c.args.block) c.loop-k.k c.rival.result c.args.block (marks_of c.loop-k.marks) (marks_of c.turn_at.new.marks) (subst (λ (n : ℕ). c.loop-k.k < n) c.rival_count-k-end.ensures c.loop-k-test.true)
    (c.rival.ensures c.args.block) c.turn_at.ensures
    ∙ c.loop-k.invariant
