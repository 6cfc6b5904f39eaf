use Rattle.std.proofs.Common.{ap, subst, sym, ◌∙◌, ◌<◌, ℕ, arith}
use Rattle.txn_log.specs.store_pools.Pools.{bodies_of}
use Rattle.txn_log.specs.txn_model.Calls.{rivals_of}
use Rattle.txn_state.proofs.Turning.{taken_bodies, drop_step, drop_end}
use Rattle.txn_state.proofs.rivals.drop_rivals.Goals as goal

pub loop-k-preserved : goal.loop-k-preserved
loop-k-preserved c =
    drop_step (rivals_of c.args.block) c.loop-k.k c.rival.result c.args.block (bodies_of c.loop-k.bodies) (bodies_of c.take.new.self) (subst (λ (n : ℕ). c.loop-k.k < n) c.rival_count-k-end.ensures c.loop-k-test.true) (c.rival.ensures c.args.block)
    (ap bodies_of c.take.ensures.rest ∙ taken_bodies c.rival.result c.loop-k.bodies)
    ∙ c.loop-k.invariant

pub returns : goal.returns
returns c = sym (drop_end (rivals_of c.args.block) c.loop-k.k (bodies_of c.loop-k.bodies) (omega (arith, c.rival_count-k-end.ensures, c.loop-k-test.false))) ∙ c.loop-k.invariant
