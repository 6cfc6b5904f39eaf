use Rattle.std.proofs.Common.{◌≡◌, drop}
use Rattle.txn_log.specs.store_pools.Pools.{bodies_of}
use Rattle.txn_log.specs.txn_model.Calls.{rivals_of}
use Rattle.txn_state.proofs.Turning.{without_all}
use Rattle.txn_state.proofs.rivals.drop_rivals.Given as goal

-- without the rivals that are left the bodies are those of before without all
abbrev pub invariant-loop-k : goal.invariant-loop-k
invariant-loop-k l = without_all (drop l.k (rivals_of l.block)) (bodies_of l.bodies) ≡ without_all (rivals_of l.block) (bodies_of l.initial.bodies)
