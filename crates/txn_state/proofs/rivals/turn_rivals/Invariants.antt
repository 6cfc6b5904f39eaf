use Rattle.std.proofs.Common.{◌≡◌, drop}
use Rattle.txn_log.specs.store_pools.Pools.{marks_of}
use Rattle.txn_log.specs.txn_model.Calls.{rivals_of}
use Rattle.txn_state.specs.Turning.{turned_all}
use Rattle.txn_state.proofs.rivals.turn_rivals.Given as goal

-- the rivals that are left make of the marks what all made of them at first
abbrev pub invariant-loop-k : goal.invariant-loop-k
invariant-loop-k g l = turned_all (g.F.Turns.turned l.change) (drop l.k (rivals_of l.block)) (marks_of l.marks) ≡ turned_all (g.F.Turns.turned l.change) (rivals_of l.block) (marks_of l.initial.marks)
