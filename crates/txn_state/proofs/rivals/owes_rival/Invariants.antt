use Rattle.std.proofs.Common.{◌≡◌, drop}
use Rattle.std.specs.List.{list_any}
use Rattle.txn_log.specs.disk_model.declared.block.Block.{Block}
use Rattle.txn_log.specs.store_pools.Pools.{marks_of}
use Rattle.txn_log.specs.txn_model.Calls.{rivals_of}
use Rattle.txn_state.proofs.rivals.owes_rival.Given as goal

-- what is told of the rivals that are left is told of all
abbrev pub invariant-loop-k : goal.invariant-loop-k
invariant-loop-k l = list_any (λ (c : Block). (marks_of l.marks c).owed) (drop l.k (rivals_of l.block)) ≡ list_any (λ (c : Block). (marks_of l.marks c).owed) (rivals_of l.block)
