use Rattle.std.proofs.Common.{◌≡◌, drop}
use Rattle.store_pools.specs.disk_model.declared.block.Block.{Block}
use Rattle.store_pools.specs.block_pool.Pools.{held}
use Rattle.store_pools.specs.txn_model.Calls.{rivals_of}
use Rattle.txn_log.proofs.Told.{left_of}
use Rattle.txn_log.proofs.counting.tell_rivals.Given as goal

-- with the rivals that are left it is what all make of it at first
abbrev pub invariant-loop-k : goal.invariant-loop-k
invariant-loop-k l = (b : Block) → left_of (drop l.k (rivals_of l.block)) (held l.told) b ≡ left_of (rivals_of l.block) (held l.initial.told) b
