use Rattle.std.proofs.Common.{◌≡◌, length}
use Rattle.std.specs.Prelude.{IsSome}
use Rattle.txn_model.specs.disk_model.declared.block.Block.{Block}
use Rattle.txn_model.specs.block_pool.Pools.{held}
use Rattle.store_pools.specs.Pools.{marks_of}
use Rattle.store_pools.proofs.Ends.{once_turned}
use Rattle.store_pools.proofs.ending.mark_commits.Given as goal

abbrev pub invariant-blocks-2 : goal.invariant-blocks-2
invariant-blocks-2 l = record {
  marked : (b : Block) → IsSome (held l.before b) → IsSome (held l.marks b);
  turned : (b : Block) → once_turned (λ m. record m { commit = l.number }) (held l.before b) (marks_of l.marks b) ≡ once_turned (λ m. record m { commit = l.number }) (held l.initial.before b) (marks_of l.initial.marks b);
}

abbrev pub decreases-blocks-2 : goal.decreases-blocks-2
decreases-blocks-2 l = length l.before
