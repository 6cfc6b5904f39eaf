use Rattle.std.proofs.Common.{◌≡◌, true, false, length}
use Rattle.std.specs.Prelude.{IsSome}
use Rattle.std.specs.Option.{option_or}
use Rattle.txn_model.specs.disk_model.declared.block.Block.{Block}
use Rattle.txn_model.specs.block_pool.Pools.{held}
use Rattle.store_pools.specs.Pools.{bodies_of, marks_of}
use Rattle.store_pools.proofs.Ends.{once_turned}
use Rattle.store_pools.proofs.ending.restore.Given as goal

abbrev pub invariant-blocks-2 : goal.invariant-blocks-2
invariant-blocks-2 l = record {
  marked : (b : Block) → IsSome (held l.before b) → IsSome (held l.marks b);
  bodied : (b : Block) → IsSome (held l.before b) → IsSome (held l.bodies b);
  turned : (b : Block) → once_turned (λ m. record m { dirty = true; dead = false; imaged = false }) (held l.before b) (marks_of l.marks b)
      ≡ once_turned (λ m. record m { dirty = true; dead = false; imaged = false }) (held l.initial.before b) (marks_of l.initial.marks b);
  back : (b : Block) → option_or (bodies_of l.before b) (bodies_of l.bodies b) ≡ option_or (bodies_of l.initial.before b) (bodies_of l.initial.bodies b);
}

abbrev pub decreases-blocks-2 : goal.decreases-blocks-2
decreases-blocks-2 l = length l.before
