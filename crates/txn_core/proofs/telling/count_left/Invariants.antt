use Rattle.std.proofs.Common.{◌-◌, ◌*◌, ◌^◌}
use Rattle.txn_laws.specs.block_pool.Numbers.{number_after}
use Rattle.txn_state.specs.States.{facts_of}
use Rattle.txn_core.proofs.Walking.{LeftBelow}
use Rattle.txn_core.proofs.telling.count_left.Given as goal

abbrev pub invariant-loop-block : goal.invariant-loop-block
invariant-loop-block l = LeftBelow (facts_of l.state).mark (number_after l.behind) l.left

abbrev pub decreases-loop-block : goal.decreases-loop-block
decreases-loop-block l = 3 * 2 ^ 64 - number_after l.behind
