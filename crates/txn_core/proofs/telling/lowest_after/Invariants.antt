use Rattle.std.proofs.Common.{◌-◌, ◌*◌, ◌^◌}
use Rattle.txn_laws.specs.block_pool.Numbers.{number_after}
use Rattle.txn_laws.specs.txn_model.Calls.{is_ready}
use Rattle.txn_state.specs.States.{facts_of}
use Rattle.txn_core.proofs.Walking.{NoneBetween}
use Rattle.txn_core.proofs.telling.lowest_after.Given as goal

abbrev pub invariant-loop-block : goal.invariant-loop-block
invariant-loop-block l = NoneBetween (is_ready (facts_of l.state)) (number_after l.fn.after) (number_after l.behind)

abbrev pub decreases-loop-block : goal.decreases-loop-block
decreases-loop-block l = 3 * 2 ^ 64 - number_after l.behind
