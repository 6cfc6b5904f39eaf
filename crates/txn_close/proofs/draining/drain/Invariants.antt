use Rattle.std.proofs.Common.{◌≡◌, length}
use Rattle.flush_policy.specs.Steps.{to_do}
use Rattle.found_stays.specs.log_area.Areas.{next_lsn}
use Rattle.found_stays.specs.txn_model.Told.{FactsTold, KeepsMarked, KeepsSteps}
use Rattle.found_stays.specs.txn_state.States.{facts_of}
use Rattle.found_stays.specs.txn_core.Kept.{IsKept}
use Rattle.found_stays.specs.txn_core.Leading.{dirty_blocks}
use Rattle.txn_close.specs.Passing.{Goes}
use Rattle.txn_close.proofs.Drained.{with_next, IsShut}
use Rattle.txn_close.proofs.draining.drain.Given as goal

abbrev pub invariant-loop-step : goal.invariant-loop-step
invariant-loop-step g l =
    FactsTold (facts_of l.store.state) (with_next (next_lsn l.store.state.log 0x58) l.facts)
    × IsKept (facts_of l.store.state)
    × KeepsMarked (facts_of l.store.state)
    × KeepsSteps (facts_of l.store.state)
    × IsShut (facts_of l.store.state)
    × (g.D.Device.fault_count l.store.device ≡ g.D.Device.fault_count l.initial.store.device)
    × Goes g.D.Device.sector_count g.D.Device.moment_of g.D.Device.changes_of (facts_of l.initial.store.state) l.initial.store l.store

abbrev pub decreases-loop-step : goal.decreases-loop-step
decreases-loop-step g l = to_do (length (dirty_blocks l.store.state)) l.facts
