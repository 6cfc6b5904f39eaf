use Rattle.std.proofs.Common.{◌≡◌, ◌↔◌, true, length}
use Rattle.flush_policy.specs.Steps.{to_do}
use Rattle.txn_state.specs.States.{facts_of}
use Rattle.volume_core.specs.txn_core.Leading.{dirty_blocks}
use Rattle.volume_core.specs.txn_core.Turns.{HasNext}
use Rattle.volume_sync.specs.Runs.{RunsOn}
use Rattle.volume_sync.specs.Rooms.{IsTelling}
use Rattle.volume_sync.proofs.rooming.make_room.Given as goal

abbrev pub invariant-loop-step : goal.invariant-loop-step
invariant-loop-step g l =
    IsTelling (facts_of l.volume.store.state) l.facts
    × ((l.next ≡ true) ↔ HasNext l.volume.store.state.log)
    × (g.D.Device.fault_count l.volume.store.device ≡ g.D.Device.fault_count l.initial.volume.store.device)
    × RunsOn g.D.Device.gives g.D.Device.sector_count g.D.Device.moment_of g.D.Device.changes_of l.initial.volume l.volume

abbrev pub decreases-loop-step : goal.decreases-loop-step
decreases-loop-step g l = to_do (length (dirty_blocks l.volume.store.state)) l.facts
