use Rattle.std.proofs.Common.{◌≡◌}
use Rattle.txn_state.specs.States.{facts_of}
use Rattle.volume_sync.specs.Runs.{RunsOn}
use Rattle.volume_sync.specs.Syncs.{to_sync, KeepsDirty}
use Rattle.volume_sync.proofs.syncing.sync.Given as goal

abbrev pub invariant-loop-step : goal.invariant-loop-step
invariant-loop-step g l =
    (g.D.Device.fault_count l.volume.store.device ≡ g.D.Device.fault_count l.initial.volume.store.device)
    × KeepsDirty (facts_of l.initial.volume.store.state) (facts_of l.volume.store.state)
    × (l.initial.volume.store.state.durable ≡ l.initial.volume.store.state.commits → l.volume ≡ l.initial.volume)
    × RunsOn g.D.Device.gives g.D.Device.sector_count g.D.Device.moment_of g.D.Device.changes_of l.initial.volume l.volume

abbrev pub decreases-loop-step : goal.decreases-loop-step
decreases-loop-step g l = to_sync (facts_of l.volume.store.state)
