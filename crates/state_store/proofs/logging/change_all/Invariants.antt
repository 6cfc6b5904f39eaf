use Rattle.std.proofs.Common.{◌≡◌, ◌≤◌, drop}
use Rattle.turn_laws.specs.txn_state.States.{facts_of}
use Rattle.state_store.proofs.Going.{GoesOn}
use Rattle.state_store.proofs.logging.change_all.Given as goal

abbrev pub invariant-loop-change : goal.invariant-loop-change
invariant-loop-change g l = record {
  goes : GoesOn (g.D.Device.gives l.initial.store.device) (g.D.Device.changes_of l.initial.store.device) (facts_of l.initial.store.state) (facts_of l.store.state) l.changes (drop l.change-index l.changes);
  gives : g.D.Device.gives l.store.device ≡ g.D.Device.gives l.initial.store.device;
  changes : g.D.Device.changes_of l.store.device ≡ g.D.Device.changes_of l.initial.store.device;
  sectors : g.D.Device.sector_count l.store.device ≡ g.D.Device.sector_count l.initial.store.device;
  faults : g.D.Device.fault_count l.store.device ≡ g.D.Device.fault_count l.initial.store.device;
  onwards : g.D.Device.moment_of l.initial.store.device ≤ g.D.Device.moment_of l.store.device;
}
