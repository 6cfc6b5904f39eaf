use Rattle.std.proofs.Common.{◌≡◌, drop, Result}
use Rattle.host_base.specs.declared.outside.Failed.{Failed}
use Rattle.txn_mount.specs.Calls.{PutsAll}
use Rattle.txn_mount.specs.Puts.{items_of}
use Rattle.txn_mount.proofs.puts.write_outs.Given as goal

abbrev pub invariant-loop-key : goal.invariant-loop-key
invariant-loop-key g l =
    ((result : Result (Unit {0}) Failed) (new : g.row.D.Denot) → PutsAll g.D.Device.gives g.D.Device.changes_of g.D.Device.moment_of (items_of l.bodies (drop l.key-index l.keys)) result l.device new → PutsAll g.D.Device.gives g.D.Device.changes_of g.D.Device.moment_of (items_of l.bodies l.keys) result l.initial.device new)
    × (g.D.Device.sector_count l.device ≡ g.D.Device.sector_count l.initial.device)
    × (g.D.Device.fault_count l.device ≡ g.D.Device.fault_count l.initial.device)
