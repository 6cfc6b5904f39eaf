use Rattle.std.specs.Prelude.{◌≡◌, ◌≤◌}
use Rattle.serial_run.specs.Runs.{IsRunSoFar}
use Rattle.serial_run.proofs.running.serial_run.Given as goal

-- the turns of the commands so far
abbrev pub invariant-loop-command : goal.invariant-loop-command
invariant-loop-command g l = IsRunSoFar (g.V.AskedVolume.upper l.initial.volume) (g.V.AskedVolume.tree l.initial.volume) l.next l.command-items l.time (g.V.AskedVolume.fault_count l.initial.volume) l.command-index (g.V.AskedVolume.fault_count l.volume) (g.V.AskedVolume.moment_of l.volume) l.turns.items × (g.V.AskedVolume.tree l.volume ≡ g.V.AskedVolume.tree l.initial.volume) × (g.V.AskedVolume.upper l.volume ≡ g.V.AskedVolume.upper l.initial.volume) × (g.V.AskedVolume.kept l.volume ≡ g.V.AskedVolume.kept l.initial.volume) × (g.V.AskedVolume.fault_count l.initial.volume ≤ g.V.AskedVolume.fault_count l.volume)
