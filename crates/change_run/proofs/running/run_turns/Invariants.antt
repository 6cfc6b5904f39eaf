use Rattle.std.proofs.Common.{◌≡◌, ℕ, ◌≤◌, length, take, get_or}
use Rattle.run_model.specs.declared.turn.Turn.{Turn}
use Rattle.change_run.specs.Runs.{RunsSoFar}
use Rattle.change_run.proofs.running.run_turns.Given as goal

-- the run of the commands so far; the turns behind it are still blank
abbrev pub invariant-loop-i : goal.invariant-loop-i
invariant-loop-i g l =
    RunsSoFar g.D.Device.gives g.D.Device.sector_count g.D.Device.moment_of g.D.Device.fault_count g.D.Device.changes_of l.script l.time l.i (take l.i l.turns) l.initial.volume l.volume
    × (length l.turns ≡ length l.initial.turns)
    × ((j : ℕ) (t : Turn) → l.i ≤ j → get_or l.turns j t ≡ get_or l.initial.turns j t)
