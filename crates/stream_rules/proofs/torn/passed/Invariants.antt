use Rattle.std.proofs.Common.{◌≡◌, ℕ, ◌≤◌, drop, find}
use Rattle.state_model.specs.Streams.{holds}
use Rattle.stream_rules.proofs.torn.passed.Given as goal

-- what is found among the runs that are left is what is found among all
abbrev pub invariant-loop-i : goal.invariant-loop-i
invariant-loop-i l = (first last : ℕ) → l.vcn ≤ last → find (holds first last) (drop l.i l.runs) ≡ find (holds first last) l.runs
