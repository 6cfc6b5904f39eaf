use Rattle.std.proofs.Common.{ℕ, ◌-◌, ◌≤◌, length}
use Rattle.space_model.specs.bit_set.Bits.{IsClearRun}
use Rattle.plan_space.specs.Spans.{with_spans}
use Rattle.plan_space.proofs.taken.TakenFreeBits.first_run.Given as goal

-- a run that is clear with the spans begins from here on
abbrev pub invariant-loop-first : goal.invariant-loop-first
invariant-loop-first l = (i : ℕ) → IsClearRun (with_spans l.self.spans.items l.self.base.now) i l.len → l.from ≤ i

abbrev pub decreases-loop-first : goal.decreases-loop-first
decreases-loop-first l = length l.self.base.now - l.from
