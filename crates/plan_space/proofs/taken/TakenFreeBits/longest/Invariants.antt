use Rattle.std.proofs.Common.{ℕ, ◌-◌, ◌+◌, ◌<◌, ◌≤◌}
use Rattle.space_model.specs.bit_set.Bits.{IsClearRun, IsFirstRun}
use Rattle.plan_space.specs.Spans.{with_spans}
use Rattle.plan_space.proofs.taken.TakenFreeBits.longest.Given as goal

abbrev pub invariant-loop-least : goal.invariant-loop-least
invariant-loop-least l = record {
  order : l.least ≤ l.most;
  found : 0 < l.least → IsFirstRun (with_spans l.self.spans.items l.self.base.now) l.least l.at;
  none : (i : ℕ) → IsClearRun (with_spans l.self.spans.items l.self.base.now) i (l.most + 1) → ⊥;
}

abbrev pub decreases-loop-least : goal.decreases-loop-least
decreases-loop-least l = l.most - l.least
