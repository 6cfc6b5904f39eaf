use Rattle.std.proofs.Common.{length, ◌-◌, ◌≡◌, ◌≤◌, ℕ, ◌+◌, drop}
use Rattle.plan_draft.specs.Finishing.{same_front}
use Rattle.plan_draft.proofs.finishing.same_front.Given as goal

-- what is the same of the rest stands behind what was passed
abbrev pub invariant-loop-at : goal.invariant-loop-at
invariant-loop-at l = record {
  within : l.at ≤ length l.new;
  rest : l.at + same_front (drop l.at l.old) (drop l.at l.new) ≡ same_front l.old l.new;
}

abbrev pub decreases-loop-at : goal.decreases-loop-at
decreases-loop-at l = length l.new - l.at
