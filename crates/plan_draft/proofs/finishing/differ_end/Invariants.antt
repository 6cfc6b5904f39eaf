use Rattle.std.proofs.Common.{◌≡◌, ◌≤◌, length, ℕ}
use Rattle.plan_draft.specs.Finishing.{differ_end}
use Rattle.plan_draft.proofs.finishing.differ_end.Given as goal

-- behind this place nothing differs
abbrev pub invariant-loop-end : goal.invariant-loop-end
invariant-loop-end l = record {
  within : l.end ≤ length l.new;
  rest : differ_end l.old l.new l.end ≡ differ_end l.old l.new (length l.new);
}

abbrev pub decreases-loop-end : goal.decreases-loop-end
decreases-loop-end l = l.end
