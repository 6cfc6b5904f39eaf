use Rattle.std.proofs.Common.{ℕ, ◌-◌, ◌≤◌, length}
use Rattle.plan_draft.specs.Touching.{block_key, keys_of, place_in}
use Rattle.plan_draft.proofs.order.place_of.Given as goal

-- the place is one of these
abbrev pub invariant-loop-low : goal.invariant-loop-low
invariant-loop-low l = record {
  reached : l.low ≤ place_in (block_key l.block) (keys_of l.touched);
  left : place_in (block_key l.block) (keys_of l.touched) ≤ l.high;
  within : l.high ≤ length l.touched;
}

abbrev pub decreases-loop-low : goal.decreases-loop-low
decreases-loop-low l = l.high - l.low
