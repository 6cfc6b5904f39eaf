use Rattle.std.proofs.Common.{◌≡◌, ℕ, ◌-◌, ◌<◌, ◌≤◌}
use Rattle.bit_set.specs.Words.{word_bit}
use Rattle.bit_set.proofs.words.run_end.Given as goal

abbrev pub invariant-loop-at : goal.invariant-loop-at
invariant-loop-at l = record {
  order : l.fn.at ≤ l.at;
  within : l.at ≤ l.end;
  same : (i : ℕ) → l.fn.at ≤ i → i < l.at → word_bit l.words i ≡ l.value;
}

abbrev pub decreases-loop-at : goal.decreases-loop-at
decreases-loop-at l = l.end - l.at
