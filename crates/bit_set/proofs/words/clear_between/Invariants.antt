use Rattle.std.proofs.Common.{◌≡◌, ◌-◌, ◌≤◌}
use Rattle.bit_set.specs.Words.{word_bit, clear_count}
use Rattle.bit_set.proofs.words.clear_between.Given as goal

abbrev pub invariant-loop-at : goal.invariant-loop-at
invariant-loop-at l = record {
  order : l.first ≤ l.at;
  within : l.at ≤ l.end;
  count : l.count ≡ clear_count (word_bit l.words) l.first (l.at - l.first);
}

abbrev pub decreases-loop-at : goal.decreases-loop-at
decreases-loop-at l = l.end - l.at
