use Rattle.std.proofs.Common.{◌≡◌, ℕ, ◌+◌, ◌-◌, ◌<◌, ◌≤◌, Bool}
use Rattle.bit_set.specs.Words.{byte_bit}
use Rattle.map_change.specs.Marking.{TellsMore}
use Rattle.map_change.proofs.marking.push_bits.Given as goal

abbrev pub invariant-loop-at : goal.invariant-loop-at
invariant-loop-at l = record {
  most : l.at ≤ l.count;
  told : (bits : ℕ → Bool) → ((i : ℕ) → i < l.count → bits (l.first + i) ≡ byte_bit l.bytes i) → TellsMore bits l.first (l.first + l.at) l.initial.runs.items l.runs.items;
}

abbrev pub decreases-loop-at : goal.decreases-loop-at
decreases-loop-at l = l.count - l.at
