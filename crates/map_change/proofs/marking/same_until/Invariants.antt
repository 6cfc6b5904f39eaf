use Rattle.std.proofs.Common.{◌≡◌, ℕ, ◌-◌, ◌<◌, ◌≤◌}
use Rattle.bit_set.specs.Words.{byte_bit}
use Rattle.map_change.proofs.marking.same_until.Given as goal

abbrev pub invariant-loop-to : goal.invariant-loop-to
invariant-loop-to l = record {
  some : l.at < l.to;
  most : l.to ≤ l.end;
  same : (i : ℕ) → l.at ≤ i → i < l.to → byte_bit l.bytes i ≡ byte_bit l.bytes l.at;
}

abbrev pub decreases-loop-to : goal.decreases-loop-to
decreases-loop-to l = l.end - l.to
