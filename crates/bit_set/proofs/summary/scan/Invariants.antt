use Rattle.std.proofs.Common.{ℕ, ◌-◌, ◌≤◌}
use Rattle.bit_set.specs.Words.{word_bit}
use Rattle.bit_set.specs.Summaries.{IsMet}
use Rattle.bit_set.proofs.summary.scan.Given as goal

abbrev pub invariant-loop-met : goal.invariant-loop-met
invariant-loop-met l = record {
  order : l.met.to ≤ l.want.end;
  met : (from : ℕ) → IsMet (word_bit l.words) from l.want.len l.fn.met → IsMet (word_bit l.words) from l.want.len l.met;
}

abbrev pub decreases-loop-met : goal.decreases-loop-met
decreases-loop-met l = l.want.end - l.met.to
