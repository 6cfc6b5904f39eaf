use Rattle.std.proofs.Common.{◌≡◌, ◌-◌, length}
use Rattle.record_rules.specs.Passing.{passed}
use Rattle.record_rules.proofs.Once.{IsUnderWay}
use Rattle.record_rules.proofs.passing.climb.Given as goal

-- the way as far as it has come
abbrev pub invariant-loop-at : goal.invariant-loop-at
invariant-loop-at l = record { size : length l.firsts ≡ length l.parents; way : IsUnderWay l.question l.parents l.answers (passed l.fn.firsts) l.firsts l.at }

-- the records that weren't passed
abbrev pub decreases-loop-at : goal.decreases-loop-at
decreases-loop-at l = length l.firsts - passed l.firsts
