use Rattle.std.proofs.Common.{◌≡◌, length}
use Rattle.std.specs.Prelude.{map}
use Rattle.std.specs.List.{range_with_len}
use Rattle.record_rules.specs.Passing.{climbed, reach, AreSettled}
use Rattle.record_rules.proofs.passing.climb_into.Given as goal

-- the answers so far
abbrev pub invariant-loop-start : goal.invariant-loop-start
invariant-loop-start l = record {
  size : length l.firsts ≡ length l.parents;
  settled : AreSettled l.question l.parents l.firsts l.answers.items;
  value : l.answers.items ≡ map (climbed l.question l.parents (reach l.question (length l.parents))) (range_with_len 0 l.start);
}
