use Rattle.std.proofs.Common.{◌≡◌, ◌+◌, ◌≤◌, length}
use Rattle.std.specs.Prelude.{◌==◌}
use Rattle.std.specs.List.{slice_split}
use Rattle.script_text.specs.Asking.{AllAsked}
use Rattle.script_text.specs.Scripts.{AreCounts, commands_from, commands_in}
use Rattle.script_text.proofs.reading.commands_in.Given as goal

abbrev pub invariant-loop-line : goal.invariant-loop-line
invariant-loop-line l = record {
  read : commands_from l.number l.commands (slice_split (λ b. b == 10) l.rest) ≡ commands_in l.bytes;
  counts : AreCounts l.counts l.commands;
  asked : AllAsked l.commands;
  few : length l.commands ≤ 16384;
  lines : l.number + length l.rest ≤ length l.bytes + 1;
}

abbrev pub decreases-loop-line : goal.decreases-loop-line
decreases-loop-line l = length l.rest
