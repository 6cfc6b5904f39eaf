use Rattle.std.proofs.Common.{◌≡◌, ◌-◌, ◌++◌}
use Rattle.std.specs.List.{range_with_len}
use Rattle.map_change.proofs.keeping.push_range.Given as goal

abbrev pub invariant-loop-number : goal.invariant-loop-number
invariant-loop-number l = l.numbers.items ++ range_with_len l.number (l.end - l.number) ≡ l.initial.numbers.items ++ range_with_len l.from (l.end - l.from)
