use Rattle.std.proofs.Common.{◌≡◌, ◌++◌, take}
use Rattle.std.specs.List.{filter_map}
use Rattle.map_change.specs.Touching.{number_at}
use Rattle.map_change.proofs.numbers.push_block.Given as goal

abbrev pub invariant-loop-run : goal.invariant-loop-run
invariant-loop-run l = l.numbers.items ≡ l.initial.numbers.items ++ filter_map (number_at l.per l.count l.block) (take l.run-index l.runs)
