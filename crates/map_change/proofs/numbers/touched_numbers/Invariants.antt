use Rattle.std.proofs.Common.{◌≡◌, take}
use Rattle.std.specs.List.{flat_map}
use Rattle.map_change.specs.Touching.{numbers_of}
use Rattle.map_change.proofs.numbers.touched_numbers.Given as goal

abbrev pub invariant-loop-change : goal.invariant-loop-change
invariant-loop-change l = l.numbers.items ≡ flat_map (numbers_of l.kind l.per l.count l.runs) (take l.change-index l.changes)
