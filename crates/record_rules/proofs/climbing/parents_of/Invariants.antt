use Rattle.std.proofs.Common.{◌≡◌}
use Rattle.std.specs.Prelude.{map}
use Rattle.std.specs.List.{range_with_len}
use Rattle.state_model.specs.Trees.{parent_at}
use Rattle.state_model.specs.Loads.{table_in}
use Rattle.record_rules.proofs.climbing.parents_of.Given as goal

-- those of the files so far
abbrev pub invariant-loop-number : goal.invariant-loop-number
invariant-loop-number l = l.parents.items ≡ map (parent_at (table_in l.records)) (range_with_len 0 l.number)
