use Rattle.std.proofs.Common.{◌≡◌, ◌++◌, drop}
use Rattle.state_model.specs.Loads.{table_in}
use Rattle.volume_map.specs.Lists.{joined_files}
use Rattle.volume_map.proofs.joining.join_files.Given as goal

abbrev pub invariant-loop-number : goal.invariant-loop-number
invariant-loop-number l = l.records ≡ joined_files (table_in l.initial.records) l.extras l.number ++ drop l.number l.initial.records
