use Rattle.std.proofs.Common.{◌≡◌, map}
use Rattle.state_model.specs.Loads.{table_in}
use Rattle.volume_map.specs.Lists.{read_of, tens_of}
use Rattle.volume_map.proofs.holding.tens_of.Given as goal

abbrev pub invariant-loop-number : goal.invariant-loop-number
invariant-loop-number l = l.tens.items ≡ tens_of (table_in l.records) (map read_of l.lists) l.number
