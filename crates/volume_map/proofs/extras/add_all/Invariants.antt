use Rattle.std.proofs.Common.{◌≡◌, length, map}
use Rattle.state_model.specs.Loads.{table_in}
use Rattle.volume_map.specs.Lists.{read_of, extras_of}
use Rattle.volume_map.proofs.extras.add_all.Given as goal

abbrev pub invariant-loop-number : goal.invariant-loop-number
invariant-loop-number l = l.extras ≡ extras_of (map read_of l.lists) (table_in l.records) l.number (length l.records)
