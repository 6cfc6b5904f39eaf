use Rattle.std.proofs.Common.{◌≡◌, map}
use Rattle.std.specs.List.{range_with_len}
use Rattle.state_model.specs.Files.{links_at}
use Rattle.state_model.specs.Loads.{table_in}
use Rattle.record_rules.proofs.linking.links_in.Given as goal

-- those of the files so far
abbrev pub invariant-loop-number : goal.invariant-loop-number
invariant-loop-number l = l.links.items ≡ map (links_at (table_in l.records)) (range_with_len 0 l.number)
