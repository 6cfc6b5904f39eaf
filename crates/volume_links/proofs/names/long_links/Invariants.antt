use Rattle.std.proofs.Common.{◌≡◌}
use Rattle.std.specs.List.{range_with_len, filter, flat_map}
use Rattle.file_tree.specs.Trees.{is_long}
use Rattle.state_model.specs.Files.{links_at}
use Rattle.state_model.specs.Loads.{table_in}
use Rattle.volume_links.proofs.names.long_links.Given as goal

-- those of the files so far
abbrev pub invariant-loop-number : goal.invariant-loop-number
invariant-loop-number l = l.links.items ≡ filter is_long (flat_map (links_at (table_in l.files)) (range_with_len 0 l.number))
