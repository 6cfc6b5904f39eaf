use Rattle.std.proofs.Common.{◌≡◌, ◌++◌, take}
use Rattle.std.specs.List.{filter, filter_map}
use Rattle.file_tree.specs.Trees.{is_long}
use Rattle.state_model.specs.Files.{attr_link}
use Rattle.volume_links.proofs.names.push_record.Given as goal

-- those of the attributes so far stand at the end
abbrev pub invariant-loop-attr : goal.invariant-loop-attr
invariant-loop-attr l = l.links.items ≡ l.fn.links.items ++ filter is_long (filter_map (attr_link l.child) (take l.attr-index l.attr-items))
