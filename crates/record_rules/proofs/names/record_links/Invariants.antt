use Rattle.std.proofs.Common.{◌≡◌, take}
use Rattle.std.specs.List.{filter_map}
use Rattle.state_model.specs.Files.{attr_link}
use Rattle.record_rules.proofs.names.record_links.Given as goal

-- those of the attributes so far
abbrev pub invariant-loop-attr : goal.invariant-loop-attr
invariant-loop-attr l = l.links ≡ filter_map (attr_link l.child) (take l.attr-index l.attr-items)
