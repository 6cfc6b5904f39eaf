use Rattle.std.proofs.Common.{◌≡◌, take}
use Rattle.std.specs.Prelude.{map}
use Rattle.file_tree.specs.declared.link.Link.{Link}
use Rattle.tree_model.proofs.plain.names_of.Given as goal

-- those of the links so far
abbrev pub invariant-loop-link : goal.invariant-loop-link
invariant-loop-link l = l.names ≡ map (λ (k : Link). k.name) (take l.link-index l.links)
