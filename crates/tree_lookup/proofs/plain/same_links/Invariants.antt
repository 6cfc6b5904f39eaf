use Rattle.std.proofs.Common.{◌≡◌, take}
use Rattle.file_tree.specs.Trees.{same_links}
use Rattle.tree_lookup.proofs.plain.same_links.Given as goal

-- those of the links so far
abbrev pub invariant-loop-link : goal.invariant-loop-link
invariant-loop-link l = l.same.items ≡ same_links l.upper (take l.link-index l.links) l.directory l.part
