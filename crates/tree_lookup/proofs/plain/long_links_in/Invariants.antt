use Rattle.std.proofs.Common.{◌≡◌, take}
use Rattle.file_tree.specs.Trees.{long_links_in}
use Rattle.tree_lookup.proofs.plain.long_links_in.Given as goal

-- those of the links so far
abbrev pub invariant-loop-link : goal.invariant-loop-link
invariant-loop-link l = l.long.items ≡ long_links_in (take l.link-index l.links) l.directory
