use Rattle.std.proofs.Common.{◌≡◌, ◌++◌, take, map, string_bytes}
use Rattle.std.specs.List.{flat_map}
use Rattle.std.specs.Borrow.{Bor}
use Rattle.file_tree.specs.declared.link.Link.{Link}
use Rattle.image_dump.specs.Texts.{long_line}
use Rattle.image_dump.proofs.dump.push_long_links.Given as goal

-- the lines of the links so far
abbrev pub invariant-loop-link : goal.invariant-loop-link
invariant-loop-link l = string_bytes l.text ≡ string_bytes l.initial.text ++ flat_map long_line (map (λ (k : Bor Link). k.now) (take l.link-index l.link-items))
