use Rattle.std.proofs.Common.{◌≡◌, take}
use Rattle.same_names.proofs.keeping.are_same_links.Given as goal

abbrev pub invariant-loop-at : goal.invariant-loop-at
invariant-loop-at l = take l.at l.others ≡ take l.at l.links
