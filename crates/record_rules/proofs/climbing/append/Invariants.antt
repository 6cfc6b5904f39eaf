use Rattle.std.proofs.Common.{◌≡◌, ◌++◌, take}
use Rattle.record_rules.proofs.climbing.append.Given as goal

-- those of the links so far stand at the end
abbrev pub invariant-loop-link : goal.invariant-loop-link
invariant-loop-link l = l.links ≡ l.fn.links ++ take l.link-index l.more
