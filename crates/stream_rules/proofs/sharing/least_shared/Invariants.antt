use Rattle.std.proofs.Common.{◌≡◌, drop}
use Rattle.stream_rules.proofs.Overlaps.{overlap_from}
use Rattle.stream_rules.proofs.sharing.least_shared.Given as goal

-- what is found in the places that are left is what is found in all
abbrev pub invariant-loop-place : goal.invariant-loop-place
invariant-loop-place l = overlap_from l.end (drop l.place-index l.places) ≡ overlap_from 0 l.places
