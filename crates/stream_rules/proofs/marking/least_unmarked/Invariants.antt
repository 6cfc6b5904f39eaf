use Rattle.std.proofs.Common.{◌≡◌, drop}
use Rattle.stream_rules.specs.Breaches.{next_clear}
use Rattle.stream_rules.proofs.Clear.{unmarked_from}
use Rattle.stream_rules.proofs.marking.least_unmarked.Given as goal

-- what is found in the places that are left is what is found in all
abbrev pub invariant-loop-place : goal.invariant-loop-place
invariant-loop-place l = unmarked_from l.bits l.clear (drop l.place-index l.places) ≡ unmarked_from l.bits (next_clear l.bits 0) l.places
