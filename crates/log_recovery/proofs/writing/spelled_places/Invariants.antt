use Rattle.std.proofs.Common.{◌≡◌, ◌++◌, drop}
use Rattle.log_recovery.specs.Writing.{places_where, has_spelled}
use Rattle.log_recovery.proofs.writing.spelled_places.Given as goal

-- the places so far, and those of the bodies that are left
abbrev pub invariant-loop-place : goal.invariant-loop-place
invariant-loop-place l = l.places.items ++ places_where has_spelled l.place (drop l.place l.bodies) ≡ places_where has_spelled 0 l.bodies
