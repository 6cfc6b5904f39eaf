use Rattle.std.proofs.Common.{take}
use Rattle.stream_rules.proofs.RunPlaces.{ArePlaces}
use Rattle.stream_rules.proofs.places.places_of.Given as goal

-- the places of the runs so far
abbrev pub invariant-loop-run : goal.invariant-loop-run
invariant-loop-run l = ArePlaces l.clusters (take l.run-index l.runs) l.places.items
