use Rattle.std.proofs.Common.{◌≡◌, drop, find}
use Rattle.state_model.specs.Streams.{holds}
use Rattle.stream_map.proofs.places.lcn_in.Given as goal

-- what is found among the runs that are left is what is found among all
abbrev pub invariant-loop-run : goal.invariant-loop-run
invariant-loop-run l = find (holds l.first l.last) (drop l.run-index l.runs) ≡ find (holds l.first l.last) l.runs
