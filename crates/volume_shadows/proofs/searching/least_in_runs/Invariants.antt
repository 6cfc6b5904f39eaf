use Rattle.std.proofs.Common.{◌≡◌, drop}
use Rattle.volume_shadows.specs.Least.{lesser, least_of}
use Rattle.volume_shadows.specs.Tries.{least_tried}
use Rattle.volume_shadows.proofs.searching.least_in_runs.Given as goal

-- the least so far and those of the runs that are left are all
abbrev pub invariant-loop-run : goal.invariant-loop-run
invariant-loop-run l = lesser l.least (least_of (least_tried l.per l.kind l.count l.apart l.runs l.sorted) (drop l.run-index l.runs)) ≡ least_of (least_tried l.per l.kind l.count l.apart l.runs l.sorted) l.runs
