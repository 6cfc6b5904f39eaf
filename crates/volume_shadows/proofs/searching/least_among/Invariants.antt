use Rattle.std.proofs.Common.{◌≡◌, drop}
use Rattle.volume_shadows.specs.Least.{lesser, least_of}
use Rattle.volume_shadows.specs.Tries.{near_of, tried}
use Rattle.volume_shadows.proofs.searching.least_among.Given as goal

-- the least so far and those of the shadows that are left are all
abbrev pub invariant-loop-shadow : goal.invariant-loop-shadow
invariant-loop-shadow l =
    lesser l.least (least_of (tried l.per l.kind l.count (near_of l.apart l.runs l.run) l.run) (drop l.shadow-index l.shadows)) ≡ least_of (tried l.per l.kind l.count (near_of l.apart l.runs l.run) l.run) l.shadows
