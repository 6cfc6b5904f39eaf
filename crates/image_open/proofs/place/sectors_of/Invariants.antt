use Rattle.std.proofs.Common.{◌-◌, ◌*◌, ◌≤◌}
use Rattle.std.specs.Prelude.{All}
use Rattle.log_recovery.specs.log_reading.LogPages.{IsSmall as IsSmallExtent}
use Rattle.image_open.specs.LogPlaces.{AreSectors}
use Rattle.image_open.proofs.place.sectors_of.Given as goal

-- the sectors of the VCNs so far
abbrev pub invariant-loop-v : goal.invariant-loop-v
invariant-loop-v l = record {
  inside : l.v ≤ l.end;
  made : AreSectors l.per l.runs (l.v * l.per) l.sectors.items;
  small : All IsSmallExtent l.sectors.items;
}

abbrev pub decreases-loop-v : goal.decreases-loop-v
decreases-loop-v l = l.end - l.v
