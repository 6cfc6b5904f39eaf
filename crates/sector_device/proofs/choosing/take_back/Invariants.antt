use Rattle.std.proofs.Common.{◌≡◌, ◌/◌, ◌≤◌, length, take, drop, reverse}
use Rattle.sector_device.specs.Sectors.{sectors_of}
use Rattle.sector_device.specs.Left.{before_calls, AreInside}
use Rattle.sector_device.proofs.choosing.take_back.Given as goal

abbrev pub invariant-loop-left : goal.invariant-loop-left
invariant-loop-left l = record {
  from : l.count ≤ l.left;
  short : l.left ≤ length l.done;
  inside : AreInside (length l.initial.image / 512) (reverse (take l.left l.done));
  back : sectors_of l.image ≡ before_calls (reverse (drop l.left l.done)) (sectors_of l.initial.image);
}

abbrev pub decreases-loop-left : goal.decreases-loop-left
decreases-loop-left l = l.left
