use Rattle.std.proofs.Common.{◌/◌, ◌≤◌, [], length, take, reverse}
use Rattle.sector_device.specs.Sectors.{sectors_of}
use Rattle.sector_device.specs.Disks.{Disk}
use Rattle.sector_device.specs.Left.{AreInside, IsFair}
use Rattle.sector_device.proofs.choosing.choose.Given as goal

abbrev pub invariant-loop-left : goal.invariant-loop-left
invariant-loop-left l = record {
  short : l.left ≤ length l.done;
  inside : AreInside (length l.initial.image / 512) (reverse (take l.left l.done));
  fair : (disk : Disk) → IsFair disk (sectors_of l.initial.image) l.initial.decided 0 [] (reverse l.done) → IsFair disk (sectors_of l.image) l.decided 0 [] (reverse (take l.left l.done));
}

abbrev pub decreases-loop-left : goal.decreases-loop-left
decreases-loop-left l = l.left
