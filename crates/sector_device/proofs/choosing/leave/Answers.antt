use Rattle.std.proofs.Common.{take, drop, reverse}
use Rattle.sector_device.specs.Sectors.{sectors_of}
use Rattle.sector_device.specs.Kept.{disk_by}
use Rattle.sector_device.specs.Left.{before_calls}
use Rattle.sector_device.proofs.Leaving.{undecided_is_fair}
use Rattle.sector_device.proofs.choosing.leave.Goals as goal

pub returns : goal.returns
returns c =
    let back = before_calls (reverse (drop c.args.count c.args.done.now)) (sectors_of c.args.image.now) in
    let calls = reverse (take c.args.count c.args.done.now) in
    c.choose.ensures (disk_by back calls) (undecided_is_fair back (sectors_of c.take_back.new.image) c.args.decided.now calls c.take_back.ensures.sectors c.requires.none)
