use Rattle.std.proofs.Common.{◌*◌, ◌/◌, length, arith}
use Rattle.std.proofs.lemmas.List.{length-take-le}
use Rattle.sector_device.specs.WholeSectors.{length-sectors_of}
use Rattle.sector_device.proofs.Leaving.{put_back_is}
use Rattle.sector_device.proofs.choosing.put_back.Goals as goal

pub write_over-requires : goal.write_over-requires
write_over-requires c =
    let size = length-take-le (512 * (length c.args.old.now / 512)) c.args.old.now (omega arith) in
    let count = length-sectors_of c.args.old.now in
    let within = c.requires in
    omega (arith, size, count, within)

pub returns : goal.returns
returns c = put_back_is c.args.first (512 * (length c.args.old.now / 512)) c.args.old.now c.args.image.now c.write_over.new.bytes (omega arith) c.requires c.write_over.ensures
