use Rattle.std.proofs.Common.{◌∙◌, sym, arith}
use Rattle.image_read.proofs.image_open.Disks.{no_sectors}
use Rattle.volume_mount.specs.Mounts.{mounted_in, mounted_of}
use Rattle.volume_mount.proofs.Sectors.{some_mounts}
use Rattle.volume_mount.proofs.mounting.mount.Goals as goal

pub returns-then-sectors-eq0-clause-answer : goal.returns-then-sectors-eq0-clause-answer
unfolding mounted_of
returns-then-sectors-eq0-clause-answer g c =
    no_sectors mounted_in _ (g.D.Device.sector_count c.args.device.now) (sym c.sectors-sectors.ensures ∙ c.if-sectors-eq0.true) (g.met.D.Device.whole c.args.device.now)

pub returns-clause-answer : goal.returns-clause-answer
returns-clause-answer g c =
    some_mounts _ c.sectors-sectors.result c.mount_sectors.result (omega (arith, c.if-sectors-eq0.false)) (rw c.sectors-sectors.ensures (g.met.D.Device.whole c.args.device.now)) c.mount_sectors.ensures.answer
