use Rattle.std.proofs.Common.{◌∙◌, sym, arith}
use Rattle.image_open.proofs.Disks.{no_sectors, some_sectors}
use Rattle.image_open.proofs.volume.with_view.Goals as goal

pub returns-then-sectors-eq0-clause-answer : goal.returns-then-sectors-eq0-clause-answer
returns-then-sectors-eq0-clause-answer g c =
    no_sectors (g.R.ViewReader.meant c.args.reader.now) _ (g.D.Device.sector_count c.args.device.now) (sym c.sectors-sectors.ensures ∙ c.if-sectors-eq0.true) (g.met.D.Device.whole c.args.device.now)

pub returns-clause-answer : goal.returns-clause-answer
returns-clause-answer g c =
    some_sectors (g.R.ViewReader.meant c.args.reader.now) _ g.R.ViewReader.shown c.sectors-sectors.result c.read_device.result (omega (arith, c.if-sectors-eq0.false)) (rw c.sectors-sectors.ensures (g.met.D.Device.whole c.args.device.now)) c.read_device.ensures.answer
