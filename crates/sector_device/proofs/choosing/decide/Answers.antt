use Rattle.sector_device.proofs.Leaving.{decides_old}
use Rattle.sector_device.proofs.choosing.decide.Goals as goal

pub returns-else-is_taken : goal.returns-else-is_taken
returns-else-is_taken c = decides_old c.args.sector c.args.old.now c.args.image.now c.write_over.new.bytes c.args.decided.now c.requires.whole c.requires.within c.if-decided-sector.false c.write_over.ensures
