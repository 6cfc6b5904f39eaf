use Rattle.std.proofs.Common.{length, refl, arith}
use Rattle.device_view.proofs.SectorsRead.{part_of_piece}
use Rattle.device_view.proofs.ahead.ReadAhead.fill.Goals as goal

pub returns-clause-bytes : goal.returns-clause-bytes
returns-clause-bytes g c =
    part_of_piece _ _ (g.D.Device.sector_count c.args.device.now) c.args.first (length c.args.raw.now) c.load.new.room _ c.copy_part.new.out
    (g.met.D.Device.whole c.args.device.now) c.in_ok-load.ensures.kept.same (c.in_ok-load.ensures.held _ c.in_ok-load.ensures.loaded) refl c.copy_part.ensures c.requires.whole (omega arith)
