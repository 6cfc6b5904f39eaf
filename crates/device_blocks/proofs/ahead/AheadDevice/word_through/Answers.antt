use Rattle.std.proofs.Common.{◌≡◌, ◌+◌, ◌*◌, ◌/◌, ◌%◌, ◌≤◌, length, refl, arith}
use Rattle.disk_model.specs.Sectors.{sectors}
use Rattle.device_view.proofs.SectorsRead.{part_of_piece}
use Rattle.device_blocks.proofs.Told.{told_by}
use Rattle.device_blocks.proofs.ahead.AheadDevice.word_through.Goals as goal

pub returns-then-holds-clause-word : goal.returns-then-holds-clause-word
returns-then-holds-clause-word g c =
    let known = g.D.Device.gives c.args.self.now.device in
    let raw = length c.args.raw.now in
    let count : raw / 512 ≡ sectors c.args.block.kind = omega (arith, c.requires) in
    let within : c.args.block.first % 128 + sectors c.args.block.kind ≤ 128 = c.holds.ensures.within c.if-holds.true in
    told_by known c.word_in.result c.args.block c.copy_part.new.out (raw / 512)
    (part_of_piece known known (g.D.Device.sector_count c.args.self.now.device) c.args.block.first raw c.args.self.now.room.items c.deref.result.now c.copy_part.new.out
    (g.met.D.Device.whole c.args.self.now.device) refl (c.args.self.now.filled (c.args.block.first / 128) (c.holds.ensures.piece c.if-holds.true)) c.deref.ensures.value c.copy_part.ensures (omega (arith, c.requires)) (omega (arith, count, within)))
    count
    c.word_in.ensures.word
