use Rattle.std.proofs.Common.{◌∙◌, sym}
use Rattle.directory_growth.proofs.Room.{some_bits}
use Rattle.directory_growth.proofs.growing.streams_after.Goals as goal

pub unreachable-requires-in-None : goal.unreachable-requires-in-None
unreachable-requires-in-None g c =
    let some = some_bits c.args.file.now c.requires.has.bits in
    absurd (let none = sym some.1 ∙ c.requires.bitmap ∙ c.in-None.is in cc)
