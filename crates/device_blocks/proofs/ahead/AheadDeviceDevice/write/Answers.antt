use Rattle.device_blocks.proofs.Pieces.{held_behind}
use Rattle.device_blocks.proofs.ahead.AheadDeviceDevice.write.Goals as goal

pub invariant_of-self : goal.invariant_of-self
invariant_of-self g c =
    let held = c.empty.new.self in
    record {
      sized = held.sized;
      filled = held_behind held.ahead.piece held.room.items c.args.bytes.now c.args.first c.write.result _ _ c.empty.ensures.apart c.write.ensures.written c.write.ensures.torn held.filled;
    }
