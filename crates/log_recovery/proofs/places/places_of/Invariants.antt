use Rattle.std.proofs.Common.{◌≡◌, ◌-◌, length, drop}
use Rattle.std.specs.BTreeMap.{get}
use Rattle.log_reading.specs.disk_model.declared.block.Block.{Block}
use Rattle.log_recovery.specs.Places.{key_of, key_order, place_from}
use Rattle.log_recovery.proofs.places.places_of.Given as goal

-- the places of those from the end on
abbrev pub invariant-loop-done : goal.invariant-loop-done
invariant-loop-done l = (b : Block) → get key_order l.places (key_of b) ≡ place_from (length l.bodies - l.done) (drop (length l.bodies - l.done) l.bodies) b
