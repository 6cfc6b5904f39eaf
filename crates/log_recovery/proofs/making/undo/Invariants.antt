use Rattle.std.proofs.Common.{◌≡◌, ◌-◌, ◌*◌, length, take}
use Rattle.log_reading.specs.disk_model.Sectors.{sectors}
use Rattle.log_reading.specs.disk_model.Writes.{bytes_after}
use Rattle.log_model.specs.Logs.{undos_back}
use Rattle.log_recovery.specs.Groups.{lent}
use Rattle.log_recovery.proofs.making.undo.Given as goal

-- the entries that are left undo, of what is there, what all undo of what was there
abbrev pub invariant-loop-done : goal.invariant-loop-done
invariant-loop-done l = record {
  rest : bytes_after (undos_back (lent (take (length l.entries - l.done) l.entries))) l.block l.out.bytes ≡ bytes_after (undos_back (lent l.entries)) l.block l.fn.out.bytes;
  torn : l.out.torn ≡ l.fn.out.torn;
  size : length l.out.bytes ≡ 512 * sectors l.block.kind;
}
