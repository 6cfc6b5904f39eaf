use Rattle.std.proofs.Common.{◌≡◌, ◌*◌, length, drop}
use Rattle.std.specs.Ordering.{nat_cmp}
use Rattle.std.specs.BTreeSet.{contains}
use Rattle.log_reading.specs.disk_model.Sectors.{sectors}
use Rattle.log_reading.specs.disk_model.Writes.{bytes_after}
use Rattle.log_model.specs.Logs.{redos}
use Rattle.log_recovery.specs.Groups.{lent}
use Rattle.log_recovery.proofs.making.redo.Given as goal

-- the entries that are left redo, of what is there, what all redo of what was there
abbrev pub invariant-loop-entry : goal.invariant-loop-entry
invariant-loop-entry l = record {
  rest : bytes_after (redos (contains nat_cmp l.ended) (lent (drop l.entry-index l.entries))) l.block l.out.bytes ≡ bytes_after (redos (contains nat_cmp l.ended) (lent l.entries)) l.block l.fn.out.bytes;
  torn : l.out.torn ≡ l.fn.out.torn;
  size : length l.out.bytes ≡ 512 * sectors l.block.kind;
}
