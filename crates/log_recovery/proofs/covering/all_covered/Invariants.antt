use Rattle.std.proofs.Common.{◌≡◌, ◌*◌, ℕ, false, length, get_or, take}
use Rattle.std.specs.List.{list_any}
use Rattle.log_reading.specs.disk_model.Sectors.{sectors}
use Rattle.log_model.specs.declared.entry.Entry.{Entry}
use Rattle.log_model.specs.Logs.{covers}
use Rattle.log_recovery.specs.Groups.{lent}
use Rattle.log_recovery.proofs.covering.all_covered.Given as goal

-- the bytes that the entries so far cover are marked
abbrev pub invariant-loop-entry : goal.invariant-loop-entry
invariant-loop-entry l = record {
  size : length l.marks ≡ 512 * sectors l.block.kind;
  marks : (i : ℕ) → get_or l.marks i false ≡ list_any (λ (x : Entry). covers l.block i x.act) (lent (take l.entry-index l.entries));
}
