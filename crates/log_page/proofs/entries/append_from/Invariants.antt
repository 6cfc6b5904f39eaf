use Rattle.std.proofs.Common.{◌≡◌, ◌+◌, ◌-◌, ◌*◌, ◌≤◌, length}
use Rattle.std.specs.Prelude.{All}
use Rattle.log_record.specs.log_model.Entries.{FitsEntry}
use Rattle.log_page.specs.RecordPages.{entries_from}
use Rattle.log_page.proofs.Readings.{with_front}
use Rattle.log_page.proofs.entries.append_from.Given as goal

abbrev pub invariant-places : goal.invariant-places
invariant-places l = record {
  place : 0x40 ≤ l.at;
  near : l.at ≤ 4096;
  grown : length l.initial.entries.items ≤ length l.entries.items;
  counted : 0x58 * (length l.entries.items - length l.initial.entries.items) + l.from ≤ l.at;
  read : with_front l.entries.items (entries_from (length l.page - (length l.entries.items - length l.initial.entries.items)) l.page l.first l.at) ≡ with_front l.initial.entries.items (entries_from (length l.page) l.page l.first l.from);
  fits : All FitsEntry l.initial.entries.items → All FitsEntry l.entries.items;
}

abbrev pub decreases-places : goal.decreases-places
decreases-places l = 4096 - l.at
