use Rattle.std.proofs.Common.{◌≡◌, ◌-◌, length}
use Rattle.journal_model.specs.Pages.{ends_in_record}
use Rattle.usn_record.proofs.page.ends_in_record.Given as goal

abbrev pub invariant-loop : goal.invariant-loop
invariant-loop l = ends_in_record (length l.bytes) l.bytes ≡ ends_in_record (length l.bytes - l.counter) l.rest
