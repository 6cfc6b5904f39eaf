use Rattle.std.proofs.Common.{◌≡◌, ◌+◌, ◌≤◌, length}
use Rattle.journal_model.specs.Pages.{records_of}
use Rattle.usn_record.specs.Checking.{page_check}
use Rattle.usn_record.proofs.Walked.{no_entries}
use Rattle.usn_record.proofs.page.check_page.Given as goal

abbrev pub invariant-loop-rest : goal.invariant-loop-rest
invariant-loop-rest l = record {
  inside : l.place + length l.rest ≤ l.at + length l.page;
  checked : no_entries (records_of l.rest l.place) ≡ page_check l.page l.at;
}

abbrev pub decreases-loop-rest : goal.decreases-loop-rest
decreases-loop-rest l = length l.rest
