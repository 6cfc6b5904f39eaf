use Rattle.std.proofs.Common.{◌≡◌, ◌+◌, ◌≤◌, length}
use Rattle.journal_model.specs.Pages.{records_of, page_records}
use Rattle.usn_record.proofs.Walked.{with_front}
use Rattle.usn_record.proofs.page.read_page.Given as goal

abbrev pub invariant-loop-rest : goal.invariant-loop-rest
invariant-loop-rest l = record {
  inside : l.place + length l.rest ≤ l.at + length l.page;
  read : with_front l.entries (records_of l.rest l.place) ≡ page_records l.page l.at;
}

abbrev pub decreases-loop-rest : goal.decreases-loop-rest
decreases-loop-rest l = length l.rest
