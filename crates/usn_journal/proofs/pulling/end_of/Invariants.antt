use Rattle.std.proofs.Common.{◌≡◌, drop}
use Rattle.usn_journal.specs.Pulls.{end_of}
use Rattle.usn_journal.proofs.pulling.end_of.Given as goal

abbrev pub invariant-loop-entry : goal.invariant-loop-entry
invariant-loop-entry l = end_of l.end (drop l.entry-index l.entries) ≡ end_of l.next l.entries
