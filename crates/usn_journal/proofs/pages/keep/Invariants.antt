use Rattle.std.proofs.Common.{◌≡◌, ◌++◌, take}
use Rattle.usn_journal.specs.Pulls.{from_on}
use Rattle.usn_journal.proofs.pages.keep.Given as goal

abbrev pub invariant-loop-entry : goal.invariant-loop-entry
invariant-loop-entry l = l.found.items ≡ l.initial.found.items ++ from_on l.from (take l.entry-index l.entries)
