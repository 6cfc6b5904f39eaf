use Rattle.std.proofs.Common.{◌≡◌, take}
use Rattle.index_change.proofs.holding.copy_of.Given as goal

abbrev pub invariant-loop-entry : goal.invariant-loop-entry
invariant-loop-entry l = l.copy ≡ take l.entry-index l.entries
