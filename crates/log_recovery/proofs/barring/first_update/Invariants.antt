use Rattle.std.proofs.Common.{◌≡◌, drop}
use Rattle.std.specs.BTreeSet.{contains}
use Rattle.log_recovery.specs.Places.{key_of, key_order}
use Rattle.log_recovery.specs.Writing.{first_update}
use Rattle.log_recovery.proofs.barring.first_update.Given as goal

-- the answer of the entries that are left is that of all
abbrev pub invariant-loop-entry : goal.invariant-loop-entry
invariant-loop-entry l = first_update (λ b. contains key_order l.met (key_of b)) (drop l.entry-index l.entries) ≡ first_update (λ b. contains key_order l.met (key_of b)) l.entries
