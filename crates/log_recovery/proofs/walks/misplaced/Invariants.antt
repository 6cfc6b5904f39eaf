use Rattle.std.proofs.Common.{◌≡◌, drop}
use Rattle.log_model.specs.Logs.{first_misplaced}
use Rattle.log_recovery.proofs.walks.misplaced.Given as goal

-- the answer of the entries that are left is that of all
abbrev pub invariant-loop-entry : goal.invariant-loop-entry
invariant-loop-entry l = first_misplaced (drop l.entry-index l.entries) l.clusters ≡ first_misplaced l.entries l.clusters
