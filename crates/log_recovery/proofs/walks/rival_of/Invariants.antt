use Rattle.std.proofs.Common.{◌≡◌, drop}
use Rattle.log_model.specs.Logs.{first_rival}
use Rattle.log_recovery.specs.Groups.{lent}
use Rattle.log_recovery.proofs.walks.rival_of.Given as goal

-- the answer of the entries that are left is that of all
abbrev pub invariant-loop-entry : goal.invariant-loop-entry
invariant-loop-entry l = first_rival (lent (drop l.entry-index l.entries)) l.block ≡ first_rival (lent l.entries) l.block
