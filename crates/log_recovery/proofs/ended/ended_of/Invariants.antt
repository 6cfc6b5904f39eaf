use Rattle.std.proofs.Common.{◌≡◌, ℕ, take}
use Rattle.std.specs.Ordering.{nat_cmp}
use Rattle.std.specs.BTreeSet.{contains}
use Rattle.log_model.specs.Logs.{is_ended}
use Rattle.log_recovery.proofs.ended.ended_of.Given as goal

-- those that the entries so far end
abbrev pub invariant-loop-entry : goal.invariant-loop-entry
invariant-loop-entry l = (tx : ℕ) → contains nat_cmp l.ended tx ≡ is_ended (take l.entry-index l.entries) tx
