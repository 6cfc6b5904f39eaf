use Rattle.std.proofs.Common.{◌≡◌, false, drop}
use Rattle.std.specs.Prelude.{unwrap_or}
use Rattle.std.specs.Ordering.{nat_cmp}
use Rattle.std.specs.BTreeSet.{contains}
use Rattle.log_model.specs.Logs.{last_said}
use Rattle.log_recovery.specs.Groups.{lent}
use Rattle.log_recovery.proofs.walks.is_shadowed.Given as goal

-- what the entries that are left say, or else what was said so far, is what all say
abbrev pub invariant-loop-entry : goal.invariant-loop-entry
invariant-loop-entry l = unwrap_or (last_said (contains nat_cmp l.ended) (lent (drop l.entry-index l.entries)) l.block) l.shadowed ≡ unwrap_or (last_said (contains nat_cmp l.ended) (lent l.entries) l.block) false
