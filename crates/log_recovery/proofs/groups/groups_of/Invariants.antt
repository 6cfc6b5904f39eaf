use Rattle.std.proofs.Common.{take}
use Rattle.log_recovery.specs.Groups.{HasGroups}
use Rattle.log_recovery.proofs.groups.groups_of.Given as goal

-- the groups of the entries so far
abbrev pub invariant-loop-entry : goal.invariant-loop-entry
invariant-loop-entry l = HasGroups l.groups (take l.entry-index l.entries)
