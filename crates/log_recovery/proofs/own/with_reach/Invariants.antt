use Rattle.std.proofs.Common.{◌≡◌, ◌++◌, drop}
use Rattle.log_recovery.specs.Own.{with_reach}
use Rattle.log_recovery.proofs.own.with_reach.Given as goal

-- what was gathered, and what is to be gathered of the stretches that are left
abbrev pub invariant-loop-stretch : goal.invariant-loop-stretch
invariant-loop-stretch l = l.all.items ++ with_reach l.most (drop l.stretch-index l.stretches) ≡ with_reach 0 l.stretches
