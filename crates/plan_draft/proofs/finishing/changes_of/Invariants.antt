use Rattle.std.proofs.Common.{◌≡◌, take}
use Rattle.plan_draft.specs.Finishing.{changes_of}
use Rattle.plan_draft.proofs.finishing.changes_of.Given as goal

-- the changes of those that were passed
abbrev pub invariant-loop-item : goal.invariant-loop-item
invariant-loop-item l = l.changes.items ≡ changes_of (take l.item-index l.touched)
