use Rattle.std.proofs.Common.{◌≡◌}
use Rattle.tree_model.specs.Refusals.{is_in_system}
use Rattle.tree_model.proofs.file_rows.is_in_system.Given as goal

abbrev pub invariant-loop-left : goal.invariant-loop-left
invariant-loop-left l = is_in_system l.links l.left l.number ≡ is_in_system l.links l.initial.most l.initial.number

abbrev pub decreases-loop-left : goal.decreases-loop-left
decreases-loop-left l = l.left
