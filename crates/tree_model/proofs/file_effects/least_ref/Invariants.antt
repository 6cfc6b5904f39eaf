use Rattle.std.proofs.Common.{◌≡◌, ◌-◌, length, drop}
use Rattle.tree_model.specs.Effects.{least_ref}
use Rattle.tree_model.proofs.file_effects.least_ref.Given as goal

-- the least of the last references
abbrev pub invariant-loop-i : goal.invariant-loop-i
invariant-loop-i l = l.least ≡ least_ref (drop (length l.refs - l.i) l.refs)
