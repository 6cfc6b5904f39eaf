use Rattle.std.proofs.Common.{◌≡◌, length}
use Rattle.std.specs.Cmp.Lexicographic.{slice_cmp}
use Rattle.std.specs.Ordering.{nat_cmp}
use Rattle.file_tree.specs.Names.{upper_units}
use Rattle.file_tree.proofs.ordering.compare_upper.Given as goal

-- the rests compare as the names do
abbrev pub invariant-loop-unit : goal.invariant-loop-unit
invariant-loop-unit l = slice_cmp nat_cmp (upper_units l.upper l.a) (upper_units l.upper l.b) ≡ slice_cmp nat_cmp (upper_units l.upper l.fn.a) (upper_units l.upper l.fn.b)

abbrev pub decreases-loop-unit : goal.decreases-loop-unit
decreases-loop-unit l = length l.a
