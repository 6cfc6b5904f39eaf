use Rattle.std.proofs.Common.{◌≡◌, ◌++◌, replicate}
use Rattle.tree_model.proofs.file_bytes.push_equal.Given as goal

abbrev pub invariant-loop-i : goal.invariant-loop-i
invariant-loop-i l = l.list.items ≡ l.initial.list.items ++ replicate l.i l.byte
