use Rattle.std.proofs.Common.{ℕ, ◌<◌}
use Rattle.same_names.proofs.Alike.{AlikeAt}
use Rattle.same_names.proofs.keeping.have_same_names.Given as goal

abbrev pub invariant-loop-number : goal.invariant-loop-number
invariant-loop-number l = (n : ℕ) → n < l.number → AlikeAt l.records l.others n
