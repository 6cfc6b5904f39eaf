use Rattle.std.proofs.Common.{◌≡◌, ◌+◌, ◌-◌, ◌≤◌, ◌++◌, Bool, List, not, count_by}
use Rattle.space_model.specs.Choosing.{chosen_anywhere, with_runs}
use Rattle.plan_space.specs.Choices.{TakesFirst}
use Rattle.plan_space.proofs.choosing.take_anywhere.Given as goal

abbrev pub invariant-loop-taken : goal.invariant-loop-taken
invariant-loop-taken g l = record {
  few : l.taken ≤ l.wanted;
  room : l.wanted - l.taken ≤ count_by not (g.B.FreeBits.bits l.bits);
  runs : l.runs.items ++ chosen_anywhere (l.wanted - l.taken) (g.B.FreeBits.bits l.bits) (l.vcn + l.taken) (l.wanted - l.taken) ≡ l.initial.runs.items ++ chosen_anywhere l.wanted (g.B.FreeBits.bits l.initial.bits) l.vcn l.wanted;
  bits : with_runs (chosen_anywhere (l.wanted - l.taken) (g.B.FreeBits.bits l.bits) (l.vcn + l.taken) (l.wanted - l.taken)) (g.B.FreeBits.bits l.bits) ≡ with_runs (chosen_anywhere l.wanted (g.B.FreeBits.bits l.initial.bits) l.vcn l.wanted) (g.B.FreeBits.bits l.initial.bits);
  first : (last : List Bool) → TakesFirst (chosen_anywhere (l.wanted - l.taken) (g.B.FreeBits.bits l.bits) (l.vcn + l.taken) (l.wanted - l.taken)) (g.B.FreeBits.bits l.bits) last → TakesFirst (chosen_anywhere l.wanted (g.B.FreeBits.bits l.initial.bits) l.vcn l.wanted) (g.B.FreeBits.bits l.initial.bits) last;
}

abbrev pub decreases-loop-taken : goal.decreases-loop-taken
decreases-loop-taken g l = l.wanted - l.taken
