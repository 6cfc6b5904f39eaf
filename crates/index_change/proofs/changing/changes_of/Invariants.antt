use Rattle.std.proofs.Common.{◌≡◌}
use Rattle.std.specs.Prelude.{IfSome}
use Rattle.index_change.specs.Changing.{PutNodes, AllWereOld}
use Rattle.index_tree.specs.Places.{place_of}
use Rattle.index_change.proofs.changing.changes_of.Given as goal

abbrev pub invariant-loop-write : goal.invariant-loop-write
invariant-loop-write g l = record {
  put : PutNodes (place_of l.dir) l.yielded l.changes.items;
  old : IfSome (g.V.View.content l.initial.v) (λ c. AllWereOld c l.changes.items);
  same : g.V.View.content l.v ≡ g.V.View.content l.initial.v;
  kept : g.V.View.kept l.v ≡ g.V.View.kept l.initial.v;
  counted : g.V.View.faults l.v ≡ g.V.View.faults l.initial.v;
}
