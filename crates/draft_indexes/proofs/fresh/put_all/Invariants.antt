use Rattle.std.proofs.Common.{◌≡◌}
use Rattle.std.specs.Prelude.{IfSome}
use Rattle.block_view.specs.Views.{KeepsView}
use Rattle.draft_indexes.specs.Growing.{with_blocks}
use Rattle.draft_indexes.proofs.fresh.put_all.Given as goal

abbrev pub invariant-loop-i : goal.invariant-loop-i
invariant-loop-i g l = record {
  touched : IfSome (g.V.View.content l.initial.draft.view.now) (λ c. l.draft.touched.items ≡ with_blocks c l.per l.index l.body l.first l.i l.initial.draft.touched.items);
  kept : KeepsView g.V.View.content g.V.View.kept g.V.View.faults l.initial.draft.view.now l.draft.view.now;
  counted : g.V.View.faults l.draft.view.now ≡ g.V.View.faults l.initial.draft.view.now;
  reference : l.draft.view.ghost_name ≡ l.initial.draft.view.ghost_name;
}
