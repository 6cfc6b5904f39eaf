use Rattle.std.proofs.Common.{◌≡◌, drop}
use Rattle.std.specs.Prelude.{IfSome}
use Rattle.block_view.specs.Views.{KeepsView}
use Rattle.file_makes.proofs.Joins.{LeadsTo}
use Rattle.file_makes.proofs.nodes.put_nodes.Given as goal

-- the changes that are left lead to what all of them put
abbrev pub invariant-loop-change : goal.invariant-loop-change
invariant-loop-change g l = record {
  leads : IfSome (g.V.View.content l.initial.draft.view.now) (λ c. LeadsTo c l.changes (drop l.change-index l.changes) l.initial.draft.touched.items l.draft.touched.items);
  kept : KeepsView g.V.View.content g.V.View.kept g.V.View.faults l.initial.draft.view.now l.draft.view.now;
  counted : g.V.View.faults l.draft.view.now ≡ g.V.View.faults l.initial.draft.view.now;
  reference : l.draft.view.ghost_name ≡ l.initial.draft.view.ghost_name;
}
