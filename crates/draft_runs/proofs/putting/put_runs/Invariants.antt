use Rattle.std.proofs.Common.{◌≡◌, drop}
use Rattle.std.specs.Prelude.{IfSome}
use Rattle.draft_bits.specs.block_view.Views.{KeepsView}
use Rattle.draft_runs.proofs.Steps.{Leads}
use Rattle.draft_runs.proofs.putting.put_runs.Given as goal

-- what is put of the runs that are left leads to what is put of all
abbrev pub invariant-loop-run : goal.invariant-loop-run
invariant-loop-run g l = record {
  leads : IfSome (g.V.View.content l.initial.draft.view.now) (λ c. Leads c l.per l.bitmap l.value l.runs (drop l.run-index l.runs) l.initial.draft.touched.items l.draft.touched.items);
  kept : KeepsView g.V.View.content g.V.View.kept g.V.View.faults l.initial.draft.view.now l.draft.view.now;
  counted : g.V.View.faults l.draft.view.now ≡ g.V.View.faults l.initial.draft.view.now;
  reference : l.draft.view.ghost_name ≡ l.initial.draft.view.ghost_name;
}
