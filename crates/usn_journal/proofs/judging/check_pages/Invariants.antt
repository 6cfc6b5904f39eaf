use Rattle.std.proofs.Common.{◌≡◌, ◌/◌, ◌≤◌}
use Rattle.block_view.specs.Views.{KeepsView}
use Rattle.usn_journal.proofs.PagesLeft.{IsLeft}
use Rattle.usn_journal.proofs.judging.check_pages.Given as goal

abbrev pub invariant-loop-number : goal.invariant-loop-number
invariant-loop-number g l = record {
  from : l.first / 4096 ≤ l.number;
  left : IsLeft (g.V.View.content l.initial.view) l.per l.extents l.first l.number;
  kept : KeepsView g.V.View.content g.V.View.kept g.V.View.faults l.initial.view l.view;
  counted : g.V.View.faults l.view ≡ g.V.View.faults l.initial.view;
}
