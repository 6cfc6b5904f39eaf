use Rattle.std.proofs.Common.{◌≡◌, ◌/◌, ◌<◌, ◌≤◌, ◌^◌, All}
use Rattle.file_tree.specs.declared.journal.Usn.{Usn}
use Rattle.block_view.specs.Views.{KeepsView}
use Rattle.usn_journal.specs.Pulls.{usn_end}
use Rattle.usn_journal.proofs.Left.{KnownLeft}
use Rattle.usn_journal.proofs.pages.read_pages.Given as goal

abbrev pub invariant-loop-number : goal.invariant-loop-number
invariant-loop-number g l = record {
  from : l.from / 4096 ≤ l.number;
  left : KnownLeft (g.V.View.content l.initial.view) l.per l.extents l.from l.number l.found.items;
  ends : All (λ (entry : Usn). usn_end entry < 2 ^ 64) l.found.items;
  kept : KeepsView g.V.View.content g.V.View.kept g.V.View.faults l.initial.view l.view;
  counted : g.V.View.faults l.view ≡ g.V.View.faults l.initial.view;
}
