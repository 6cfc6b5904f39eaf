use Rattle.std.proofs.Common.{◌≡◌, ◌-◌, ◌≤◌}
use Rattle.std.specs.Prelude.{◌^◌, IfSome}
use Rattle.log_page.specs.LiveLogs.{greatest_lsn}
use Rattle.block_view.specs.Views.{KeepsView}
use Rattle.log_reading.specs.LogPages.{page_in}
use Rattle.log_reading.proofs.Said.{left_of}
use Rattle.log_reading.proofs.laps.greatest_lsn.Given as goal

-- what was said so far and the pages that are left make the greatest one
abbrev pub invariant-loop-next : goal.invariant-loop-next
invariant-loop-next g l = record {
  small : l.page ≤ 2 ^ 52;
  left : IfSome (g.V.View.content l.initial.view) (λ c. left_of l.place l.page l.greatest c ≡ greatest_lsn l.place.pages (page_in c l.place) l.fn.chosen);
  kept : KeepsView g.V.View.content g.V.View.kept g.V.View.faults l.initial.view l.view;
  counted : g.V.View.faults l.view ≡ g.V.View.faults l.initial.view;
}

abbrev pub decreases-loop-next : goal.decreases-loop-next
decreases-loop-next g l = l.place.pages - l.page
