use Rattle.std.proofs.Common.{◌≡◌, ◌+◌, ◌-◌, ◌*◌, ◌++◌}
use Rattle.std.specs.Prelude.{IfSome, length}
use Rattle.disk_model.specs.Sectors.{raw_from}
use Rattle.block_view.specs.Views.{KeepsView}
use Rattle.log_reading.specs.LogPages.{log_bytes}
use Rattle.log_reading.proofs.pages.read_page.Given as goal

-- what was read, and the sectors that are left, are the page
abbrev pub invariant-loop-i : goal.invariant-loop-i
invariant-loop-i g l = record {
  read : IfSome (g.V.View.content l.initial.view) (λ c. l.page.items ++ raw_from (log_bytes c l.place) (8 * l.n + l.i) (8 - l.i) ≡ raw_from (log_bytes c l.place) (8 * l.n) 8);
  size : length l.page.items ≡ 512 * l.i;
  kept : KeepsView g.V.View.content g.V.View.kept g.V.View.faults l.initial.view l.view;
  counted : g.V.View.faults l.view ≡ g.V.View.faults l.initial.view;
}
