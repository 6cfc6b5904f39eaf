use Rattle.std.specs.Prelude.{IfSome, ◌≡◌}
use Rattle.state_model.specs.Loads.{table_slot}
use Rattle.volume_links.specs.Scans.{ScannedBelow}
use Rattle.block_view.specs.Views.{KeepsView}
use Rattle.volume_links.proofs.scanning.scan_table.Given as goal

abbrev pub invariant-loop-number : goal.invariant-loop-number
invariant-loop-number g l = record {
  scanned : IfSome (g.V.View.content l.initial.view) (λ c. ScannedBelow l.per l.cut (table_slot c l.per l.extents) l.number l.scan);
  kept : KeepsView g.V.View.content g.V.View.kept g.V.View.faults l.initial.view l.view;
  counted : g.V.View.faults l.view ≡ g.V.View.faults l.initial.view;
}
