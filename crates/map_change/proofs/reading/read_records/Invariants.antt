use Rattle.std.proofs.Common.{◌≡◌, take}
use Rattle.std.specs.Prelude.{IfSome}
use Rattle.volume_map.specs.block_view.Views.{KeepsView}
use Rattle.map_change.specs.Reading.{AreRead}
use Rattle.map_change.proofs.reading.read_records.Given as goal

abbrev pub invariant-loop-number : goal.invariant-loop-number
invariant-loop-number g l = record {
  read : IfSome (g.V.View.content l.initial.view) (λ d. AreRead d l.per l.extents (take l.number-index l.numbers) l.records.items);
  kept : KeepsView g.V.View.content g.V.View.kept g.V.View.faults l.initial.view l.view;
  counted : g.V.View.faults l.view ≡ g.V.View.faults l.initial.view;
}
