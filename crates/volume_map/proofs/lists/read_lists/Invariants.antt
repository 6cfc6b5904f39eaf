use Rattle.std.proofs.Common.{◌≡◌, length, map}
use Rattle.std.specs.Prelude.{IfSome}
use Rattle.state_model.specs.Loads.{table_in}
use Rattle.volume_map.specs.Lists.{read_of, lists_of}
use Rattle.stream_map.specs.block_view.Views.{KeepsView}
use Rattle.volume_map.proofs.lists.read_lists.Given as goal

abbrev pub invariant-loop-number : goal.invariant-loop-number
invariant-loop-number g l = record {
  read : IfSome (g.V.View.content l.initial.view) (λ c. map read_of l.lists.items ≡ lists_of c l.per (table_in l.records) l.number);
  len : length l.lists.items ≡ l.number;
  kept : KeepsView g.V.View.content g.V.View.kept g.V.View.faults l.initial.view l.view;
  counted : g.V.View.faults l.view ≡ g.V.View.faults l.initial.view;
}
