use Rattle.std.specs.Prelude.{IfSome, ◌≡◌, length}
use Rattle.state_model.specs.Loads.{table_slot}
use Rattle.volume_map.specs.Heads.{table_heads}
use Rattle.volume_map.specs.Stages.{WalkedBelow}
use Rattle.stream_map.specs.block_view.Views.{KeepsView}
use Rattle.volume_map.proofs.walk.walk_table.Given as goal

abbrev pub invariant-loop-number : goal.invariant-loop-number
invariant-loop-number g l = record {
  walked : IfSome (g.V.View.content l.initial.view) (λ c. WalkedBelow (table_slot c l.per l.extents) l.number l.walk);
  heads : IfSome (g.V.View.content l.initial.view) (λ c. l.walk.heads.items ≡ table_heads c l.per l.extents l.number);
  lengths : length l.walk.rules.items ≡ length l.walk.records.items;
  kept : KeepsView g.V.View.content g.V.View.kept g.V.View.faults l.initial.view l.view;
  counted : g.V.View.faults l.view ≡ g.V.View.faults l.initial.view;
}
