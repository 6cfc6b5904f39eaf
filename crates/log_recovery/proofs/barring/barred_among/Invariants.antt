use Rattle.std.proofs.Common.{◌≡◌, Bool, take}
use Rattle.std.specs.Prelude.{IfSome}
use Rattle.log_reading.specs.block_view.Views.{KeepsView}
use Rattle.log_reading.specs.disk_model.declared.block.Block.{Block}
use Rattle.log_recovery.specs.Own.{StandFor}
use Rattle.log_recovery.specs.Writing.{is_barred_among, HasBarred}
use Rattle.log_recovery.proofs.barring.barred_among.Given as goal

-- those that are barred among the blocks so far
abbrev pub invariant-loop-made : goal.invariant-loop-made
invariant-loop-made g l = record {
  barred : (such : Block → Bool) → StandFor l.own such → IfSome (g.V.View.content l.initial.view) (λ c. HasBarred (is_barred_among such c (take l.made-index l.bodies)) l.met);
  kept : KeepsView g.V.View.content g.V.View.kept g.V.View.faults l.initial.view l.view;
  counted : g.V.View.faults l.view ≡ g.V.View.faults l.initial.view;
}
