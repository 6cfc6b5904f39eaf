use Rattle.std.proofs.Common.{◌≡◌, All, take}
use Rattle.std.specs.Prelude.{IfSome}
use Rattle.log_reading.specs.block_view.Views.{KeepsView}
use Rattle.log_recovery.specs.Recovering.{IsSized}
use Rattle.log_recovery.specs.Finding.{Found}
use Rattle.log_recovery.specs.Places.{HasMet}
use Rattle.log_recovery.proofs.recovering.recover_placed.Given as goal

-- what is found by the entries so far
abbrev pub invariant-loop-index : goal.invariant-loop-index
invariant-loop-index g l = record {
  found : IfSome (g.V.View.content l.initial.view) (λ c. Found c l.entries l.index l.bodies.items);
  met : HasMet l.met (take l.index l.entries);
  bodies : All IsSized l.bodies.items;
  kept : KeepsView g.V.View.content g.V.View.kept g.V.View.faults l.initial.view l.view;
  counted : g.V.View.faults l.view ≡ g.V.View.faults l.initial.view;
}
