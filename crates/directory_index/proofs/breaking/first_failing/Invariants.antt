use Rattle.std.proofs.Common.{◌≡◌, length}
use Rattle.std.specs.Prelude.{IfSome}
use Rattle.index_tree.specs.block_view.Views.{KeepsView}
use Rattle.volume_model.specs.Indexes.{keeps_index}
use Rattle.directory_index.specs.Loaded.{volume_with}
use Rattle.directory_index.proofs.Numbers.{FailsFrom}
use Rattle.directory_index.proofs.breaking.first_failing.Given as goal

-- the first that fails is the first of those that are left
abbrev pub invariant-loop-number : goal.invariant-loop-number
invariant-loop-number g l = record {
  fails : IfSome (g.V.View.content l.initial.view) (FailsFrom (λ c. keeps_index c (volume_with l.per l.files) l.up) l.number (length l.files));
  kept : KeepsView g.V.View.content g.V.View.kept g.V.View.faults l.initial.view l.view;
  counted : g.V.View.faults l.view ≡ g.V.View.faults l.initial.view;
}
