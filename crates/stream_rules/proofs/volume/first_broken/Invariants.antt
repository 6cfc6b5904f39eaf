use Rattle.std.proofs.Common.{◌≡◌, ◌-◌, not, find}
use Rattle.std.specs.Prelude.{IfSome}
use Rattle.std.specs.List.{range_with_len}
use Rattle.volume_model.specs.Sizes.{keeps_sizes}
use Rattle.block_view.specs.Views.{KeepsView}
use Rattle.stream_rules.specs.Volumes.{TablePlace, volume_with}
use Rattle.stream_rules.proofs.volume.first_broken.Given as goal

-- the first that fails is the first of those that are left
abbrev pub invariant-loop-number : goal.invariant-loop-number
invariant-loop-number g l = record {
  left : (e : TablePlace) → IfSome (g.V.View.content l.initial.view) (λ c. find (λ n. not (keeps_sizes c (volume_with l.per l.clusters e l.files) n)) (range_with_len 0 l.count) ≡ find (λ n. not (keeps_sizes c (volume_with l.per l.clusters e l.files) n)) (range_with_len l.number (l.count - l.number)));
  kept : KeepsView g.V.View.content g.V.View.kept g.V.View.faults l.initial.view l.view;
  counted : g.V.View.faults l.view ≡ g.V.View.faults l.initial.view;
}
