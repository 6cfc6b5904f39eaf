use Rattle.std.proofs.Common.{◌≡◌, ℕ, ◌≤◌, ◌-◌}
use Rattle.std.specs.Prelude.{IfSome}
use Rattle.std.specs.List.{list_any, range_with_len}
use Rattle.state_model.specs.Streams.{block_at}
use Rattle.volume_model.specs.Sizes.{is_torn_at}
use Rattle.stream_map.specs.record_model.Runs.{AreSmall}
use Rattle.block_view.specs.Views.{KeepsView}
use Rattle.stream_rules.proofs.torn.has_torn_below.Given as goal

-- one is torn where one of those that are left is
abbrev pub invariant-loop-n : goal.invariant-loop-n
invariant-loop-n g l = record {
  left : IfSome (g.V.View.content l.initial.view) (λ c. list_any (λ n. is_torn_at c (block_at l.per l.runs l.kind n)) (range_with_len 0 l.count) ≡ list_any (λ n. is_torn_at c (block_at l.per l.runs l.kind n)) (range_with_len l.n (l.count - l.n)));
  small : AreSmall l.rest;
  same : (k : ℕ) → l.n ≤ k → block_at l.per l.rest l.kind k ≡ block_at l.per l.runs l.kind k;
  kept : KeepsView g.V.View.content g.V.View.kept g.V.View.faults l.initial.view l.view;
  counted : g.V.View.faults l.view ≡ g.V.View.faults l.initial.view;
}
