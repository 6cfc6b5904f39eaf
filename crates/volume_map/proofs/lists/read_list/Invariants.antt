use Rattle.std.proofs.Common.{◌≡◌, ◌≤◌, ◌-◌, suc, if◌then◌else◌}
use Rattle.std.specs.Prelude.{IfSome}
use Rattle.state_model.specs.Streams.{stream_bytes, real_size}
use Rattle.volume_map.specs.Lists.{ReadUpTo}
use Rattle.stream_map.specs.block_view.Views.{KeepsView}
use Rattle.volume_map.proofs.lists.read_list.Given as goal

abbrev pub invariant-loop-more : goal.invariant-loop-more
invariant-loop-more g l = record {
  up_to : IfSome (g.V.View.content l.initial.view) (λ c. ReadUpTo (stream_bytes c l.per l.stream) l.at l.list l.more);
  inside : l.at ≤ real_size l.stream;
  kept : KeepsView g.V.View.content g.V.View.kept g.V.View.faults l.initial.view l.view;
  counted : g.V.View.faults l.view ≡ g.V.View.faults l.initial.view;
}

abbrev pub decreases-loop-more : goal.decreases-loop-more
decreases-loop-more g l = if l.more then suc (real_size l.stream - l.at) else 0
