use Rattle.std.proofs.Common.{◌≡◌, ◌-◌, ◌≤◌, length, take, IfSome}
use Rattle.stream_map.specs.Reads.{placed_bytes}
use Rattle.stream_map.proofs.filling.fill_placed.Given as goal

-- the bytes so far are those of the stream
abbrev pub invariant-loop-done : goal.invariant-loop-done
invariant-loop-done g l = record {
  bytes : IfSome (g.V.View.content l.fn.v) (λ c. take l.done l.out ≡ placed_bytes c l.per l.runs l.at l.done);
  inside : l.done ≤ length l.out;
  same : g.V.View.content l.v ≡ g.V.View.content l.fn.v;
  kept : g.V.View.kept l.v ≡ g.V.View.kept l.fn.v;
  counted : g.V.View.faults l.v ≡ g.V.View.faults l.fn.v;
}

abbrev pub decreases-loop-done : goal.decreases-loop-done
decreases-loop-done g l = length l.initial.out - l.done
