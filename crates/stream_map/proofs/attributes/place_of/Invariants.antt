use Rattle.std.proofs.Common.{◌≡◌, ◌++◌, take, drop}
use Rattle.state_model.specs.Streams.{with_attribute}
use Rattle.stream_map.specs.Attributes.{behind}
use Rattle.stream_map.proofs.attributes.place_of.Given as goal

-- the attribute stands behind those that were passed
abbrev pub invariant-loop-i : goal.invariant-loop-i
invariant-loop-i l = with_attribute l.attr (behind l.attributes) ≡ take l.i (behind l.attributes) ++ with_attribute l.attr (drop l.i (behind l.attributes))
