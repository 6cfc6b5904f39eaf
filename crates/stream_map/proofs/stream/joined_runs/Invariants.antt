use Rattle.std.proofs.Common.{◌≡◌, ◌++◌, drop}
use Rattle.std.specs.List.{flat_map}
use Rattle.state_model.specs.Streams.{attribute_runs}
use Rattle.stream_map.specs.Attributes.{behind}
use Rattle.stream_map.proofs.stream.joined_runs.Given as goal

-- the runs so far and those of the attributes that are left are all
abbrev pub invariant-loop-attribute : goal.invariant-loop-attribute
invariant-loop-attribute l = l.runs ++ flat_map attribute_runs (drop l.attribute-index (behind l.attributes)) ≡ flat_map attribute_runs (behind l.attributes)
