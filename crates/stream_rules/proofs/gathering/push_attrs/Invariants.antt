use Rattle.std.proofs.Common.{◌≡◌, ◌++◌, drop}
use Rattle.std.specs.List.{flat_map}
use Rattle.state_model.specs.Streams.{attribute_runs}
use Rattle.stream_rules.proofs.gathering.push_attrs.Given as goal

-- the runs so far and those of the attributes that are left are all
abbrev pub invariant-loop-attr : goal.invariant-loop-attr
invariant-loop-attr l = l.out ++ flat_map attribute_runs (drop l.attr-index l.attrs) ≡ l.initial.out ++ flat_map attribute_runs l.attrs
