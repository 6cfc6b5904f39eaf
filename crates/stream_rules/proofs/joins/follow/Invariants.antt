use Rattle.std.proofs.Common.{◌≡◌, drop}
use Rattle.stream_map.specs.Attributes.{behind}
use Rattle.volume_model.specs.Sizes.{follow}
use Rattle.stream_rules.proofs.joins.follow.Given as goal

-- all follow where those that are left do
abbrev pub invariant-loop-attribute : goal.invariant-loop-attribute
invariant-loop-attribute l = follow l.vcn (drop l.attribute-index (behind l.attributes)) ≡ follow 0 (behind l.attributes)
