use Rattle.std.proofs.Common.{◌≡◌, ◌-◌}
use Rattle.record_model.specs.Pairs.{least_width, signed_width}
use Rattle.mapping_pairs.proofs.writer.signed_width.Given as goal

abbrev pub invariant-loop-bytes : goal.invariant-loop-bytes
invariant-loop-bytes l = least_width (8 - l.bytes) l.bytes l.value ≡ signed_width l.value
