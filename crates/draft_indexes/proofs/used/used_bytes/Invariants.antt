use Rattle.std.proofs.Common.{◌≡◌}
use Rattle.draft_indexes.specs.Growing.{is_used, bytes_of_bits}
use Rattle.draft_indexes.proofs.used.used_bytes.Given as goal

abbrev pub invariant-loop-j : goal.invariant-loop-j
invariant-loop-j l = record { value : l.bytes.items ≡ bytes_of_bits (is_used l.first l.end l.bits) l.j }
