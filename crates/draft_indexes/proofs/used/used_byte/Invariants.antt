use Rattle.std.proofs.Common.{◌≡◌, ◌+◌}
use Rattle.draft_indexes.specs.Growing.{is_used, low_bits}
use Rattle.draft_indexes.proofs.used.used_byte.Given as goal

abbrev pub invariant-loop-k : goal.invariant-loop-k
invariant-loop-k l = record { sum : l.byte ≡ low_bits (λ k. is_used l.first l.end l.bits (l.at + k)) l.k }
