use Rattle.std.proofs.Common.{ℕ, ◌+◌, ◌<◌, length}
use Rattle.index_plan.specs.Lists.{entry_at}
use Rattle.index_plan.specs.Room.{IsShort}
use Rattle.index_plan.proofs.node.has_keys.Given as goal

abbrev pub invariant-loop-i : goal.invariant-loop-i
invariant-loop-i l = (k : ℕ) → k < l.i → IsShort (entry_at k l.entries) × (k + 1 < length l.entries → 0 < length (entry_at k l.entries).key)
