use Rattle.std.proofs.Common.{◌≡◌, vec_len}
use Rattle.map_change.specs.Parts.{live_parts}
use Rattle.map_change.specs.Applying.{applied_all}
use Rattle.map_change.proofs.applying.put_records.Given as goal

abbrev pub invariant-loop-change : goal.invariant-loop-change
invariant-loop-change l = applied_all l.records.items (live_parts l.live) ≡ applied_all l.initial.records.items (live_parts l.initial.live)

abbrev pub decreases-loop-change : goal.decreases-loop-change
decreases-loop-change l = vec_len l.records
