use Rattle.std.proofs.Common.{◌≡◌, vec_len}
use Rattle.index_plan.specs.Lists.{rise}
use Rattle.index_plan.proofs.draft.Draft.climb.Given as goal

abbrev pub invariant-loop-frame : goal.invariant-loop-frame
invariant-loop-frame l = rise l.path.items (record { pending = l.pending; plan = l.self }) ≡ rise l.initial.path.items (record { pending = l.initial.pending; plan = l.initial.self })

abbrev pub decreases-loop-frame : goal.decreases-loop-frame
decreases-loop-frame l = vec_len l.path
