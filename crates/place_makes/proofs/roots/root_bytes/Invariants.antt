use Rattle.std.proofs.Common.{◌≡◌, ◌+◌, take}
use Rattle.record_model.specs.Nodes.{entries_length}
use Rattle.place_makes.proofs.roots.root_bytes.Given as goal

abbrev pub invariant-loop-entry : goal.invariant-loop-entry
invariant-loop-entry l = l.left + entries_length (take l.entry-index l.entries) ≡ 32768
