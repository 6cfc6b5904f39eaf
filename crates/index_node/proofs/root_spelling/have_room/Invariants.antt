use Rattle.std.proofs.Common.{◌≡◌, ◌+◌, take}
use Rattle.record_model.specs.Nodes.{entries_length}
use Rattle.index_node.proofs.root_spelling.have_room.Given as goal

abbrev pub invariant-loop-entry : goal.invariant-loop-entry
invariant-loop-entry l = l.left + entries_length (take l.entry-index l.entries) ≡ 4032
