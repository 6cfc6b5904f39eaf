use Rattle.std.proofs.Common.{◌≡◌, ◌+◌, take}
use Rattle.record_model.specs.Nodes.{entries_length}
use Rattle.index_node.proofs.room.node_used.Given as goal

abbrev pub invariant-loop-entry : goal.invariant-loop-entry
invariant-loop-entry l = l.used ≡ 0x28 + entries_length (take l.entry-index l.entries)
