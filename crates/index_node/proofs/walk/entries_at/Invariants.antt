use Rattle.std.proofs.Common.{◌≡◌, ◌-◌}
use Rattle.record_model.specs.Nodes.{most_entries}
use Rattle.index_node.specs.Walks.{entries_at}
use Rattle.index_node.proofs.Walking.{still}
use Rattle.index_node.proofs.walk.entries_at.Given as goal

abbrev pub invariant-loop : goal.invariant-loop
invariant-loop l = still l.flag (most_entries l.bytes - l.counter) l.rest l.found ≡ entries_at l.flag l.bytes
