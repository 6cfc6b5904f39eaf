use Rattle.std.proofs.Common.{◌≡◌, ℕ, ◌<◌}
use Rattle.record_model.specs.Nodes.{down_flag}
use Rattle.index_node.proofs.RootPlaces.{at_place}
use Rattle.index_node.proofs.root_spelling.are_alike.Given as goal

abbrev pub invariant-loop-entry : goal.invariant-loop-entry
invariant-loop-entry l = (k : ℕ) → k < l.entry-index → down_flag (at_place k l.entries).down ≡ l.flag
