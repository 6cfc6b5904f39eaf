use Rattle.std.proofs.Common.{ℕ, ◌<◌, length}
use Rattle.record_model.specs.Nodes.{FitsEntry}
use Rattle.index_node.proofs.RootPlaces.{at_place}
use Rattle.index_node.proofs.root_spelling.each_fits.Given as goal

abbrev pub invariant-loop-i : goal.invariant-loop-i
invariant-loop-i l = record {
  fits : (k : ℕ) → k < l.i → FitsEntry (at_place k l.entries);
  inside : 0 < l.i → l.i < length l.entries;
}
