use Rattle.std.proofs.Common.{◌≡◌, ◌+◌, ◌*◌, drop}
use Rattle.std.specs.Prelude.{IfSome}
use Rattle.index_tree.specs.index_model.Indexes.{node_of_block}
use Rattle.index_change.specs.Holding.{HoldsNodesOf, StayHeld}
use Rattle.index_tree.specs.Places.{place_of}
use Rattle.index_change.proofs.Gathered.{HeldOrLeft}
use Rattle.index_change.proofs.gathering.Gatherer.+gathering.Given as goal

abbrev pub decreases-child : goal.decreases-child
decreases-child g l = 5 * l.levels

abbrev pub decreases-below : goal.decreases-below
decreases-below g l = 5 * l.levels + 1

abbrev pub decreases-beside : goal.decreases-beside
decreases-beside g l = 5 * l.levels + 2

abbrev pub decreases-entry : goal.decreases-entry
decreases-entry g l = 5 * l.levels + 3

abbrev pub decreases-entries : goal.decreases-entries
decreases-entries g l = 5 * l.levels + 4

abbrev pub invariant-entries-loop-entry : goal.invariant-entries-loop-entry
invariant-entries-loop-entry g l = record {
  right : IfSome (g.V.View.content l.initial.v) (λ c. HoldsNodesOf (node_of_block c (place_of l.self.dir.now)) l.initial.held → HoldsNodesOf (node_of_block c (place_of l.self.dir.now)) l.held);
  stay : StayHeld l.initial.held l.held;
  met : IfSome (g.V.View.content l.initial.v) (HeldOrLeft l.self.up.now l.self.name.now (λ c. node_of_block c (place_of l.self.dir.now)) l.levels l.entries (drop l.entry-index l.entries) l.held);
  same : g.V.View.content l.v ≡ g.V.View.content l.initial.v;
  kept : g.V.View.kept l.v ≡ g.V.View.kept l.initial.v;
  counted : g.V.View.faults l.v ≡ g.V.View.faults l.initial.v;
}
