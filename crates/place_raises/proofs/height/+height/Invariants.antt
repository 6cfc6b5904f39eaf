use Rattle.std.proofs.Common.{◌≡◌, ◌+◌, ◌*◌, ◌≤◌, max, drop}
use Rattle.std.specs.Prelude.{IfSome}
use Rattle.index_model.specs.Indexes.{node_of_block}
use Rattle.index_change.specs.Heights.{tallest, height_below}
use Rattle.index_tree.specs.Places.{place_of}
use Rattle.place_raises.proofs.height.+height.Given as goal

abbrev pub decreases-height_below : goal.decreases-height_below
decreases-height_below g l = 2 * l.levels

abbrev pub decreases-tallest : goal.decreases-tallest
decreases-tallest g l = 2 * l.levels + 1

-- the entries that are left
abbrev pub invariant-tallest-loop-entry : goal.invariant-tallest-loop-entry
invariant-tallest-loop-entry g l = record {
  value : IfSome (g.V.View.content l.initial.v) (λ c. max l.most (tallest (height_below (node_of_block c (place_of l.dir)) l.levels) (drop l.entry-index l.entries)) ≡ tallest (height_below (node_of_block c (place_of l.dir)) l.levels) l.entries);
  some : 1 ≤ l.most;
  few : l.most ≤ l.levels + 1;
  same : g.V.View.content l.v ≡ g.V.View.content l.initial.v;
  kept : g.V.View.kept l.v ≡ g.V.View.kept l.initial.v;
  counted : g.V.View.faults l.v ≡ g.V.View.faults l.initial.v;
}
