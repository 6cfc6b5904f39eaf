use Rattle.std.proofs.Common.{◌≡◌, ◌+◌, ◌*◌, ◌++◌, ◌≤◌, drop}
use Rattle.std.specs.Prelude.{IfSome}
use Rattle.index_tree.specs.index_model.Indexes.{node_of_block}
use Rattle.index_change.specs.Amounts.{keys_in, keys_below, blocks_in, blocks_below}
use Rattle.index_tree.specs.Places.{place_of}
use Rattle.index_change.proofs.few.+few.Given as goal

abbrev pub decreases-few_below : goal.decreases-few_below
decreases-few_below g l = 2 * l.levels

abbrev pub decreases-few_in : goal.decreases-few_in
decreases-few_in g l = 2 * l.levels + 1

-- the entries that are left
abbrev pub invariant-few_in-loop-i : goal.invariant-few_in-loop-i
invariant-few_in-loop-i g l = record {
  count : IfSome (g.V.View.content l.initial.v) (λ c. l.keys + keys_in (keys_below (node_of_block c (place_of l.dir)) l.levels) (drop l.i l.entries) ≡ keys_in (keys_below (node_of_block c (place_of l.dir)) l.levels) l.entries);
  met : IfSome (g.V.View.content l.initial.v) (λ c. l.blocks.items ++ blocks_in (blocks_below (node_of_block c (place_of l.dir)) l.levels) (drop l.i l.entries) ≡ l.initial.blocks.items ++ blocks_in (blocks_below (node_of_block c (place_of l.dir)) l.levels) l.entries);
  few : l.keys ≤ 1;
  same : g.V.View.content l.v ≡ g.V.View.content l.initial.v;
  kept : g.V.View.kept l.v ≡ g.V.View.kept l.initial.v;
  counted : g.V.View.faults l.v ≡ g.V.View.faults l.initial.v;
}
