use Rattle.std.proofs.Common.{◌≡◌, false, drop}
use Rattle.std.specs.Prelude.{IfSome}
use Rattle.std.specs.List.{list_any}
use Rattle.file_tree.specs.Walks.{is_bad_part}
use Rattle.tree_model.specs.Walks.{walk, reached}
use Rattle.tree_lookup.proofs.walking.reached.Given as goal

-- the walk of the rest leads where the path does, and the rest are names
abbrev pub invariant-loop-at : goal.invariant-loop-at
invariant-loop-at g l = record {
  leads : IfSome (g.L.Lookup.tree l.initial.tree) (λ t. walk (g.L.Lookup.upper l.initial.tree) t.nodes t.links l.at l.number (drop l.at l.path) ≡ reached (g.L.Lookup.upper l.initial.tree) t.nodes t.links l.path);
  names : list_any is_bad_part (drop l.at l.path) ≡ false;
  same : g.L.Lookup.tree l.tree ≡ g.L.Lookup.tree l.initial.tree;
  table : g.L.Lookup.upper l.tree ≡ g.L.Lookup.upper l.initial.tree;
  stays : g.L.Lookup.kept l.tree ≡ g.L.Lookup.kept l.initial.tree;
  counted : g.L.Lookup.faults l.tree ≡ g.L.Lookup.faults l.initial.tree;
}
