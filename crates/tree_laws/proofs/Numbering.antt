-- The nodes of a volume are found by the numbers of their files.
use Rattle.std.proofs.Common.{◌≡◌, ℕ, Bool, true, false, cond, List, Option, Some, None, refl, sym, ap, ◌∙◌, inl, inr, arith}
use Rattle.std.proofs.lemmas.Bool.{cases_lt}
use Rattle.volume_state.specs.record_model.Records.{Record}
use Rattle.volume_state.specs.file_tree.declared.node.Node.{Node}
use Rattle.volume_state.specs.file_tree.Trees.{node_at as node_by_number}
use Rattle.volume_state.specs.state_model.declared.stream.Stream.{Stream}
use Rattle.volume_state.specs.state_model.Trees.{is_nameless}
use Rattle.volume_state.specs.volume_model.Volumes.{Volume, count_of, file_in}
use Rattle.volume_state.specs.volume_model.Nodes.{node_with, node_by, some_node, node_at, nodes_by}
use Rattle.tree_laws.proofs.Climbing.{no_node}
use Rattle.tree_laws.proofs.Finding.{IsNumbered, among, not_among}

named_if : (t : Bool) (m : ℕ) (a node : Node) → a.number ≡ m → cond t None (Some a) ≡ Some node → node.number ≡ m
named_if true m a node same is = absurd cc
named_if false m a node same is = let equal : a ≡ node = cc in ap (λ (x : Node). x.number) (sym equal) ∙ same

own_number : (bytes : Option Stream → List ℕ) (v : Volume) (m : ℕ) (r : Record) → (node_by bytes v m r).number ≡ m
unfolding node_by node_with
own_number bytes v m r = refl

some_number : (bytes : Option Stream → List ℕ) (v : Volume) (m : ℕ) (o : Option Record) (node : Node) → some_node bytes v m o ≡ Some node → node.number ≡ m
some_number bytes v m None node is = absurd cc
some_number bytes v m (Some r) node is = named_if (is_nameless m r) m (node_by bytes v m r) node (own_number bytes v m r) is

numbered_at : (bytes : Option Stream → List ℕ) (v : Volume) → IsNumbered (λ (x : Node). x.number) (node_at bytes v)
unfolding node_at
numbered_at bytes v m node is = some_number bytes v m (file_in v m) node is

pub found_by_number : (bytes : Option Stream → List ℕ) (v : Volume) (n : ℕ) → node_by_number (nodes_by bytes v) n ≡ node_at bytes v n
unfolding node_by_number nodes_by
found_by_number bytes v n = elim (cases_lt n (count_of v)) [
  | inl within ↦ among (λ (x : Node). x.number) (node_at bytes v) (numbered_at bytes v) n 0 (count_of v) (omega arith) (omega arith)
  | inr past ↦ not_among (λ (x : Node). x.number) (node_at bytes v) (numbered_at bytes v) n 0 (count_of v) (λ m low high same. omega (arith, same)) ∙ sym (no_node bytes v n past)
]
