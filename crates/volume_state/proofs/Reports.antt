-- What a check reports is the tree without bytes and records.
use Rattle.std.proofs.Common.{◌≡◌, ℕ, Bool, true, false, List, [], ◌∷◌, Option, Some, None, Result, Ok, Err, refl, sym, ap, ◌∙◌}
use Rattle.std.specs.Prelude.{map, if◌then◌else◌}
use Rattle.std.specs.List.{range_with_len, filter_map, cons_option}
use Rattle.std.specs.Option.{option_map}
use Rattle.volume_model.specs.disk_model.Content.{Content}
use Rattle.journal_model.specs.record_model.Records.{Record}
use Rattle.volume_model.specs.file_tree.declared.node.Node.{Node}
use Rattle.volume_model.specs.file_tree.declared.tree.Tree.{Tree}
use Rattle.volume_model.specs.state_model.declared.broken.Broken.{Broken}
use Rattle.volume_model.specs.state_model.declared.geometry.Geometry.{Geometry}
use Rattle.volume_model.specs.state_model.declared.geometry.MapRefusal.{MapRefusal}
use Rattle.volume_model.specs.state_model.declared.stream.Stream.{Stream}
use Rattle.volume_model.specs.state_model.Trees.{is_nameless}
use Rattle.volume_model.specs.Volumes.{Volume, volume_of, file_in, count_of, bytes_or}
use Rattle.volume_model.specs.Nodes.{node_with, node_by, some_node, node_at, nodes_by, all_nodes, bare_nodes, no_bytes}
use Rattle.volume_state.specs.Rules.{first_broken}
use Rattle.volume_state.specs.Trees.{Holds, IsState, volume_journal, tree_with, tree_of, report_of, reported, checked, without_records}
use Rattle.volume_model.specs.file_tree.Trees.{without_bytes}
use Rattle.volume_state.specs.Laws.{bare}

-- a node without its bytes
bare_node : (bytes : Option Stream → List ℕ) (v : Volume) (n : ℕ) (r : Record) → node_by no_bytes v n r ≡ without_bytes (node_by bytes v n r)
unfolding node_by node_with
bare_node bytes v n r = refl

bare_choice : (nameless : Bool) (a b : Node) → a ≡ without_bytes b → (if nameless then None else Some a) ≡ option_map without_bytes (if nameless then None else Some b)
bare_choice true a b is = refl
bare_choice false a b is = ap (λ (x : Node). Some x) is

bare_some : (bytes : Option Stream → List ℕ) (v : Volume) (n : ℕ) (file : Option Record) → some_node no_bytes v n file ≡ option_map without_bytes (some_node bytes v n file)
bare_some bytes v n None = refl
bare_some bytes v n (Some r) = bare_choice (is_nameless n r) (node_by no_bytes v n r) (node_by bytes v n r) (bare_node bytes v n r)

bare_at : (bytes : Option Stream → List ℕ) (v : Volume) (n : ℕ) → node_at no_bytes v n ≡ option_map without_bytes (node_at bytes v n)
unfolding node_at
bare_at bytes v n = bare_some bytes v n (file_in v n)

bare_cons : (o : Option Node) (rest : List Node) → cons_option (option_map without_bytes o) (map without_bytes rest) ≡ map without_bytes (cons_option o rest)
bare_cons None rest = refl
bare_cons (Some node) rest = refl

bare_list : (f g : ℕ → Option Node) → ((n : ℕ) → g n ≡ option_map without_bytes (f n)) → (numbers : List ℕ) → filter_map g numbers ≡ map without_bytes (filter_map f numbers)
bare_list f g each [] = refl
bare_list f g each (n ∷ numbers) = ap (λ (o : Option Node). cons_option o (filter_map g numbers)) (each n) ∙ ap (λ (rest : List Node). cons_option (option_map without_bytes (f n)) rest) (bare_list f g each numbers) ∙ bare_cons (f n) (filter_map f numbers)

bare_all : (c : Content) (v : Volume) → bare_nodes v ≡ map without_bytes (all_nodes c v)
unfolding nodes_by
bare_all c v = bare_list (node_at (bytes_or c v.per) v) (node_at no_bytes v) (bare_at (bytes_or c v.per) v) (range_with_len 0 (count_of v))

bare_report : (c : Content) (v : Volume) → report_of c v ≡ bare (tree_of c v)
unfolding report_of tree_of tree_with
bare_report c v = ap (λ (nodes : List Node). tree_with c v nodes (option_map without_records (volume_journal c v))) (bare_all c v)

okay : Tree → Result Tree Broken
okay t = Ok t

pub holds : (c : Content) (v : Volume) (t : Tree) → Holds c v t → checked c v ≡ Ok (bare t)
unfolding checked okay
holds c v t h = ap (reported c v) h.kept ∙ ap okay (bare_report c v ∙ ap bare (sym h.tree))

reports_by : (c : Content) (v : Volume) (t : Tree) (found : Option Broken) → first_broken c v ≡ found → reported c v found ≡ Ok t → (u : Tree) × Holds c v u × (t ≡ bare u)
reports_by c v t None kept is = let e : report_of c v ≡ t = cc in (tree_of c v, record { kept = kept; tree = refl }, sym e ∙ bare_report c v)
reports_by c v t (Some b) kept is = absurd cc

pub reports : (c : Content) (v : Volume) (t : Tree) → checked c v ≡ Ok t → (u : Tree) × Holds c v u × (t ≡ bare u)
unfolding checked
reports c v t is = reports_by c v t (first_broken c v) refl is

breaks_by : (c : Content) (v : Volume) (b : Broken) (found : Option Broken) → reported c v found ≡ Err b → found ≡ Some b
breaks_by c v b None is = absurd cc
breaks_by c v b (Some found) is = let e : found ≡ b = cc in ap (λ (x : Broken). Some x) e

pub breaks : (c : Content) (v : Volume) (b : Broken) → checked c v ≡ Err b → first_broken c v ≡ Some b
unfolding checked
breaks c v b is = breaks_by c v b (first_broken c v) is

-- ---- of a content

same_volume : (read : Result Volume MapRefusal) (v w : Volume) → read ≡ Ok v → read ≡ Ok w → v ≡ w
same_volume read v w p q = cc

pub one_tree : (c : Content) (g : Geometry) (clusters : ℕ) (t u : Tree) → IsState c g clusters t → IsState c g clusters u → t ≡ u
one_tree c g clusters t u s r = s.holds.tree ∙ ap (tree_of c) (same_volume (volume_of c g clusters) s.volume r.volume s.loaded r.loaded) ∙ sym r.holds.tree

pub state_reported : (c : Content) (g : Geometry) (clusters : ℕ) (t : Tree) (s : IsState c g clusters t) → checked c s.volume ≡ Ok (bare t)
state_reported c g clusters t s = holds c s.volume t s.holds

pub state_stands : (c : Content) (g : Geometry) (clusters : ℕ) (v : Volume) (t : Tree) → volume_of c g clusters ≡ Ok v → checked c v ≡ Ok t → (u : Tree) × IsState c g clusters u × (t ≡ bare u)
state_stands c g clusters v t loaded is = let r = reports c v t is in (r.0, record { volume = v; loaded = loaded; holds = r.1 }, r.2)
