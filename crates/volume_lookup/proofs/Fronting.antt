-- The bytes of the data that a node shows are the node's.
use Rattle.std.proofs.Common.{◌≡◌, ℕ, zero, suc, Bool, true, false, ◌∷◌, ◌++◌, List, [], take, drop, Option, Some, None, Result, Ok, Err, refl, sym, ap, ◌∙◌}
use Rattle.std.specs.Prelude.{IfSome, replicate, if◌then◌else◌}
use Rattle.host_base.specs.Answers.{GivesOrFails}
use Rattle.disk_model.specs.Bytes.{zeros}
use Rattle.disk_model.specs.Content.{Content}
use Rattle.volume_tree.specs.record_model.Records.{Record}
use Rattle.file_tree.specs.declared.node.Node.{Node}
use Rattle.record_rules.specs.state_model.declared.stream.Stream.{Stream}
use Rattle.record_rules.specs.state_model.Trees.{is_nameless}
use Rattle.volume_tree.specs.volume_model.Volumes.{Volume, file_in, bytes_or}
use Rattle.volume_tree.specs.volume_model.Nodes.{node_with, node_by, some_node}
use Rattle.volume_tree.specs.volume_state.Trees.{tree_of}
use Rattle.tree_model.specs.Fronts.{front_of}
use Rattle.volume_tree.specs.Shown.{file_shown, some_shown, shown_at}
use Rattle.tree_lookup.specs.declared.fault.LookupFault.{LookupFault}
use Rattle.tree_lookup.specs.declared.fault.LookupFault.TheVariants.{Outside, Memory, Broken}
use Rattle.tree_lookup.specs.Asked.{lookup_cause, bytes_of, bytes_at, AnswersOrFails}
use Rattle.volume_lookup.specs.Known.{known_tree}
use Rattle.volume_lookup.specs.Fronts.{front_shown}
use Rattle.volume_lookup.proofs.Asking.{of_tree, anything, found_in_tree}

-- ---- no bytes

drop_none : (at : ℕ) → drop {A = ℕ} at [] ≡ []
drop_none zero = refl
drop_none (suc at) = refl

all_taken : (count byte : ℕ) → take count (replicate count byte) ≡ replicate count byte
all_taken zero byte = refl
all_taken (suc count) byte = ap (λ (x : List ℕ). byte ∷ x) (all_taken count byte)

pub none_front : (at count : ℕ) → front_of [] at count ≡ zeros count
unfolding front_of zeros
none_front at count = ap (λ (x : List ℕ). take count (x ++ replicate count 0)) (drop_none at) ∙ all_taken count 0

-- ---- the data of a node

by_name : (bytes : Option Stream → List ℕ) (nameless : Bool) (node : Node) (shown : Option Stream) → bytes None ≡ [] → node.bytes ≡ bytes shown → bytes_of (if nameless then None else Some node) ≡ bytes (if nameless then None else shown)
by_name bytes true node shown none same = sym none
by_name bytes false node shown none same = same

own_bytes : (bytes : Option Stream → List ℕ) (v : Volume) (n : ℕ) (r : Record) → (node_by bytes v n r).bytes ≡ bytes (file_shown v n r)
unfolding node_by node_with file_shown
own_bytes bytes v n r = refl

of_file : (bytes : Option Stream → List ℕ) (v : Volume) (n : ℕ) (o : Option Record) → bytes None ≡ [] → bytes_of (some_node bytes v n o) ≡ bytes (some_shown v n o)
of_file bytes v n None none = sym none
of_file bytes v n (Some r) none = by_name bytes (is_nameless n r) (node_by bytes v n r) (file_shown v n r) none (own_bytes bytes v n r)

bytes_in_tree : (c : Content) (v : Volume) (n : ℕ) → bytes_at (tree_of c v).nodes n ≡ bytes_or c v.per (shown_at v n)
unfolding bytes_at shown_at
bytes_in_tree c v n = ap bytes_of (found_in_tree c v n) ∙ of_file (bytes_or c v.per) v n (file_in v n) refl

front_in_tree : (c : Content) (v : Volume) (n at count : ℕ) → front_shown c v n at count ≡ front_of (bytes_at (tree_of c v).nodes n) at count
unfolding front_shown
front_in_tree c v n at count = ap (λ (bytes : List ℕ). front_of bytes at count) (sym (bytes_in_tree c v n))

so_filled : (out front whole : List ℕ) (result : Result (Unit {0}) LookupFault) → front ≡ whole → GivesOrFails (λ (done : Unit {0}). out) lookup_cause result (Ok front) → AnswersOrFails result (λ done. out ≡ whole)
so_filled out front whole (Ok done) same gives = let equal : front ≡ out = cc in sym equal ∙ same
so_filled out front whole (Err Outside) same gives = tt
so_filled out front whole (Err Memory) same gives = tt
so_filled out front whole (Err Broken) same gives = absurd cc

pub front_known : (known : Option Content) (upper : List ℕ) (v : Volume) (n at count : ℕ) (out : List ℕ) (result : Result (Unit {0}) LookupFault)
    → IfSome known (λ c. GivesOrFails (λ (done : Unit {0}). out) lookup_cause result (Ok (front_shown c v n at count)))
    → IfSome (known_tree upper v known) (λ t. AnswersOrFails result (λ done. out ≡ front_of (bytes_at t.nodes n) at count))
front_known known upper v n at count out result gives =
    of_tree known upper v (λ c. GivesOrFails (λ (done : Unit {0}). out) lookup_cause result (Ok (front_shown c v n at count))) (λ t. ℕ) (λ t. AnswersOrFails result (λ done. out ≡ front_of (bytes_at t.nodes n) at count))
    (λ c asked q d. so_filled out (front_shown c v n at count) (front_of (bytes_at (tree_of c v).nodes n) at count) result (front_in_tree c v n at count) q) gives (anything known upper v)
