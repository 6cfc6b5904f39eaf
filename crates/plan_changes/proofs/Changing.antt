-- An operation that writes or cuts a file is done.
use Rattle.std.proofs.Common.{◌≡◌, ◌≢◌, ℕ, ◌+◌, ◌-◌, ◌*◌, ◌/◌, ◌<◌, ◌≤◌, max, min, Bool, true, false, cond, ltb, List, length, take, Option, Some, refl, sym, ap, ap₂, subst, ◌∙◌, inl, inr, arith}
use Rattle.std.proofs.lemmas.Bool.{cases_eq, eq-eqb, ne_eqb, lt-ltb, le-ltb}
use Rattle.std.proofs.lemmas.List.{length-take}
use Rattle.std.specs.List.Sorted.{IsPermutation}
use Rattle.std.proofs.lemmas.List.Sorted.{IsPermutation-refl}
use Rattle.host_base.specs.declared.file_ref.FileRef.{FileRef}
use Rattle.plan_informed.specs.record_model.declared.values.StdInfo.{StdInfo}
use Rattle.tree_model.specs.file_tree.declared.node.Node.{Node}
use Rattle.tree_model.specs.file_tree.declared.tree.Tree.{Tree}
use Rattle.tree_model.specs.file_tree.Trees.{node_at as node_by_number}
use Rattle.plan_informed.specs.state_model.declared.stream.Extents.{Extents}
use Rattle.plan_informed.specs.state_model.declared.stream.Stream.{Stream}
use Rattle.plan_informed.specs.state_model.declared.stream.Stream.TheVariants.{Held, Placed}
use Rattle.plan_informed.specs.state_model.Loads.{total_clusters}
use Rattle.plan_informed.specs.volume_model.Nodes.{clusters_or}
use Rattle.tree_model.specs.declared.script.Op.{Op}
use Rattle.tree_model.specs.declared.script.Op.TheVariants as op
use Rattle.tree_model.specs.Needs.{size_after, shrinks, clusters_for}
use Rattle.tree_model.specs.Effects.{ref_at, with_node, changed_node, bytes_after, valid_after, clusters_after, MayStand, file_after, zeros_up_to, HasChanged}
use Rattle.plan_informed.specs.stream_runs.Runs.{front}
use Rattle.plan_informed.proofs.stream_runs.Merging.{total-merged}
use Rattle.plan_informed.proofs.stream_runs.Parts.{total-front}
use Rattle.plan_informed.specs.resized_streams.Resizing.{shortened}
use Rattle.plan_informed.specs.plan_model.Informed.{with_info}
use Rattle.plan_informed.specs.plan_growth.Trees.{with_data}
use Rattle.plan_informed.proofs.plan_edits.Sizing.{length-put_over}
use Rattle.plan_changes.specs.Nodes.{NodeBecomes}
use Rattle.plan_changes.specs.Bytes.{GrowsFile, place_of, put_of, HasSizes}
use Rattle.plan_changes.specs.Changes.{IsDataAfter, Stamps, FileChanged}
use Rattle.plan_changes.proofs.Bringing.{bytes_come}

-- ---- the node

node_of : Node → ℕ → ℕ → ℕ → List ℕ → ℕ → ℕ → ℕ → ℕ → ℕ → Node
node_of a size valid clusters bytes flags created modified changed read_at = record {
  number = a.number;
  seq = a.seq;
  kind = a.kind;
  why = a.why;
  held = a.held;
  size = size;
  valid = valid;
  clusters = clusters;
  bytes = bytes;
  flags = flags;
  created = created;
  modified = modified;
  changed = changed;
  read_at = read_at;
}

node_is : (stands : Bool) (op : Op) (stamp : ℕ) (info : StdInfo) (shown : Option Stream) (bytes : List ℕ) (a : Node) → IsDataAfter stands op a shown bytes → Stamps stamp a info → with_info info (with_data shown bytes a) ≡ file_after stands op a stamp
unfolding changed_node node_of
node_is stands op stamp info shown bytes a k s =
    ap₂ (λ (x y : ℕ). node_of a x y (clusters_or shown) bytes info.flags info.created info.modified info.changed info.read_at) k.size k.valid
    ∙ ap₂ (λ (x : ℕ) (l : List ℕ). node_of a (size_after op a) (valid_after op a) x l info.flags info.created info.modified info.changed info.read_at) k.clusters k.reads
    ∙ ap₂ (λ (x y : ℕ). node_of a (size_after op a) (valid_after op a) (clusters_after stands op a) (bytes_after op a) x y info.modified info.changed info.read_at) s.flags s.created
    ∙ ap₂ (λ (x y : ℕ). node_of a (size_after op a) (valid_after op a) (clusters_after stands op a) (bytes_after op a) a.flags a.created x y info.read_at) s.modified s.changed
    ∙ ap (λ (x : ℕ). node_of a (size_after op a) (valid_after op a) (clusters_after stands op a) (bytes_after op a) a.flags a.created stamp stamp x) s.read_at

-- the node at a number, by one that stands at its own
at_number : (b : Node) (n : ℕ) (t u : Tree) → b.number ≡ n → node_by_number u.nodes n ≡ Some b → ((m : ℕ) → m ≢ n → node_by_number u.nodes m ≡ node_by_number t.nodes m) → (m : ℕ) → node_by_number u.nodes m ≡ with_node b (node_by_number t.nodes) m
at_number b n t u number is others m = elim (cases_eq m b.number) [
  | inl same ↦ ap (node_by_number u.nodes) (same ∙ number) ∙ is ∙ sym (ap (λ (x : Bool). cond x (Some b) (node_by_number t.nodes m)) (eq-eqb m b.number same))
  | inr other ↦ others m (λ here. other (here ∙ sym number)) ∙ sym (ap (λ (x : Bool). cond x (Some b) (node_by_number t.nodes m)) (ne_eqb m b.number other))
]

number_after : (stands : Bool) (op : Op) (a : Node) (stamp : ℕ) → (file_after stands op a stamp).number ≡ a.number
unfolding changed_node
number_after stands op a stamp = refl

is_done : (stands : Bool) (op : Op) (n stamp most : ℕ) (info : StdInfo) (shown : Option Stream) (bytes : List ℕ) (a : Node) (t u : Tree) → a.number ≡ n → NodeBecomes n a (with_info info (with_data shown bytes a)) t u → IsDataAfter stands op a shown bytes → Stamps stamp a info
    → MayStand stands a → t.room ≤ u.room + most → HasChanged t most op a stamp u
is_done stands op n stamp most info shown bytes a t u number becomes after stamps may room = record {
  stands = stands;
  may_stand = may;
  after = record {
    node = at_number (file_after stands op a stamp) n t u (number_after stands op a stamp ∙ number) (becomes.is ∙ ap (λ (x : Node). Some x) (node_is stands op stamp info shown bytes a after stamps)) becomes.others;
    spare = λ m. ap (λ (l : List FileRef). ref_at l m) becomes.spare;
    links = subst (IsPermutation t.links) (sym becomes.links) (IsPermutation-refl t.links);
    count = becomes.count;
    journal = becomes.journal;
    room = room;
  };
}

-- ---- data in clusters

no_shrink : (op : Op) (a : Node) → GrowsFile op a → shrinks op a ≡ false
no_shrink (op.Write path offset bytes) a grows = refl
no_shrink (op.Fill path offset count byte) a grows = refl
no_shrink (op.Truncate path size) a grows = le-ltb size a.size (omega (arith, grows))
no_shrink other a grows = absurd grows

is_placed : (op : Op) (e : Extents) (bytes : List ℕ) (a : Node) → GrowsFile op a → e.real ≡ size_after op a → e.initialised ≡ valid_after op a → total_clusters e.runs ≡ max a.clusters (clusters_for (size_after op a)) → bytes ≡ bytes_after op a
    → IsDataAfter false op a (Some (Placed e)) bytes
is_placed op e bytes a grows size valid clusters same = record {
  size = size;
  valid = valid;
  clusters = clusters ∙ sym (ap (λ (t : Bool). cond t (clusters_for (size_after op a)) (max a.clusters (clusters_for (size_after op a)))) (no_shrink op a grows));
  reads = same;
}

cut_clusters : (size : ℕ) (e : Extents) → size ≤ total_clusters e.runs * 4096 → total_clusters (shortened 8 size e).runs ≡ clusters_for size
cut_clusters size e within =
    let keep : ℕ = (size + (512 * 8 - 1)) / (512 * 8) in
    let total = total-merged (front keep e.runs) ∙ total-front keep e.runs in
    omega (arith, total, within)

is_cut : (path : List (List ℕ)) (size : ℕ) (e : Extents) (a : Node) → size < a.size → a.size ≡ e.real → a.valid ≡ e.initialised → e.real ≤ total_clusters e.runs * 4096 → IsDataAfter false (op.Truncate path size) a (Some (Placed (shortened 8 size e))) (take size a.bytes)
is_cut path size e a less all valid within =
    let test : ltb size a.size ≡ true = lt-ltb size a.size less in
    record {
      size = refl;
      valid = ap (λ (x : ℕ). min x size) (sym valid) ∙ sym (ap (λ (t : Bool). cond t (min a.valid size) size) test);
      clusters = cut_clusters size e (omega (arith, less, all, within)) ∙ sym (ap (λ (t : Bool). cond t (clusters_for size) (max a.clusters (clusters_for size))) test);
      reads = sym (ap (λ (t : Bool). cond t (take size a.bytes) (zeros_up_to a.bytes a.valid size)) test);
    }

-- ---- a value in the record

length_after : (op : Op) (a : Node) → HasSizes a → GrowsFile op a → length (bytes_after op a) ≡ size_after op a
length_after op a sizes grows =
    let all = sizes.all in
    let valid = sizes.valid in
    let begins = bytes_come.begins op a in
    let long = length-put_over (place_of op a) (put_of op a) a.bytes (omega (arith, begins, valid, all)) in
    let size = bytes_come.size op a sizes grows in
    ap length (sym (bytes_come.bytes op a sizes grows)) ∙ omega (arith, long, size, all)

valid_all : (op : Op) (a : Node) → HasSizes a → a.valid ≡ a.size → GrowsFile op a → size_after op a ≡ valid_after op a
valid_all op a sizes all grows =
    let size = bytes_come.size op a sizes grows in
    let valid = bytes_come.valid op a sizes grows in
    omega (arith, size, valid, all)

is_held : (op : Op) (a : Node) → HasSizes a → a.valid ≡ a.size → GrowsFile op a → IsDataAfter true op a (Some (Held (bytes_after op a))) (bytes_after op a)
is_held op a sizes all grows = record { size = length_after op a sizes grows; valid = length_after op a sizes grows ∙ valid_all op a sizes all grows; clusters = refl; reads = refl }

is_held_cut : (path : List (List ℕ)) (size : ℕ) (a : Node) → HasSizes a → a.valid ≡ a.size → size < a.size → IsDataAfter true (op.Truncate path size) a (Some (Held (take size a.bytes))) (take size a.bytes)
is_held_cut path size a sizes valid less =
    let test : ltb size a.size ≡ true = lt-ltb size a.size less in
    let all = sizes.all in
    let long = length-take size a.bytes in
    record {
      size = omega (arith, long, all, less);
      valid = omega (arith, long, all, less, valid) ∙ sym (ap (λ (t : Bool). cond t (min a.valid size) size) test);
      clusters = refl;
      reads = sym (ap (λ (t : Bool). cond t (take size a.bytes) (zeros_up_to a.bytes a.valid size)) test);
    }

pub changes_done : FileChanged
changes_done = record { done = is_done; placed = is_placed; cut = is_cut; held = is_held; held_cut = is_held_cut }
