-- What the node of a file shows of its record.
use Rattle.std.proofs.Common.{◌≡◌, ◌⊎◌, ℕ, Bool, true, false, cond, List, [], ◌∷◌, get_or, Option, Some, None, refl, sym, ap, subst, ◌∙◌, inl, inr}
use Rattle.disk_model.specs.Content.{Content}
use Rattle.plan_informed.specs.record_model.Records.{Record}
use Rattle.tree_model.specs.file_tree.declared.node.Kind.{Kind}
use Rattle.tree_model.specs.file_tree.declared.node.Kind.TheVariants.{File}
use Rattle.tree_model.specs.file_tree.declared.node.Node.{Node}
use Rattle.tree_model.specs.file_tree.Trees.{node_at as node_by_number}
use Rattle.plan_informed.specs.state_model.declared.stream.Stream.{Stream}
use Rattle.plan_informed.specs.state_model.Files.{only_base, file_at, is_base_record, info_of}
use Rattle.plan_informed.specs.state_model.Loads.{data_stream}
use Rattle.plan_informed.specs.state_model.Trees.{is_nameless}
use Rattle.plan_informed.specs.volume_model.Volumes.{Volume, file_in, bytes_or, size_or}
use Rattle.plan_informed.specs.volume_model.Nodes.{kind_in, valid_or, clusters_or, data_shown, node_with, node_by, some_node, node_at}
use Rattle.plan_informed.specs.volume_state.Trees.{tree_of}
use Rattle.plan_informed.specs.stream_laws.Replacing.{FileEdit, with_edits}
use Rattle.plan_informed.proofs.stream_laws.Editing.{edited_files}
use Rattle.plan_informed.proofs.stream_laws.Tabling.{inside_list}
use Rattle.plan_informed.proofs.plan_owners.Standing.{some_file, as_file}
use Rattle.plan_informed.specs.plan_model.Informed.{with_info, with_record}
use Rattle.plan_informed.proofs.plan_model.Stepping.{tree_nodes}
use Rattle.plan_informed.specs.plan_growth.Trees.{with_data}
use Rattle.plan_changes.specs.Nodes.{NodeBecomes}
use Rattle.plan_changes.specs.Files.{IsChangeable, own_data, Shows, with_own, Follows, FilesShow}
use Rattle.plan_changes.proofs.Becoming.{data_becomes, info_becomes, both_become}

-- ---- its node

node_named : (t : Bool) (x a : Node) → cond t None (Some x) ≡ Some a → x ≡ a
node_named true x a is = absurd cc
node_named false x a is = cc

module _ (c : Content) (v : Volume) (n : ℕ) (r : Record) (a : Node) (k : IsChangeable c v n r a) where
  is_node : node_by (bytes_or c v.per) v n r ≡ a
  unfolding node_at
  is_node = node_named (is_nameless n r) (node_by (bytes_or c v.per) v n r) a (sym (tree_nodes c v n ∙ ap (some_node (bytes_or c v.per) v n) k.file) ∙ k.node)

  pub kind_is : kind_in v n r ≡ File
  unfolding node_by node_with
  kind_is = ap (λ (x : Node). x.kind) is_node ∙ k.kind

  shown_is : data_shown (kind_in v n r) r ≡ own_data r
  unfolding data_stream
  shown_is = ap (λ (x : Kind). data_shown x r) kind_is

  pub node_shows : Shows c v n r a
  unfolding node_by node_with
  node_shows = record {
    number = sym (ap (λ (x : Node). x.number) is_node);
    kind = kind_is;
    size = sym (ap (λ (x : Node). x.size) is_node) ∙ ap size_or shown_is;
    valid = sym (ap (λ (x : Node). x.valid) is_node) ∙ ap valid_or shown_is;
    clusters = sym (ap (λ (x : Node). x.clusters) is_node) ∙ ap clusters_or shown_is;
    bytes = sym (ap (λ (x : Node). x.bytes) is_node) ∙ ap (bytes_or c v.per) shown_is;
    flags = sym (ap (λ (x : Node). x.flags) is_node);
    created = sym (ap (λ (x : Node). x.created) is_node);
    read_at = sym (ap (λ (x : Node). x.read_at) is_node);
  }

  own_itself : with_own c v r a ≡ a
  unfolding node_by node_with
  own_itself =
      ap (λ (o : Option Stream). with_data o (bytes_or c v.per o) a) (sym shown_is)
      ∙ ap (with_data (data_shown (kind_in v n r) r) (bytes_or c v.per (data_shown (kind_in v n r) r))) (sym is_node)
      ∙ is_node

-- ---- the file behind an edit

base_or_none : (t : Bool) (s : Record) (o : Option Record) → o ≡ Some s → is_base_record s ≡ t → (only_base o ≡ Some s) ⊎ (only_base o ≡ None)
base_or_none true s o is base = inl (as_file o s is base)
base_or_none false s o is base = inr (ap only_base is ∙ ap (λ (t : Bool). cond t (Some s) None) base)

file_or_none : (v : Volume) (n : ℕ) (r s : Record) → file_in v n ≡ Some r → (file_in (with_record v n s) n ≡ Some s) ⊎ (file_in (with_record v n s) n ≡ None)
unfolding file_at
file_or_none v n r s file =
    let edits : List FileEdit = record { number = n; file = Some s } ∷ [] in
    base_or_none (is_base_record s) s (get_or (with_edits edits v.files) n None) (edited_files v.files edits (inside_list v.files n r (some_file v n r file), tt, tt)).0 refl

no_file_no_node : (d : Content) (w : Volume) (n : ℕ) (b : Node) → file_in w n ≡ None → node_by_number (tree_of d w).nodes n ≡ Some b → ⊥
unfolding node_at
no_file_no_node d w n b none is = (let clash : None ≡ Some b = sym (tree_nodes d w n ∙ ap (some_node (bytes_or d w.per) w n) none) ∙ is in absurd cc)

pub still_file : (d : Content) (v : Volume) (n : ℕ) (r s : Record) (b : Node) → file_in v n ≡ Some r → node_by_number (tree_of d (with_record v n s)).nodes n ≡ Some b → file_in (with_record v n s) n ≡ Some s
still_file d v n r s b file is = elim (file_or_none v n r s file) [
  | inl here ↦ here
  | inr none ↦ absurd (no_file_no_node d (with_record v n s) n b none is)
]

file_follows : (c d : Content) (v : Volume) (n : ℕ) (r s : Record) (a b : Node) → IsChangeable c v n r a → b.kind ≡ a.kind → NodeBecomes n a b (tree_of c v) (tree_of d (with_record v n s)) → Follows c v n a d s b
file_follows c d v n r s a b k kind tree = record { file = record { file = still_file d v n r s b k.file tree.is; node = tree.is; kind = kind ∙ k.kind }; tree = tree }

data_is_own : (c d : Content) (v : Volume) (n : ℕ) (r s : Record) (a : Node) → IsChangeable c v n r a → data_shown (kind_in v n r) s ≡ own_data s
unfolding data_stream
data_is_own c d v n r s a k = ap (λ (x : Kind). data_shown x s) (kind_is c v n r a k)

pub files_are : FilesShow
files_are = record {
  shows = node_shows;
  itself = own_itself;
  data_follows = λ c d v n r s a k follows. file_follows c d v n r s a (with_own d v s a) k refl
      (subst (λ (o : Option Stream). NodeBecomes n a (with_data o (bytes_or d v.per o) a) (tree_of c v) (tree_of d (with_record v n s))) (data_is_own c d v n r s a k)
      (data_becomes n (data_shown (kind_in v n r) s) (bytes_or d v.per (data_shown (kind_in v n r) s)) a (tree_of c v) (tree_of d (with_record v n s)) k.node follows));
  info_follows = λ c d v n r s info a k follows. file_follows c d v n r s a (with_info info a) k refl (info_becomes n info a (tree_of c v) (tree_of d (with_record v n s)) k.node follows);
  both_follow = λ c d v n r s a k follows. file_follows c d v n r s a (with_info (info_of s) (with_own d v s a)) k refl
      (subst (λ (o : Option Stream). NodeBecomes n a (with_info (info_of s) (with_data o (bytes_or d v.per o) a)) (tree_of c v) (tree_of d (with_record v n s))) (data_is_own c d v n r s a k)
      (both_become n (info_of s) (data_shown (kind_in v n r) s) (bytes_or d v.per (data_shown (kind_in v n r) s)) a (tree_of c v) (tree_of d (with_record v n s)) k.node follows));
}
