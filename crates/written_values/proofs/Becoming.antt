-- The data and the times that an operation leaves of a node.
use Rattle.std.proofs.Common.{◌≡◌, ℕ, ◌*◌, ◌<◌, ◌≤◌, min, Bool, true, false, not, cond, ltb, List, take, Some, refl, sym, ap, subst, ◌∙◌, inl, inr, arith}
use Rattle.std.specs.Prelude.{replicate}
use Rattle.std.proofs.lemmas.Bool.{cases_eq, cases_lt, lt-ltb, ltb-true, eq-eqb}
use Rattle.disk_model.specs.Content.{Content}
use Rattle.record_model.specs.declared.values.StdInfo.{StdInfo}
use Rattle.record_model.specs.Records.{Record}
use Rattle.file_tree.specs.declared.node.Node.{Node}
use Rattle.change_steps.specs.state_model.declared.stream.Extents.{Extents}
use Rattle.change_steps.specs.state_model.declared.stream.Stream.TheVariants.{Held, Placed}
use Rattle.change_steps.specs.state_model.Files.{info_of}
use Rattle.change_steps.specs.state_model.Loads.{total_clusters}
use Rattle.change_steps.specs.volume_model.Volumes.{Volume}
use Rattle.tree_model.specs.declared.script.Op.{Op}
use Rattle.tree_model.specs.declared.script.Op.TheVariants as op
use Rattle.tree_model.specs.Needs.{size_after, shrinks, changes_file}
use Rattle.tree_model.specs.Effects.{bytes_after, valid_after, clusters_after, zeros_up_to, put_at}
use Rattle.change_steps.specs.resized_streams.Resizing.{shortened, with_sizes}
use Rattle.change_steps.specs.record_times.Times.{timed_info}
use Rattle.change_steps.specs.plan_changes.Bytes.{HasSizes}
use Rattle.change_steps.specs.plan_changes.Changes.{IsDataAfter, Stamps}
use Rattle.change_steps.specs.plan_changes.Files.{Shows}
use Rattle.change_steps.proofs.plan_changes.Changing.{changes_done}
use Rattle.change_steps.specs.file_puts.Puts.{with_bytes}

-- ---- a value

pub held_after : (op : Op) (a : Node) → HasSizes a → a.valid ≡ a.size → changes_file op a ≡ true → IsDataAfter true op a (Some (Held (bytes_after op a))) (bytes_after op a)
held_after (op.Write path offset bytes) a sizes all changes = changes_done.held (op.Write path offset bytes) a sizes all tt
held_after (op.Fill path offset count byte) a sizes all changes = changes_done.held (op.Fill path offset count byte) a sizes all tt
held_after (op.Truncate path size) a sizes all changes = elim (cases_lt size a.size) [
  | inl less ↦
      subst (λ (l : List ℕ). IsDataAfter true (op.Truncate path size) a (Some (Held l)) l) (ap (λ (t : Bool). cond t (take size a.bytes) (zeros_up_to a.bytes a.valid size)) (sym (lt-ltb size a.size less)))
      (changes_done.held_cut path size a sizes all less)
  | inr more ↦ elim (cases_eq size a.size) [
    | inl same ↦ (let none : false ≡ true = sym (ap not (eq-eqb size a.size same)) ∙ changes in absurd cc)
    | inr differ ↦ changes_done.held (op.Truncate path size) a sizes all (omega (arith, more, differ))
  ]
]
held_after other a sizes all changes = absurd cc

-- the bytes after it are those of the value
pub same_after : (op : Op) (a : Node) (value : List ℕ) → value ≡ a.bytes → bytes_after op (with_bytes value a) ≡ bytes_after op a
same_after (op.Write path offset bytes) a value same = ap (λ (l : List ℕ). put_at l a.valid offset bytes) same
same_after (op.Fill path offset count byte) a value same = ap (λ (l : List ℕ). put_at l a.valid offset (replicate count byte)) same
same_after (op.Truncate path size) a value same = ap (λ (l : List ℕ). cond (ltb size a.size) (take size l) (zeros_up_to l a.valid size)) same
same_after other a value same = same

-- ---- less data in clusters

pub shrinks_less : (op : Op) (a : Node) → shrinks op a ≡ true → size_after op a < a.size
shrinks_less (op.Truncate path size) a is = ltb-true size a.size is
shrinks_less other a is = absurd cc

-- only a truncate makes a file shorter
pub cut_after : (op : Op) (e : Extents) (a : Node) → size_after op a < a.size → a.size ≡ e.real → a.valid ≡ e.initialised → e.real ≤ total_clusters e.runs * 4096 → IsDataAfter false op a (Some (Placed (shortened 8 (size_after op a) e))) (take (size_after op a) a.bytes)
cut_after (op.Write path offset bytes) e a less all valid within = absurd (omega (arith, less))
cut_after (op.Fill path offset count byte) e a less all valid within = absurd (omega (arith, less))
cut_after (op.Truncate path size) e a less all valid within = changes_done.cut path size e a less all valid within
cut_after other e a less all valid within = absurd (omega (arith, less))

front_is : (op : Op) (a : Node) → shrinks op a ≡ true → take (size_after op a) a.bytes ≡ bytes_after op a
front_is (op.Truncate path size) a is = sym (ap (λ (t : Bool). cond t (take size a.bytes) (zeros_up_to a.bytes a.valid size)) is)
front_is other a is = absurd cc

pub valid_is : (op : Op) (a : Node) → shrinks op a ≡ true → valid_after op a ≡ min a.valid (size_after op a)
valid_is (op.Truncate path size) a is = ap (λ (t : Bool). cond t (min a.valid size) size) is
valid_is other a is = absurd cc

pub shorter_after : (op : Op) (e : Extents) (a : Node) → shrinks op a ≡ true → total_clusters e.runs ≡ clusters_after false op a → IsDataAfter false op a (Some (Placed (with_sizes (size_after op a) (valid_after op a) e))) (take (size_after op a) a.bytes)
shorter_after op e a is clusters = record { size = refl; valid = refl; clusters = clusters; reads = front_is op a is }

-- ---- the times

pub stamped : (c : Content) (v : Volume) (n stamp : ℕ) (r : Record) (a : Node) (info : StdInfo) → Shows c v n r a → info ≡ timed_info stamp (info_of r) → Stamps stamp a info
stamped c v n stamp r a info shows is = record {
  flags = ap (λ (i : StdInfo). i.flags) is ∙ sym shows.flags;
  created = ap (λ (i : StdInfo). i.created) is ∙ sym shows.created;
  modified = ap (λ (i : StdInfo). i.modified) is;
  changed = ap (λ (i : StdInfo). i.changed) is;
  read_at = ap (λ (i : StdInfo). i.read_at) is ∙ sym shows.read_at;
}
