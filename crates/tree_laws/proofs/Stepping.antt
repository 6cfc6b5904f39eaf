-- A content that stands for a tree again, after writes that replace files of its volume.
use Rattle.std.proofs.Common.{◌≡◌, ℕ, ◌*◌, ◌<◌, ◌≤◌, max, Bool, true, false, cond, eqb, leb, List, [], Option, Some, None, Ok, refl, ap, subst, ◌∙◌, inl, inr, arith}
use Rattle.std.proofs.lemmas.Bool.{cases_lt, and_parts, leb-true}
use Rattle.volume_state.specs.disk_model.Content.{Content}
use Rattle.volume_state.specs.disk_model.Writes.{Write, overlay}
use Rattle.volume_state.specs.record_model.Records.{Record}
use Rattle.volume_state.specs.record_model.Constants.{data_type}
use Rattle.volume_state.specs.file_tree.declared.tree.Tree.{Tree}
use Rattle.volume_state.specs.state_model.declared.geometry.Geometry.{Geometry}
use Rattle.volume_state.specs.state_model.declared.stream.Extents.{Extents}
use Rattle.volume_state.specs.state_model.Loads.{record_count}
use Rattle.volume_state.specs.state_model.Rules.{implies, at_file, first_failing}
use Rattle.volume_state.specs.volume_model.Volumes.{Volume, volume_of, count_of, file_in, file_stream, table_file, bitmap_file, size_or, cluster_bitmap, record_bitmap}
use Rattle.volume_state.specs.volume_model.Sizes.{keeps_place, keeps_bitmaps, keeps_streams, keeps_sizes}
use Rattle.volume_state.specs.Rules.{file_count, broken_4}
use Rattle.volume_state.specs.Trees.{Holds, IsState, tree_of}
use Rattle.stream_laws.specs.Replacing.{FileEdit, with_edits}
use Rattle.stream_laws.specs.Rewrites.{with_files, is_edited}
use Rattle.stream_laws.proofs.Editing.{length-with_edits}
use Rattle.stream_laws.proofs.Rewriting.{volume_written, edits_changed, count_is, goes_on_itself}
use Rattle.tree_laws.specs.Growth.{GrowsTable}
use Rattle.tree_laws.specs.LookUps.{links_lost, links_gained, TreeLedTo, touched_or_new}
use Rattle.tree_laws.specs.Steps.{stepped, ReplacesFiles}
use Rattle.tree_laws.proofs.Changing.{changed_holds}
use Rattle.tree_laws.proofs.Growing.{grown_holds}
use Rattle.tree_laws.proofs.Keeping.{passes_below}
use Rattle.tree_laws.proofs.LookingUp.{led_by_edits, led_by_growth}
use Rattle.tree_laws.proofs.Naming.{no_file}

pub step_loaded : (inside : ℕ → Bool) (c : Content) (g : Geometry) (clusters : ℕ) (v : Volume) (f : Extents) (writes : List Write) (edits : List FileEdit) → volume_of c g clusters ≡ Ok v → ReplacesFiles inside c g v f writes edits → volume_of (overlay c writes) g clusters ≡ Ok (stepped v f edits)
step_loaded inside c g clusters v f writes edits is k =
    let fits : count_of v ≤ record_count f = omega (arith, count_is c g clusters v is, k.records.grows.count) in
    volume_written c writes g clusters v f (is_edited edits) k.sized is k.extents k.records ∙ ap (λ (w : Volume). Ok w) (edits_changed (overlay c writes) v f edits k.distinct fits k.files)

middle : (inside : ℕ → Bool) (c : Content) (g : Geometry) (v : Volume) (f : Extents) (writes : List Write) (edits : List FileEdit) (t : Tree) → Holds c v t → ReplacesFiles inside c g v f writes edits
    → Holds (overlay c writes) (with_files v (with_edits edits v.files)) (tree_of (overlay c writes) (with_files v (with_edits edits v.files)))
middle inside c g v f writes edits t holds k = changed_holds (is_edited edits) inside c (overlay c writes) v (with_edits edits v.files) t holds k.touches k.agrees k.keeps

pub step_holds : (inside : ℕ → Bool) (c : Content) (g : Geometry) (v : Volume) (f : Extents) (writes : List Write) (edits : List FileEdit) (t : Tree) → Holds c v t → ReplacesFiles inside c g v f writes edits → Holds (overlay c writes) (stepped v f edits) (tree_of (overlay c writes) (stepped v f edits))
step_holds inside c g v f writes edits t holds k =
    let w = with_files v (with_edits edits v.files) in
    grown_holds (overlay c writes) w f (tree_of (overlay c writes) w) (middle inside c g v f writes edits t holds k) k.grows

pub step_state : (inside : ℕ → Bool) (c : Content) (g : Geometry) (clusters : ℕ) (f : Extents) (writes : List Write) (edits : List FileEdit) (t : Tree) (s : IsState c g clusters t) → ReplacesFiles inside c g s.volume f writes edits
    → IsState (overlay c writes) g clusters (tree_of (overlay c writes) (stepped s.volume f edits))
step_state inside c g clusters f writes edits t s k = record {
  volume = stepped s.volume f edits;
  loaded = step_loaded inside c g clusters s.volume f writes edits s.loaded k;
  holds = step_holds inside c g s.volume f writes edits t s.holds k;
}

pub step_tree : (inside : ℕ → Bool) (c : Content) (g : Geometry) (v : Volume) (f : Extents) (writes : List Write) (edits : List FileEdit) (t : Tree) → Holds c v t → ReplacesFiles inside c g v f writes edits
    → TreeLedTo (touched_or_new (is_edited edits) (count_of v)) c (overlay c writes) v (stepped v f edits) (links_lost v.files edits) (links_gained edits) t (tree_of (overlay c writes) (stepped v f edits))
step_tree inside c g v f writes edits t holds k =
    let d = overlay c writes in
    let w = with_files v (with_edits edits v.files) in
    let now = middle inside c g v f writes edits t holds k in
    let led = led_by_edits (is_edited edits) inside c d v edits t holds k.distinct k.touches k.agrees k.shown in
    let grows = led_by_growth (is_edited edits) c d v w f (links_lost v.files edits) (links_gained edits) t (tree_of d w) refl holds now led k.grows in
    subst (λ (n : ℕ). TreeLedTo (touched_or_new (is_edited edits) n) c d v (stepped v f edits) (links_lost v.files edits) (links_gained edits) t (tree_of d (stepped v f edits))) (length-with_edits v.files edits) grows

-- ---- volumes with records enough

where_placed : (placed : Bool) (x : Option ℕ) → cond placed x (Some 0) ≡ None → x ≡ None
where_placed true x none = none
where_placed false x none = absurd cc

kept_sizes : (c : Content) (v : Volume) (m : ℕ) → broken_4 c v ≡ None → m < max (count_of v) 7 → keeps_sizes c v m ≡ true
unfolding broken_4
kept_sizes c v m none below = passes_below (keeps_sizes c v) (file_count v) (where_placed (keeps_place v) (first_failing (keeps_sizes c v) (file_count v)) none) m below

bitmaps_kept : (c : Content) (v : Volume) (m : ℕ) → broken_4 c v ≡ None → m < max (count_of v) 7 → (implies (eqb m table_file) (leb (count_of v) (8 * size_or (record_bitmap v))) ≡ true) × (implies (eqb m bitmap_file) (leb v.clusters (8 * size_or (cluster_bitmap v))) ≡ true)
unfolding keeps_sizes keeps_bitmaps
bitmaps_kept c v m none below =
    let parts = and_parts (at_file (keeps_streams c v m) (file_in v m)) (keeps_bitmaps v m) (kept_sizes c v m none below) in
    and_parts (implies (eqb m table_file) (leb (count_of v) (8 * size_or (record_bitmap v)))) (implies (eqb m bitmap_file) (leb v.clusters (8 * size_or (cluster_bitmap v)))) parts.1

pub records_enough : (c : Content) (v : Volume) → broken_4 c v ≡ None → 0 < v.clusters → 7 ≤ count_of v
records_enough c v none some = elim (cases_lt (count_of v) 7) [
  | inl few ↦
      (let marks : leb v.clusters (8 * size_or (cluster_bitmap v)) ≡ true = (bitmaps_kept c v bitmap_file none (omega arith)).1 in
      let empty : size_or (cluster_bitmap v) ≡ 0 = ap (λ (o : Option Record). size_or (file_stream data_type [] o)) (no_file v.files bitmap_file (omega (arith, few))) in
      let less = leb-true v.clusters (8 * size_or (cluster_bitmap v)) marks in
      absurd (omega (arith, less, empty, some)))
  | inr enough ↦ enough
]

pub grows_by_none : (c d : Content) (g : Geometry) (clusters : ℕ) (v : Volume) (edits : List FileEdit) → volume_of c g clusters ≡ Ok v → broken_4 d (with_files v (with_edits edits v.files)) ≡ None → 0 < v.clusters → GrowsTable d (with_files v (with_edits edits v.files)) v.table
grows_by_none c d g clusters v edits is none some =
    let w = with_files v (with_edits edits v.files) in
    let size : count_of w ≡ record_count v.table = length-with_edits v.files edits ∙ count_is c g clusters v is in
    let enough = records_enough d w none some in
    let bits : leb (count_of w) (8 * size_or (record_bitmap w)) ≡ true = (bitmaps_kept d w table_file none (omega (arith, enough))).0 in
    record {
      counted = size;
      four = omega (arith, enough);
      goes_on = goes_on_itself c g clusters v is;
      bitmap = (let fits = leb-true (count_of w) (8 * size_or (record_bitmap w)) bits in omega (arith, fits, size));
      blank = λ m past below. absurd (omega (arith, past, below, size));
      clear = λ m past below. absurd (omega (arith, past, below, size));
    }
