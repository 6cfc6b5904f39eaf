-- A file that was found is what the calls ask for.
use Rattle.std.proofs.Common.{◌≡◌, ℕ, ◌+◌, ◌-◌, ◌<◌, ◌≤◌, max, Bool, true, false, cond, List, [], ◌∷◌, Option, Some, None, refl, sym, ap, subst, ◌∙◌, inl, inr, arith}
use Rattle.std.specs.Prelude.{not, nat_lt, count_by}
use Rattle.std.proofs.lemmas.Bool.{cases_lt, lt-ltb}
use Rattle.disk_model.specs.Content.{Content}
use Rattle.record_model.specs.Records.{Record}
use Rattle.record_model.specs.Constants.{data_type}
use Rattle.file_tree.specs.declared.node.Node.{Node}
use Rattle.file_tree.specs.declared.tree.Tree.{Tree}
use Rattle.file_tree.specs.Trees.{node_at as node_by_number, is_directory_kind, without_bytes}
use Rattle.file_puts.specs.state_model.declared.geometry.Geometry.{Geometry}
use Rattle.file_puts.specs.state_model.declared.stream.Extents.{Extents}
use Rattle.file_puts.specs.state_model.declared.stream.Stream.{Stream}
use Rattle.file_puts.specs.state_model.declared.stream.Stream.TheVariants.{Held, Placed}
use Rattle.file_puts.specs.state_model.Loads.{total_clusters}
use Rattle.file_puts.specs.volume_model.Volumes.{Volume, cluster_bits, upper_of}
use Rattle.file_puts.specs.volume_model.Nodes.{clusters_or, free_clusters}
use Rattle.file_puts.specs.volume_state.Trees.{tree_with, tree_of}
use Rattle.file_puts.specs.stream_laws.Sharing.{runs_in}
use Rattle.tree_model.specs.declared.script.Op.{Op}
use Rattle.tree_model.specs.declared.script.Op.TheVariants as op
use Rattle.tree_model.specs.declared.reply.Reply.{Reply}
use Rattle.tree_model.specs.declared.reply.Reply.TheVariants as reply
use Rattle.tree_model.specs.Needs.{size_after, changes_file, shrinks, clusters_for, bytes_part, needed, reserve}
use Rattle.tree_model.specs.Refusals.{first_of, where_so, is_system_node, fixed_bytes, too_long, no_space, change_rows}
use Rattle.tree_model.specs.Effects.{bytes_after, valid_after, clusters_after}
use Rattle.change_lookup.specs.declared.found.Found.TheVariants as found
use Rattle.change_lookup.specs.Comes.{is_file_change}
use Rattle.file_puts.specs.resized_streams.declared.resized.Resized.{Resized}
use Rattle.file_puts.specs.resized_streams.Resizing.{unplaced, IsGrown, IsCut, IsSized}
use Rattle.file_puts.specs.step_model.Placing.{Growth, more_of}
use Rattle.file_puts.specs.step_model.Streams.{Comes, as_value, in_clusters, wanted_data, data_comes, one_change}
use Rattle.file_puts.specs.step_model.Plans.{full_row, used_in}
use Rattle.file_puts.specs.plan_changes.Files.{IsChangeable}
use Rattle.file_puts.proofs.plan_changes.Showing.{node_shows}
use Rattle.file_puts.specs.draft_streams.Parts.{touch_bytes}
use Rattle.file_puts.specs.draft_records.Records.{written_record}
use Rattle.file_puts.specs.record_values.Values.{valued_record}
use Rattle.file_puts.specs.plan_draft.declared.touched.Touched.{Touched}
use Rattle.file_puts.specs.data_plan.declared.change.DataChange.{DataChange}
use Rattle.file_puts.specs.data_plan.declared.change.DataChange.TheVariants as change
use Rattle.file_puts.specs.data_plan.Changes.{data_in, ShowsData, growth_of, IsChange}
use Rattle.file_puts.proofs.data_plan.Cases.{StaysIn, comes_by}
use Rattle.file_puts.specs.declared.streams.VolumeStreams.{VolumeStreams}
use Rattle.file_puts.specs.Puts.{with_bytes, first_fresh, PutsFileValue, PutsTimes, PutsSizes, PutsValue, PutsLeaving, PutsSized, PutsChange}
use Rattle.file_puts.specs.plan_changes.Bytes.{place_of, put_of}
use Rattle.change_steps.specs.Found.{HasChange, Finds}
use Rattle.change_steps.specs.Ready.{BareIsEnough}
use Rattle.change_steps.proofs.Rows.{change_rows_there}
use Rattle.change_steps.proofs.Finding.{node_there}
use Rattle.change_steps.proofs.Changing.{OnFile, on_file}

-- ---- without bytes

comes_bare : (bits : List Bool) (r : Record) (o : Op) (a : Node) → data_comes bits r o (without_bytes a) ≡ data_comes bits r o a
unfolding data_comes
comes_bare bits r (op.Write path offset bytes) a = refl
comes_bare bits r (op.Fill path offset count byte) a = refl
comes_bare bits r (op.Truncate path size) a = refl
comes_bare bits r other a = refl

size_bare : (o : Op) (a : Node) → size_after o (without_bytes a) ≡ size_after o a
size_bare (op.Write path offset bytes) a = refl
size_bare (op.Fill path offset count byte) a = refl
size_bare (op.Truncate path size) a = refl
size_bare other a = refl

valid_bare : (o : Op) (a : Node) → valid_after o (without_bytes a) ≡ valid_after o a
valid_bare (op.Write path offset bytes) a = refl
valid_bare (op.Fill path offset count byte) a = refl
valid_bare (op.Truncate path size) a = refl
valid_bare other a = refl

place_bare : (o : Op) (a : Node) → place_of o (without_bytes a) ≡ place_of o a
place_bare (op.Write path offset bytes) a = refl
place_bare (op.Fill path offset count byte) a = refl
place_bare other a = refl

put_bare : (o : Op) (a : Node) → put_of o (without_bytes a) ≡ put_of o a
put_bare (op.Write path offset bytes) a = refl
put_bare (op.Fill path offset count byte) a = refl
put_bare (op.Truncate path size) a = refl
put_bare other a = refl

shrinks_bare : (o : Op) (a : Node) → shrinks o (without_bytes a) ≡ shrinks o a
shrinks_bare (op.Truncate path size) a = refl
shrinks_bare other a = refl

bytes_bare : (o : Op) (value : List ℕ) (a : Node) → bytes_after o (with_bytes value (without_bytes a)) ≡ bytes_after o (with_bytes value a)
bytes_bare (op.Write path offset bytes) value a = refl
bytes_bare (op.Fill path offset count byte) value a = refl
bytes_bare (op.Truncate path size) value a = refl
bytes_bare other value a = refl

change_bare : (g : Growth) (r : Record) (o : Op) (a : Node) (what : DataChange) → IsChange g r o (without_bytes a) what → IsChange g r o a what
change_bare g r o a (change.Stays size) k = record { stands = k.stands; size_is = k.size_is ∙ size_bare o a; room = k.room }
change_bare g r o a (change.Leaves z) k = record { value = k.value; held = k.held; takes = k.takes; grown = subst (λ (size : ℕ). IsGrown 8 data_type [] (unplaced size) r g.runs z) (size_bare o a) k.grown }
change_bare g r o a (change.Grows z) k = k
change_bare g r o a (change.Cut z) k = record {
  e = k.e;
  placed = k.placed;
  less = subst (λ (size : ℕ). size < k.e.real) (size_bare o a) k.less;
  takes = k.takes;
  cut = subst (λ (size : ℕ). IsCut 8 data_type [] k.e r size z) (size_bare o a) k.cut;
}
change_bare g r o a (change.Sized z) k = record {
  e = k.e;
  placed = k.placed;
  takes = k.takes;
  sized = subst (λ (size : ℕ). IsSized 8 data_type [] k.e r size (valid_after o a) z) (size_bare o a) (subst (λ (valid : ℕ). IsSized 8 data_type [] k.e r (size_after o (without_bytes a)) valid z) (valid_bare o a) k.sized);
}

module _ (c : Content) (s : VolumeStreams) (n : ℕ) (o : Op) (a : Node) (stamp : ℕ) (r : Record) where
  value_bare : (old new : List Touched) → PutsValue c s n o (without_bytes a) stamp r old new → PutsValue c s n o a stamp r old new
  value_bare old new k = record { value = k.value; held = k.held; put = subst (λ (bytes : List ℕ). PutsTimes c s n stamp (valued_record data_type [] bytes r) old new) (bytes_bare o k.value a) k.put }

  leaving_bare : (z : Resized) (old new : List Touched) → PutsLeaving c s n o (without_bytes a) stamp r z old new → PutsLeaving c s n o a stamp r z old new
  leaving_bare z old new k = record { value = k.value; held = k.held; mid = k.mid; moved = subst (λ (bytes : List ℕ). PutsFileValue c s n z bytes old k.mid) (bytes_bare o k.value a) k.moved; times = k.times }

sizes_bare : (c : Content) (s : VolumeStreams) (n : ℕ) (o : Op) (a : Node) (stamp : ℕ) (e : Extents) (r : Record) (old new : List Touched) → PutsSizes c s n o (without_bytes a) stamp e r old new → PutsSizes c s n o a stamp e r old new
sizes_bare c s n o a stamp e r old new k = record {
  z = k.z;
  sized = subst (λ (size : ℕ). IsSized 8 data_type [] e r size (valid_after o a) k.z) (size_bare o a) (subst (λ (valid : ℕ). IsSized 8 data_type [] e r (size_after o (without_bytes a)) valid k.z) (valid_bare o a) k.sized);
  mid = k.mid;
  far = k.far;
  file = k.file;
  bytes = k.bytes ∙ ap (λ (place : ℕ). touch_bytes c 8 k.z.extents.runs (first_fresh e) place (put_of o (without_bytes a)) k.mid) (place_bare o a) ∙ ap (λ (put : List ℕ). touch_bytes c 8 k.z.extents.runs (first_fresh e) (place_of o a) put k.mid) (put_bare o a);
  times = k.times;
}

sized_bare : (t : Bool) (c : Content) (s : VolumeStreams) (n : ℕ) (o : Op) (a : Node) (stamp : ℕ) (r : Record) (z : Resized) (old new : List Touched) → PutsSized t c s n o (without_bytes a) stamp r z old new → PutsSized t c s n o a stamp r z old new
sized_bare true c s n o a stamp r z old new k = k
sized_bare false c s n o a stamp r z old new k = record { e = k.e; placed = k.placed; sizes = sizes_bare c s n o a stamp k.e r old new k.sizes }

puts_bare : (c : Content) (s : VolumeStreams) (n : ℕ) (o : Op) (a : Node) (stamp : ℕ) (r : Record) (what : DataChange) (old new : List Touched) → PutsChange c s n o (without_bytes a) stamp r what old new → PutsChange c s n o a stamp r what old new
puts_bare c s n o a stamp r (change.Stays size) old new k = value_bare c s n o a stamp r old new k
puts_bare c s n o a stamp r (change.Leaves z) old new k = leaving_bare c s n o a stamp r z old new k
puts_bare c s n o a stamp r (change.Grows z) old new k = record { mid = k.mid; grown = k.grown; sizes = sizes_bare c s n o a stamp z.extents (written_record z.file) k.mid new k.sizes }
puts_bare c s n o a stamp r (change.Cut z) old new k = k
puts_bare c s n o a stamp r (change.Sized z) old new k =
    subst (λ (t : Bool). PutsSized t c s n o a stamp r z old new) (shrinks_bare o a) (sized_bare (shrinks o (without_bytes a)) c s n o a stamp r z old new k)

pub bare_is_enough : BareIsEnough
bare_is_enough = record {
  growth = λ bits r o a. ap (λ (z : Comes). z.growth) (comes_bare bits r o a);
  row = λ bits r o a. ap (λ (z : Comes). full_row (used_in (Some r) (one_change z))) (comes_bare bits r o a);
  change = change_bare;
  puts = puts_bare;
}

-- ---- the file that was found

-- its node is the one that was found, but for bytes
same_node : (o : Option Node) (a b : Node) → o ≡ Some a → o ≡ Some b → a ≡ b
same_node o a b first second = cc

pub found_bare : (c : Content) (v : Volume) (o : Op) (node a : Node) (r : Record) (changes : Bool) (f : OnFile c v o node changes) → IsChangeable c v node.number r a → (f.at.a ≡ a) × (node ≡ without_bytes a)
found_bare c v o node a r changes f k =
    let t = tree_of c v in
    let numbers : node.number ≡ f.at.a.number = ap (λ (x : Node). x.number) f.at.bare in
    let same : f.at.a ≡ a = same_node (node_by_number t.nodes node.number) f.at.a a (ap (node_by_number t.nodes) numbers ∙ node_there (upper_of c v) t f.path f.at.a f.at.walked) k.node in
    (same, f.at.bare ∙ ap without_bytes same)

pub shows : (c : Content) (g : Geometry) (clusters : ℕ) (v : Volume) (o : Op) (node a : Node) (r : Record) (changes : Bool) → HasChange c g clusters v o → Finds c v o (found.File node changes) → IsChangeable c v node.number r a → ShowsData node r
shows c g clusters v o node a r changes has finds k =
    let both = found_bare c v o node a r changes (on_file c v o node changes has.changes finds) k in
    let shown = node_shows c v node.number r a k in
    record {
      size = ap (λ (x : Node). x.size) both.1 ∙ shown.size;
      valid = ap (λ (x : Node). x.valid) both.1 ∙ shown.valid;
      clusters = ap (λ (x : Node). x.clusters) both.1 ∙ shown.clusters;
    }

-- ---- room

tree_room : (c : Content) (v : Volume) → (tree_of c v).room ≡ count_by not (cluster_bits c v)
unfolding tree_of tree_with free_clusters
tree_room c v = refl

last_none : (a b d : Option Reply) (t : Bool) (long space : Option Reply) → t ≡ true → first_of (a ∷ b ∷ d ∷ cond t (long ∷ space ∷ []) []) ≡ None → space ≡ None
last_none None None None true None None is none = refl
last_none None None None true None (Some said) is none = absurd cc
last_none None None None true (Some said) space is none = absurd cc
last_none None None (Some said) t long space is none = absurd cc
last_none None (Some said) d t long space is none = absurd cc
last_none (Some said) b d t long space is none = absurd cc
last_none None None None false long space is none = absurd cc

so_none : (b : Bool) (said : Reply) → where_so b said ≡ None → b ≡ false
so_none true said none = absurd cc
so_none false said none = refl

enough : (t : Tree) (wanted : ℕ) → no_space t wanted ≡ None → wanted ≤ t.room
enough t wanted none = elim (cases_lt t.room wanted) [
  | inl less ↦ absurd (clash (nat_lt t.room wanted) (lt-ltb t.room wanted less) (so_none (nat_lt t.room wanted) (reply.NoSpace t.room wanted) none))
  | inr fits ↦ fits
]
  where
    clash : (b : Bool) → b ≡ true → b ≡ false → ⊥
    clash b first second = cc

needed_by : (t : Tree) (o : Op) (a : Node) → t.journal ≡ None → is_file_change o ≡ true → changes_file o a ≡ true → shrinks o a ≡ false → bytes_part a (size_after o a) ≤ needed t 0 o a
needed_by t (op.Create path) a none is changes grows = absurd cc
needed_by t (op.Write path offset bytes) a none is changes grows = rw changes (rw none (omega arith))
needed_by t (op.Fill path offset count byte) a none is changes grows = rw changes (rw none (omega arith))
needed_by t (op.Truncate path size) a none is changes grows = rw changes (rw none (rw grows (omega arith)))
needed_by t other a none is changes grows = absurd cc

clusters_of_runs : (s : Option Stream) → total_clusters (runs_in s) ≡ clusters_or s
clusters_of_runs None = refl
clusters_of_runs (Some (Held value)) = refl
clusters_of_runs (Some (Placed e)) = refl

value_more : (r : Record) (o : Op) (a : Node) → more_of (as_value r (wanted_data o a)).growth ≡ 0
value_more r o a = refl

clusters_more : (bits : List Bool) (r : Record) (o : Op) (a : Node) → more_of (in_clusters bits r (wanted_data o a)).growth ≡ clusters_after false o a - total_clusters (runs_in (data_in r))
unfolding in_clusters
clusters_more bits r o a = refl

more_by : (bits : List Bool) (r : Record) (o : Op) (a : Node) (t : Bool) → StaysIn r o a ≡ t → more_of (growth_of bits r o a) ≤ clusters_after false o a - total_clusters (runs_in (data_in r))
more_by bits r o a true is = (let e = ap (λ (z : Comes). more_of z.growth) (comes_by bits r o a true is) in let none = value_more r o a in omega (arith, e, none))
more_by bits r o a false is = (let e = ap (λ (z : Comes). more_of z.growth) (comes_by bits r o a false is) in let more = clusters_more bits r o a in omega (arith, e, more))

clusters_grown : (o : Op) (a : Node) → shrinks o a ≡ false → clusters_after false o a ≡ max a.clusters (clusters_for (size_after o a))
clusters_grown o a grows = ap (λ (t : Bool). cond t (clusters_for (size_after o a)) (max a.clusters (clusters_for (size_after o a)))) grows

room_at : (c : Content) (v : Volume) (o : Op) (a : Node) (r : Record) → a.clusters ≡ clusters_or (data_in r) → bytes_part a (size_after o a) ≤ (tree_of c v).room → shrinks o a ≡ false → more_of (growth_of (cluster_bits c v) r o a) ≤ count_by not (cluster_bits c v)
room_at c v o a r clusters fits grows =
    let more = more_by (cluster_bits c v) r o a (StaysIn r o a) refl in
    let runs = clusters_of_runs (data_in r) in
    let room = tree_room c v in
    let after = clusters_grown o a grows in
    omega (arith, more, runs, room, after, clusters, fits)

pub room : (c : Content) (g : Geometry) (clusters : ℕ) (v : Volume) (o : Op) (node a : Node) (r : Record) → HasChange c g clusters v o → Finds c v o (found.File node true) → IsChangeable c v node.number r a → shrinks o node ≡ false
    → more_of (growth_of (cluster_bits c v) r o node) ≤ count_by not (cluster_bits c v)
room c g clusters v o node a r has finds k grows =
    let t = tree_of c v in
    let f = on_file c v o node true has.changes finds in
    let both = found_bare c v o node a r true f k in
    let rows : first_of (change_rows t 0 [] o f.at.a) ≡ None = change_rows_there (upper_of c v) t f.path o f.at.a f.at.walked f.at.none in
    let at : Node = f.at.a in
    let space = last_none (where_so (is_directory_kind at.kind) reply.IsDirectory) (where_so (is_system_node t.nodes t.links at) reply.System) (fixed_bytes at.why) (changes_file o at) (too_long o at) (no_space t (needed t 0 o at + reserve o at)) (sym f.at.same) rows in
    let fits = enough t (needed t 0 o at + reserve o at) space in
    let grows_there : shrinks o at ≡ false = sym (shrinks_bare o at) ∙ ap (shrinks o) (sym f.at.bare) ∙ grows in
    let part = needed_by t o at has.journal has.changes (sym f.at.same) grows_there in
    let clusters_there : at.clusters ≡ clusters_or (data_in r) = ap (λ (x : Node). x.clusters) both.0 ∙ (node_shows c v node.number r a k).clusters in
    let there = room_at c v o at r clusters_there (omega (arith, fits, part)) grows_there in
    let growths : growth_of (cluster_bits c v) r o node ≡ growth_of (cluster_bits c v) r o at = ap (growth_of (cluster_bits c v) r o) f.at.bare ∙ ap (λ (z : Comes). z.growth) (comes_bare (cluster_bits c v) r o at) in
    subst (λ (x : Growth). more_of x ≤ count_by not (cluster_bits c v)) (sym growths) there
