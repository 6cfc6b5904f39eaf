-- A file that was found comes to have few clusters more.
use Rattle.std.proofs.Common.{◌≡◌, ℕ, ◌+◌, ◌-◌, ◌*◌, ◌^◌, ◌<◌, ◌≤◌, max, Bool, true, false, cond, ◌&&◌, List, [], ◌∷◌, length, Option, Some, None, refl, sym, ap, subst, ◌∙◌, inl, inr, arith}
use Rattle.std.specs.Prelude.{not, nat_lt, All, count_by}
use Rattle.std.specs.List.{filter, flat_map}
use Rattle.std.proofs.lemmas.Bool.{and_parts, cases_lt, lt-ltb, ltb-true}
use Rattle.std.proofs.lemmas.List.Elements.{All-filter, All-head}
use Rattle.disk_model.specs.Content.{Content}
use Rattle.record_model.specs.declared.attribute.OwnForm.{OwnForm}
use Rattle.record_model.specs.declared.attribute.OwnForm.TheVariants.{Resident, Mapped}
use Rattle.record_model.specs.declared.attribute.Attr.{Attr}
use Rattle.record_model.specs.Constants.{data_type}
use Rattle.record_model.specs.Pairs.{cluster_limit}
use Rattle.record_model.specs.Records.{Record}
use Rattle.file_puts.specs.record_writer.Edits.{whole_length}
use Rattle.file_puts.specs.record_writer.Normal.{normal, normal_form}
use Rattle.file_puts.specs.record_streams.Fitting.{IsShort, FitsButRoom}
use Rattle.file_puts.proofs.record_streams.Kept.{all_of_stream}
use Rattle.file_tree.specs.declared.node.Node.{Node}
use Rattle.file_tree.specs.Trees.{is_directory_kind, without_bytes}
use Rattle.file_puts.specs.state_model.declared.geometry.Geometry.{Geometry}
use Rattle.file_puts.specs.state_model.declared.stream.Extents.{Extents}
use Rattle.file_puts.specs.state_model.declared.stream.Stream.{Stream}
use Rattle.file_puts.specs.state_model.declared.stream.Stream.TheVariants.{Held, Placed}
use Rattle.file_puts.specs.state_model.Loads.{total_clusters}
use Rattle.file_puts.specs.state_model.Streams.{attribute_runs, is_attribute_of, attributes_of, joined, stream_of}
use Rattle.file_puts.specs.volume_model.Volumes.{Volume, file_in, size_or, cluster_bits, upper_of}
use Rattle.file_puts.specs.volume_model.Nodes.{valid_or, clusters_or}
use Rattle.file_puts.specs.volume_state.Trees.{tree_of}
use Rattle.tree_model.specs.declared.script.Op.{Op}
use Rattle.tree_model.specs.declared.script.Op.TheVariants as op
use Rattle.tree_model.specs.declared.reply.Reply.{Reply}
use Rattle.tree_model.specs.declared.reply.Reply.TheVariants as reply
use Rattle.tree_model.specs.Needs.{size_after, changes_file, shrinks, clusters_for, needed, reserve}
use Rattle.tree_model.specs.Refusals.{first_of, where_so, is_system_node, fixed_bytes, most_written, written_from, written_to, too_long, no_space, change_rows}
use Rattle.tree_model.specs.Effects.{clusters_after}
use Rattle.change_lookup.specs.declared.found.Found.TheVariants as found
use Rattle.change_lookup.specs.Comes.{is_file_change}
use Rattle.file_puts.specs.volume_model.Sizes.{fits_volume, keeps_streams}
use Rattle.file_puts.specs.plan_owners.States.{Stands}
use Rattle.file_puts.proofs.plan_owners.Standing.{streams_at}
use Rattle.file_puts.proofs.plan_growth.Placed.{some_attributes, stream_rule}
use Rattle.file_puts.proofs.plan_growth.Ruled.{sizes_lawful}
use Rattle.file_puts.proofs.plan_model.Drafting.{per_is}
use Rattle.file_puts.specs.plan_changes.Files.{IsChangeable}
use Rattle.file_puts.proofs.plan_changes.Showing.{node_shows}
use Rattle.file_puts.specs.step_model.Placing.{more_of}
use Rattle.file_puts.specs.step_model.Used.{is_in_record}
use Rattle.file_puts.specs.step_model.Streams.{Comes}
use Rattle.file_puts.proofs.step_model.UsedLengths.{value_length}
use Rattle.file_puts.specs.data_plan.Changes.{data_in, GrowsLittle, growth_of}
use Rattle.file_puts.proofs.data_plan.Cases.{comes_by, cut_stays, placed_comes}
use Rattle.change_steps.specs.Found.{HasChange, Finds}
use Rattle.change_steps.specs.Ready.{FilesAreReady}
use Rattle.change_steps.proofs.Rows.{change_rows_there}
use Rattle.change_steps.proofs.Changing.{on_file}
use Rattle.change_steps.proofs.Readying.{found_bare, shows, room}

-- ---- a value in its record is short

all_passing : (P : Attr → Type 0) (p : Attr → Bool) (attrs : List Attr) → All P attrs → All P (filter p attrs)
all_passing P p attrs all = All-filter p P attrs all

value_within : (name value : ℕ) → value ≤ whole_length 0x18 name value
value_within name value = omega arith

short_by : (a : Attr) (value : List ℕ) (indexed : ℕ) → a.form ≡ Resident value indexed → IsShort a → length value ≤ 2 ^ 21
short_by a value indexed is short =
    let spelled = value_length (normal a) value indexed (ap normal_form is) in
    let least = value_within (length a.name) (length value) in
    let most = short.short in
    omega (arith, spelled, least, most)

held_by : (form : OwnForm) (a : Attr) (others : List Attr) (value : List ℕ) → a.form ≡ form → joined (a ∷ others) ≡ Some (Held value) → IsShort a → length value ≤ 2 ^ 21
held_by (Resident bytes indexed) a others value is held short =
    let found : joined (a ∷ others) ≡ Some (Held bytes) = rw is refl in
    let same : bytes ≡ value = same_value bytes value (sym found ∙ held) in
    subst (λ (x : List ℕ). length x ≤ 2 ^ 21) same (short_by a bytes indexed is short)
  where
    same_value : (x y : List ℕ) → Some (Held x) ≡ Some (Held y) → x ≡ y
    same_value x y is = cc
held_by (Mapped sizes pairs) a others value is held short =
    (let never : joined (a ∷ others) ≡ Some (Placed (record { runs = flat_map attribute_runs (a ∷ others); allocated = sizes.allocated; real = sizes.real; initialised = sizes.initialised })) = rw is refl in absurd cc)

held_in : (attributes : List Attr) (value : List ℕ) → All IsShort attributes → joined attributes ≡ Some (Held value) → length value ≤ 2 ^ 21
held_in [] value all is = absurd cc
held_in (a ∷ others) value all is = held_by a.form a others value refl is (All-head IsShort a others all)

held_short : (r : Record) (value : List ℕ) → FitsButRoom r → data_in r ≡ Some (Held value) → length value ≤ 2 ^ 21
unfolding stream_of
held_short r value fits is =
    held_in (attributes_of data_type [] r.attrs) value (all_of_stream IsShort data_type [] r.attrs (all_passing IsShort (is_attribute_of data_type []) r.attrs fits.attrs)) is

-- ---- the sizes of a file

placed_fits : (c : Content) (g : Geometry) (clusters : ℕ) (v : Volume) (n : ℕ) (r : Record) (e : Extents) → Stands c g clusters v → file_in v n ≡ Some r → data_in r ≡ Some (Placed e) → fits_volume v.per v.clusters (Some (Placed e)) ≡ true
unfolding keeps_streams stream_of
placed_fits c g clusters v n r e stands file is =
    let some = some_attributes (attributes_of data_type [] r.attrs) (Placed e) is in
    let all = (and_parts _ _ (and_parts _ _ (and_parts _ _ (streams_at c g clusters v n r stands file)).0).0).0 in
    sym (ap (fits_volume v.per v.clusters) is) ∙ (stream_rule v.per v.clusters data_type [] r some.0 some.1 (λ same. omega (arith, same)) some.2 all).1

record HasSizesOf (s : Option Stream) : Type 0 where
  valid : valid_or s ≤ size_or s
  enough : size_or s ≤ 4096 * clusters_or s + 2 ^ 21

sizes_by : (c : Content) (g : Geometry) (clusters : ℕ) (v : Volume) (n : ℕ) (r : Record) (s : Option Stream) → Stands c g clusters v → g.per_cluster ≡ 8 → file_in v n ≡ Some r → FitsButRoom r → data_in r ≡ s → HasSizesOf s
sizes_by c g clusters v n r None stands eight file fits is = record { valid = omega arith; enough = omega arith }
sizes_by c g clusters v n r (Some (Held value)) stands eight file fits is = (let short = held_short r value fits is in record { valid = omega arith; enough = omega (arith, short) })
sizes_by c g clusters v n r (Some (Placed e)) stands eight file fits is =
    let both = sizes_lawful v.per v.clusters e (placed_fits c g clusters v n r e stands file is) in
    let real : e.real ≤ total_clusters e.runs * (512 * 8) = subst (λ (per : ℕ). e.real ≤ total_clusters e.runs * (512 * per)) (per_is c g clusters v eight stands) both.1 in
    record { valid = both.0; enough = omega (arith, real) }

-- ---- the size then

so_false : (b : Bool) (said : Reply) → where_so b said ≡ None → b ≡ false
so_false true said none = absurd cc
so_false false said none = refl

long_none : (a b d : Option Reply) (t : Bool) (long space : Option Reply) → t ≡ true → first_of (a ∷ b ∷ d ∷ cond t (long ∷ space ∷ []) []) ≡ None → long ≡ None
long_none None None None true None space is none = refl
long_none None None None true (Some said) space is none = absurd cc
long_none None None (Some said) t long space is none = absurd cc
long_none None (Some said) d t long space is none = absurd cc
long_none (Some said) b d t long space is none = absurd cc
long_none None None None false long space is none = absurd cc

not_long : (o : Op) (a : Node) → too_long o a ≡ None → shrinks o a ≡ false → written_to o a - written_from o a ≤ 65536
not_long o a none grows = elim (cases_lt most_written (written_to o a - written_from o a)) [
  | inl above ↦ absurd (clash (nat_lt most_written (written_to o a - written_from o a)) (lt-ltb most_written (written_to o a - written_from o a) above)
      (sym (ap (λ (t : Bool). not t && nat_lt most_written (written_to o a - written_from o a)) grows) ∙ so_false (not (shrinks o a) && nat_lt most_written (written_to o a - written_from o a)) (reply.TooLong (written_to o a)) none))
  | inr fits ↦ fits
]
  where
    clash : (b : Bool) → b ≡ true → b ≡ false → ⊥
    clash b first second = cc

size_grown : (o : Op) (a : Node) → is_file_change o ≡ true → changes_file o a ≡ true → a.valid ≤ a.size → written_to o a - written_from o a ≤ 65536 → size_after o a ≤ a.size + 65536
size_grown (op.Create path) a is changes valid short = absurd cc
size_grown (op.Write path offset bytes) a is changes valid short = omega (arith, valid, short)
size_grown (op.Fill path offset count byte) a is changes valid short = omega (arith, valid, short)
size_grown (op.Truncate path size) a is changes valid short = omega (arith, valid, short)
size_grown other a is changes valid short = absurd cc

size_cut : (o : Op) (a : Node) → shrinks o a ≡ true → size_after o a < a.size
size_cut (op.Truncate path size) a is = ltb-true size a.size is
size_cut other a is = absurd cc

after_by : (o : Op) (a : Node) (t : Bool) → shrinks o a ≡ t → clusters_after false o a ≡ cond t (clusters_for (size_after o a)) (max a.clusters (clusters_for (size_after o a)))
after_by o a t is = ap (λ (b : Bool). cond b (clusters_for (size_after o a)) (max a.clusters (clusters_for (size_after o a)))) is

more_by : (o : Op) (a : Node) (t : Bool) → shrinks o a ≡ t → is_file_change o ≡ true → changes_file o a ≡ true → too_long o a ≡ None → a.valid ≤ a.size → a.size ≤ 4096 * a.clusters + 2 ^ 21 → clusters_after false o a ≤ a.clusters + 2 ^ 15
more_by o a true cut is changes none valid enough = (let less = size_cut o a cut in let after = after_by o a true cut in omega (arith, less, after, enough))
more_by o a false grows is changes none valid enough =
    (let size = size_grown o a is changes valid (not_long o a none grows) in let after = after_by o a false grows in omega (arith, size, after, enough))

after_bare : (o : Op) (a : Node) → clusters_after false o (without_bytes a) ≡ clusters_after false o a
after_bare (op.Write path offset bytes) a = refl
after_bare (op.Fill path offset count byte) a = refl
after_bare (op.Truncate path size) a = refl
after_bare other a = refl

pub little : (c : Content) (g : Geometry) (clusters : ℕ) (v : Volume) (o : Op) (node a : Node) (r : Record) → HasChange c g clusters v o → Finds c v o (found.File node true) → IsChangeable c v node.number r a → FitsButRoom r → node.clusters + 2 ^ 15 ≤ cluster_limit → GrowsLittle o node
little c g clusters v o node a r has finds k fits few =
    let t = tree_of c v in
    let f = on_file c v o node true has.changes finds in
    let at : Node = f.at.a in
    let both = found_bare c v o node a r true f k in
    let rows : first_of (change_rows t 0 [] o at) ≡ None = change_rows_there (upper_of c v) t f.path o at f.at.walked f.at.none in
    let none = long_none (where_so (is_directory_kind at.kind) reply.IsDirectory) (where_so (is_system_node t.nodes t.links at) reply.System) (fixed_bytes at.why) (changes_file o at) (too_long o at) (no_space t (needed t 0 o at + reserve o at)) (sym f.at.same) rows in
    let shown = node_shows c v node.number r a k in
    let same = both.0 in
    let size : at.size ≡ size_or (data_in r) = ap (λ (x : Node). x.size) same ∙ shown.size in
    let valid : at.valid ≡ valid_or (data_in r) = ap (λ (x : Node). x.valid) same ∙ shown.valid in
    let held : at.clusters ≡ clusters_or (data_in r) = ap (λ (x : Node). x.clusters) same ∙ shown.clusters in
    let sizes = sizes_by c g clusters v node.number r (data_in r) has.stands has.eight k.file fits refl in
    let lawful : at.valid ≤ at.size = (let x = sizes.valid in omega (arith, x, size, valid)) in
    let enough : at.size ≤ 4096 * at.clusters + 2 ^ 21 = (let x = sizes.enough in omega (arith, x, size, held)) in
    let more = more_by o at (shrinks o at) refl has.changes (sym f.at.same) none lawful enough in
    let after : clusters_after false o node ≡ clusters_after false o at = ap (clusters_after false o) f.at.bare ∙ after_bare o at in
    let own : node.clusters ≡ at.clusters = ap (λ (x : Node). x.clusters) f.at.bare in
    record { few = omega (arith, more, after, own, few); more = omega (arith, more, after, own) }

-- ---- clusters enough

held_none : (bits : List Bool) (r : Record) (o : Op) (a : Node) → shrinks o a ≡ true → is_in_record (data_in r) ≡ true → more_of (growth_of bits r o a) ≡ 0
held_none bits r o a cut held = ap (λ (z : Comes). more_of z.growth) (comes_by bits r o a true (cut_stays r o a held cut))

placed_none : (bits : List Bool) (r : Record) (o : Op) (a : Node) (e : Extents) → shrinks o a ≡ true → data_in r ≡ Some (Placed e) → a.size ≡ e.real → e.real ≤ 4096 * total_clusters e.runs → more_of (growth_of bits r o a) ≡ 0
placed_none bits r o a e cut is size within =
    let come : more_of (growth_of bits r o a) ≡ clusters_after false o a - total_clusters e.runs = ap (λ (z : Comes). more_of z.growth) (placed_comes bits r o a e is) in
    let after = after_by o a true cut in
    let less = size_cut o a cut in
    omega (arith, come, after, less, size, within)

-- data that is cut takes no clusters
cut_by : (c : Content) (g : Geometry) (clusters : ℕ) (v : Volume) (o : Op) (a : Node) (n : ℕ) (r : Record) (s : Option Stream) (bits : List Bool) → Stands c g clusters v → g.per_cluster ≡ 8 → file_in v n ≡ Some r → shrinks o a ≡ true → a.size ≡ size_or s → data_in r ≡ s
    → more_of (growth_of bits r o a) ≡ 0
cut_by c g clusters v o a n r None bits stands eight file cut size is = held_none bits r o a cut (ap is_in_record is)
cut_by c g clusters v o a n r (Some (Held value)) bits stands eight file cut size is = held_none bits r o a cut (ap is_in_record is)
cut_by c g clusters v o a n r (Some (Placed e)) bits stands eight file cut size is =
    let both = sizes_lawful v.per v.clusters e (placed_fits c g clusters v n r e stands file is) in
    let real : e.real ≤ total_clusters e.runs * (512 * 8) = subst (λ (per : ℕ). e.real ≤ total_clusters e.runs * (512 * per)) (per_is c g clusters v eight stands) both.1 in
    placed_none bits r o a e cut is size (omega (arith, real))

clusters_enough : (c : Content) (g : Geometry) (clusters : ℕ) (v : Volume) (o : Op) (node a : Node) (r : Record) → HasChange c g clusters v o → Finds c v o (found.File node true) → IsChangeable c v node.number r a → more_of (growth_of (cluster_bits c v) r o node) ≤ count_by not (cluster_bits c v)
clusters_enough c g clusters v o node a r has finds k = by (shrinks o node) refl
  where
    by : (t : Bool) → shrinks o node ≡ t → more_of (growth_of (cluster_bits c v) r o node) ≤ count_by not (cluster_bits c v)
    by true cut =
        let shown = shows c g clusters v o node a r true has finds k in
        let none = cut_by c g clusters v o node node.number r (data_in r) (cluster_bits c v) has.stands has.eight k.file cut shown.size refl in
        omega (arith, none)
    by false grows = room c g clusters v o node a r has finds k grows

pub files_are_ready : FilesAreReady
files_are_ready = record { shows = shows; room = clusters_enough; little = little }
