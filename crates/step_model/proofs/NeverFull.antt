-- Which files are never too full.
use Rattle.std.proofs.Common.{◌≡◌, ◌⊎◌, inl, inr, ℕ, ◌+◌, ◌*◌, ◌<◌, ◌≤◌, Bool, true, false, cond, not, nat_eq, List, [], ◌∷◌, length, Some, None, refl, sym, ap, ◌∙◌, arith}
use Rattle.std.specs.Prelude.{◌==◌, ◌&&◌, ◌||◌, nat_le, if◌then◌else◌}
use Rattle.std.specs.List.{filter, flat_map, sum_by}
use Rattle.std.specs.List.Sorted.{IsPermutation}
use Rattle.std.specs.Cmp.Lexicographic.{pointwise}
use Rattle.std.proofs.lemmas.Bool.{and_parts}
use Rattle.std.proofs.lemmas.Bool.Decides.{nat_tests}
use Rattle.std.proofs.lemmas.List.Sums.{sum_by-cons}
use Rattle.std.proofs.lemmas.List.Sorted.{sum_by-IsPermutation}
use Rattle.record_writer.specs.disk_model.Bytes.{zeros}
use Rattle.plan_model.specs.record_model.declared.attribute.OwnForm.{OwnForm}
use Rattle.plan_model.specs.record_model.declared.attribute.OwnForm.TheVariants.{Resident, Mapped}
use Rattle.plan_model.specs.record_model.declared.attribute.Attr.{Attr}
use Rattle.plan_model.specs.record_model.declared.attribute.Sizes.{Sizes}
use Rattle.plan_model.specs.record_model.declared.runs.Run.{Run}
use Rattle.plan_model.specs.record_model.Attributes.{is_compressed_or_sparse, spelling, held_bytes}
use Rattle.plan_model.specs.record_model.Constants.{standard_information, file_name, data_type}
use Rattle.plan_model.specs.record_model.Pairs.{pairs_of}
use Rattle.plan_model.specs.record_model.Records.{Record, spelled_bytes, used_of}
use Rattle.plan_model.proofs.record_model.UnitBytes.{length-zeros}
use Rattle.record_writer.specs.Edits.{whole_length}
use Rattle.record_writer.proofs.Measures.{length-spelling, held_length}
use Rattle.plan_model.specs.file_tree.declared.node.Node.{Node}
use Rattle.plan_model.specs.state_model.Loads.{total_clusters}
use Rattle.plan_model.specs.state_model.Streams.{is_attribute_of, attributes_of, sorted_into, attribute_runs, form_stream, joined, stream_of}
use Rattle.plan_model.specs.volume_model.Volumes.{size_or}
use Rattle.plan_model.specs.stream_laws.Sharing.{runs_in}
use Rattle.run_model.specs.tree_model.declared.script.Op.{Op}
use Rattle.run_model.specs.tree_model.declared.script.Op.TheVariants as op
use Rattle.run_model.specs.tree_model.Needs.{size_after, shrinks}
use Rattle.step_model.specs.Placing.{Growth, runs_after}
use Rattle.step_model.specs.Used.{most_used, is_replaced, attrs_with, used_after, new_attr, own_attr, first_or, value_attr, placed_attr, is_in_record, stays_in}
use Rattle.step_model.specs.Streams.{Wanted, stream_in, as_value, placed_among, in_clusters, comes, wanted_data, is_value_cut, data_comes, data_of}
use Rattle.step_model.specs.Plans.{new_file_attrs}
use Rattle.step_model.specs.UsedLaws.{UsedBytes, IsPlainFile, AreFew, NeverFull}
use Rattle.step_model.proofs.UsedLengths.{value_length, few_pairs, short_value, few_placed, within_eights}

-- ---- used bytes

as_sum : (attrs : List Attr) → spelled_bytes attrs ≡ sum_by (λ a. length (spelling a)) attrs
as_sum [] = refl
as_sum (a ∷ attrs) = ap (λ n. length (spelling a) + n) (as_sum attrs) ∙ sym (sum_by-cons (λ (b : Attr). length (spelling b)) a attrs)

any_order : (attrs others : List Attr) → IsPermutation attrs others → used_of others ≡ used_of attrs
any_order attrs others same = ap (λ n. 0x38 + n + 8) (as_sum others ∙ sum_by-IsPermutation (λ a. length (spelling a)) attrs others same ∙ sym (as_sum attrs))

all_stay : (attrs : List Attr) → filter (λ a. not (is_replaced [] a)) attrs ≡ attrs
all_stay [] = refl
all_stay (a ∷ attrs) = ap (λ l. a ∷ l) (all_stay attrs)

pub none_comes : (r : Record) → used_after [] r ≡ used_of r.attrs
unfolding used_after attrs_with
none_comes r = ap used_of (all_stay r.attrs)

header_by : (flags bytes : ℕ) (b : Bool) → is_compressed_or_sparse flags ≡ b → 0x40 + length (held_bytes (cond b (Some bytes) None)) ≡ (if b then 0x48 else 0x40)
header_by flags bytes true is = held_length (Some bytes)
header_by flags bytes false is = held_length None

placed_length : (real initialised : ℕ) (runs : List Run) (a : Attr) → length (spelling (placed_attr real initialised runs a)) ≡ whole_length (if is_compressed_or_sparse a.head.flags then 0x48 else 0x40) (length a.name) (length (pairs_of runs))
placed_length real initialised runs a =
    length-spelling (placed_attr real initialised runs a)
    ∙ ap (λ h. whole_length h (length a.name) (length (pairs_of runs))) (header_by a.head.flags (4096 * total_clusters runs) (is_compressed_or_sparse a.head.flags) refl)

value_zeros : (size : ℕ) (a : Attr) → length (spelling (value_attr size a)) ≡ whole_length 0x18 (length a.name) size
value_zeros size a = length-spelling (value_attr size a) ∙ ap (whole_length 0x18 (length a.name)) (length-zeros size)

pub used_bytes : UsedBytes
used_bytes = record { order = any_order; none = none_comes; value = value_zeros; placed = placed_length }

-- ---- the attributes of a plain file

not_data : (a : Attr) (kind : ℕ) → a.head.kind ≡ kind → (kind == data_type) ≡ false → is_attribute_of data_type [] a ≡ false
unfolding is_attribute_of
not_data a kind is other = ap (λ k. (k == data_type) && pointwise nat_eq a.name []) is ∙ ap (λ b. b && pointwise nat_eq a.name []) other

is_data : (a : Attr) → a.head.kind ≡ data_type → a.name ≡ [] → is_attribute_of data_type [] a ≡ true
unfolding is_attribute_of
is_data a kind unnamed = ap (λ k. (k == data_type) && pointwise nat_eq a.name []) kind ∙ ap (λ n. pointwise nat_eq n []) unnamed

third_alone : {A : Type 0} (p : A → Bool) (a b c : A) → p a ≡ false → p b ≡ false → p c ≡ true → filter p (a ∷ b ∷ c ∷ []) ≡ c ∷ []
third_alone {A} p a b c first second third =
    ap (λ t. cond t (a ∷ filter p (b ∷ c ∷ [])) (filter p (b ∷ c ∷ []))) first
    ∙ ap (λ t. cond t (b ∷ filter p (c ∷ [])) (filter p (c ∷ []))) second
    ∙ ap (λ t. cond {A = List A} t (c ∷ []) []) third

first_two : {A : Type 0} (p : A → Bool) (a b c : A) → p a ≡ true → p b ≡ true → p c ≡ false → filter p (a ∷ b ∷ c ∷ []) ≡ a ∷ b ∷ []
first_two {A} p a b c first second third =
    ap (λ t. cond t (a ∷ filter p (b ∷ c ∷ [])) (filter p (b ∷ c ∷ []))) first
    ∙ ap (λ t. a ∷ cond t (b ∷ filter p (c ∷ [])) (filter p (c ∷ []))) second
    ∙ ap (λ t. a ∷ b ∷ cond {A = List A} t (c ∷ []) []) third

data_alone : (r : Record) (stream : Attr) → IsPlainFile r stream → attributes_of data_type [] r.attrs ≡ stream ∷ []
unfolding attributes_of
data_alone r stream plain =
    ap (λ attrs. sorted_into [] (filter (is_attribute_of data_type []) attrs)) plain.attrs
    ∙ ap (sorted_into [])
    (third_alone (is_attribute_of data_type []) plain.info plain.name stream (not_data plain.info standard_information plain.has_info.is_kind refl) (not_data plain.name file_name plain.has_name.is_kind refl) (is_data stream plain.is_data plain.unnamed))

data_attr : (r : Record) (stream : Attr) → IsPlainFile r stream → own_attr data_type [] r ≡ stream
unfolding own_attr
data_attr r stream plain = ap (first_or (new_attr data_type [])) (data_alone r stream plain)

data_stream : (r : Record) (stream : Attr) (form : OwnForm) → IsPlainFile r stream → stream.form ≡ form → stream_of data_type [] r.attrs ≡ Some (form_stream form (flat_map attribute_runs (stream ∷ [])))
unfolding stream_of
data_stream r stream form plain is = ap joined (data_alone r stream plain) ∙ ap (λ (f : OwnForm). Some (form_stream f (flat_map attribute_runs (stream ∷ [])))) is

replaces : (new a : Attr) (b : Bool) → new.head.kind ≡ data_type → new.name ≡ [] → is_attribute_of data_type [] a ≡ b → not (is_replaced (new ∷ []) a) ≡ not b
replaces new a b kind unnamed is =
    ap (λ k. not (is_attribute_of k new.name a || false)) kind
    ∙ ap (λ n. not (is_attribute_of data_type n a || false)) unnamed
    ∙ ap (λ t. not (t || false)) is
    ∙ none_more b
  where
    none_more : (b : Bool) → not (b || false) ≡ not b
    none_more true = refl
    none_more false = refl

with_one : (r : Record) (stream new : Attr) (plain : IsPlainFile r stream) → new.head.kind ≡ data_type → new.name ≡ [] → used_after (new ∷ []) r ≡ used_of (new ∷ plain.info ∷ plain.name ∷ [])
unfolding used_after attrs_with
with_one r stream new plain kind unnamed =
    ap (λ attrs. used_of (new ∷ filter (λ a. not (is_replaced (new ∷ []) a)) attrs)) plain.attrs
    ∙ ap (λ attrs. used_of (new ∷ attrs))
    (first_two (λ a. not (is_replaced (new ∷ []) a)) plain.info plain.name stream
    (replaces new plain.info false kind unnamed (not_data plain.info standard_information plain.has_info.is_kind refl))
    (replaces new plain.name false kind unnamed (not_data plain.name file_name plain.has_name.is_kind refl))
    (replaces new stream true kind unnamed (is_data stream plain.is_data plain.unnamed)))

-- ---- how many bytes they take

short_parts : (r : Record) (stream : Attr) (plain : IsPlainFile r stream) → length (spelling plain.info) + length (spelling plain.name) ≤ 696
short_parts r stream plain =
    let a = short_value standard_information 72 plain.info 12 plain.has_info (omega arith) in
    let b = short_value file_name (0x42 + 2 * 255) plain.name 75 plain.has_name (omega arith) in
    omega arith

own_used : (r : Record) (stream : Attr) (plain : IsPlainFile r stream) → length (spelling stream) ≤ 264 → used_of r.attrs ≤ most_used
own_used r stream plain short =
    let parts = short_parts r stream plain in
    let is : used_of r.attrs ≡ used_of (plain.info ∷ plain.name ∷ stream ∷ []) = ap used_of plain.attrs in
    omega arith

new_used : (r : Record) (stream new : Attr) (plain : IsPlainFile r stream) → new.head.kind ≡ data_type → new.name ≡ [] → length (spelling new) ≤ 264 → used_after (new ∷ []) r ≤ most_used
new_used r stream new plain kind unnamed short =
    let parts = short_parts r stream plain in
    let is = with_one r stream new plain kind unnamed in
    omega (arith, is, parts, short)

placed : (r : Record) (stream : Attr) (sizes : Sizes) (runs : List Run) → IsPlainFile r stream → stream.form ≡ Mapped sizes (pairs_of runs) → AreFew runs → used_of r.attrs ≤ most_used
placed r stream sizes runs plain form few = own_used r stream plain (let e = few_placed stream sizes (pairs_of runs) form plain.unnamed (few_pairs runs few) in omega arith)

empty : (r : Record) (stream : Attr) (indexed : ℕ) → IsPlainFile r stream → stream.form ≡ Resident [] indexed → used_of r.attrs ≤ most_used
empty r stream indexed plain form =
    own_used r stream plain (let e = short_value data_type 0 stream 3 (record { is_kind = plain.is_data; unnamed = plain.unnamed; value = []; indexed = indexed; form = form; short = omega arith }) (omega arith) in omega arith)

-- ---- a change of its data

own_kind : (r : Record) (stream : Attr) → IsPlainFile r stream → (own_attr data_type [] r).head.kind ≡ data_type
own_kind r stream plain = ap (λ (a : Attr). a.head.kind) (data_attr r stream plain) ∙ plain.is_data

own_unnamed : (r : Record) (stream : Attr) → IsPlainFile r stream → (own_attr data_type [] r).name ≡ []
own_unnamed r stream plain = ap (λ (a : Attr). a.name) (data_attr r stream plain) ∙ plain.unnamed

in_or_empty : (b c d : Bool) → (b && (c || d)) ≡ true → (c ≡ true) ⊎ (d ≡ true)
in_or_empty true true d is = inl refl
in_or_empty true false d is = inr is
in_or_empty false c d is = absurd cc

is_equal : (n m : ℕ) → (n == m) ≡ true → n ≡ m
is_equal n m e = grind (arith, nat_tests)

is_below : (n m : ℕ) → nat_le n m ≡ true → n ≤ m
is_below n m e = grind (arith, nat_tests)

value_used : (r : Record) (stream : Attr) (size : ℕ) → IsPlainFile r stream → (b : Bool) → (b && ((size == 0) || nat_le (used_after (value_attr size (own_attr data_type [] r) ∷ []) r) most_used)) ≡ true → used_after (value_attr size (own_attr data_type [] r) ∷ []) r ≤ most_used
value_used r stream size plain b stays = elim (in_or_empty b (size == 0) (nat_le (used_after (value_attr size (own_attr data_type [] r) ∷ []) r) most_used) stays) [
  | inl none ↦
      new_used r stream (value_attr size (own_attr data_type [] r)) plain (own_kind r stream plain) (own_unnamed r stream plain)
      (let zero_size = is_equal size 0 none in
      let e = short_value data_type 0 (value_attr size (own_attr data_type [] r)) 3 (record { is_kind = own_kind r stream plain; unnamed = own_unnamed r stream plain; value = zeros size; indexed = 0; form = refl; short = omega (arith, length-zeros size, zero_size) }) (omega arith) in
      omega arith)
  | inr fits ↦ is_below (used_after (value_attr size (own_attr data_type [] r) ∷ []) r) most_used fits
]

placed_used : (r : Record) (stream : Attr) (w : Wanted) (g : Growth) → w.stream.kind ≡ data_type → w.stream.name ≡ [] → IsPlainFile r stream → used_of r.attrs ≤ most_used → AreFew (runs_after g) → (b : Bool) → used_after (cond b [] (placed_attr w.real w.initialised (runs_after g) (own_attr data_type [] r) ∷ [])) r ≤ most_used
placed_used r stream w g kind name plain fits few true = omega (arith, none_comes r, fits)
placed_used r stream w g kind name plain fits few false =
    new_used r stream (placed_attr w.real w.initialised (runs_after g) (own_attr data_type [] r)) plain (own_kind r stream plain) (own_unnamed r stream plain)
    (let a = placed_attr w.real w.initialised (runs_after g) (own_attr data_type [] r) in
    let e = few_placed a _ (pairs_of (runs_after g)) refl (own_unnamed r stream plain) (few_pairs (runs_after g) few) in
    omega arith)

shrinks_less : (o : Op) (node : Node) → shrinks o node ≡ true → size_after o node < node.size
shrinks_less (op.Truncate path size) node is = grind (arith, nat_tests)
shrinks_less other node is = absurd cc

-- a value that is cut takes no more bytes than before
cut_used : (r : Record) (stream : Attr) (form : OwnForm) (size : ℕ) → IsPlainFile r stream → used_of r.attrs ≤ most_used → stream.form ≡ form → is_in_record (stream_of data_type [] r.attrs) ≡ true → size ≤ size_or (stream_of data_type [] r.attrs)
    → used_after (value_attr size (own_attr data_type [] r) ∷ []) r ≤ most_used
cut_used r stream (Resident value indexed) size plain fits is stands less =
    let own = own_attr data_type [] r in
    let held : size_or (stream_of data_type [] r.attrs) ≡ length value = ap size_or (data_stream r stream (Resident value indexed) plain is) in
    let after = with_one r stream (value_attr size own) plain (own_kind r stream plain) (own_unnamed r stream plain) in
    let before : used_of r.attrs ≡ used_of (plain.info ∷ plain.name ∷ stream ∷ []) = ap used_of plain.attrs in
    let long : length (spelling (value_attr size own)) ≡ whole_length 0x18 0 size = value_zeros size own ∙ ap (λ (n : List ℕ). whole_length 0x18 (length n) size) (own_unnamed r stream plain) in
    let was : length (spelling stream) ≡ whole_length 0x18 0 (length value) = value_length stream value indexed is ∙ ap (λ (n : List ℕ). whole_length 0x18 (length n) (length value)) plain.unnamed in
    omega (arith, held, after, before, long, was, less, fits)
cut_used r stream (Mapped sizes pairs) size plain fits is stands less =
    (let never = sym (ap is_in_record (data_stream r stream (Mapped sizes pairs) plain is)) ∙ stands in absurd cc)

changed_by : (bits : List Bool) (r : Record) (stream : Attr) (op : Op) (node : Node) → IsPlainFile r stream → used_of r.attrs ≤ most_used → (b : Bool)
    → stays_in (stream_in r (data_of node.number)) (wanted_data op node).real (used_after (value_attr (wanted_data op node).real (own_attr data_type [] r) ∷ []) r) ≡ b
    → AreFew (runs_after (cond b (as_value r (wanted_data op node)) (in_clusters bits r (wanted_data op node))).growth) → used_after (cond b (as_value r (wanted_data op node)) (in_clusters bits r (wanted_data op node))).attrs r ≤ most_used
unfolding in_clusters
changed_by bits r stream op node plain fits true stays few = value_used r stream (wanted_data op node).real plain (is_in_record (stream_in r (data_of node.number))) stays
changed_by bits r stream op node plain fits false stays few =
    let w = wanted_data op node in
    let g = placed_among bits (runs_in (stream_in r w.stream)) w in
    placed_used r stream w g refl refl plain fits few (w.clusters == total_clusters g.old)

-- a value that is cut, and other data
changed_to : (bits : List Bool) (r : Record) (stream : Attr) (op : Op) (node : Node) → IsPlainFile r stream → used_of r.attrs ≤ most_used → (shrinks op node ≡ true → node.size ≡ size_or (stream_of data_type [] r.attrs)) → (b : Bool) → is_value_cut r op node ≡ b
    → AreFew (runs_after (cond b (as_value r (wanted_data op node)) (comes bits r [] (wanted_data op node))).growth) → used_after (cond b (as_value r (wanted_data op node)) (comes bits r [] (wanted_data op node))).attrs r ≤ most_used
unfolding comes
changed_to bits r stream op node plain fits shows true cut few =
    let both = and_parts (is_in_record (stream_of data_type [] r.attrs)) (shrinks op node) cut in
    let less = shrinks_less op node both.1 in
    let size = shows both.1 in
    cut_used r stream stream.form (size_after op node) plain fits refl both.0 (omega (arith, less, size))
changed_to bits r stream op node plain fits shows false grows few =
    changed_by bits r stream op node plain fits (stays_in (stream_in r (data_of node.number)) (wanted_data op node).real (used_after (value_attr (wanted_data op node).real (own_attr data_type [] r) ∷ []) r)) refl few

changed : (bits : List Bool) (r : Record) (stream : Attr) (op : Op) (node : Node) → IsPlainFile r stream → used_of r.attrs ≤ most_used → (shrinks op node ≡ true → node.size ≡ size_or (stream_in r (data_of node.number))) → AreFew (runs_after (data_comes bits r op node).growth)
    → used_after (data_comes bits r op node).attrs r ≤ most_used
unfolding data_comes
changed bits r stream op node plain fits shows few = changed_to bits r stream op node plain fits shows (is_value_cut r op node) refl few

made : (name : List ℕ) → length name ≤ 255 → used_of (new_file_attrs name) ≤ most_used
made name short =
    let a = value_zeros 72 (new_attr standard_information []) in
    let b = value_zeros (0x42 + 2 * length name) (new_attr file_name []) in
    let c = value_zeros 0 (new_attr data_type []) in
    let fits = within_eights (0x18 + (0x42 + 2 * length name)) 75 (omega (arith, short)) in
    omega (arith, a, b, c, fits)

pub never_full : NeverFull
never_full = record { placed = placed; empty = empty; changed = changed; made = made }
