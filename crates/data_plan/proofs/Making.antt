-- What a step says of a file without unnamed data, and once it has it.
use Rattle.std.proofs.Common.{◌≡◌, ℕ, ◌<◌, max, Bool, true, false, cond, List, [], ◌∷◌, ◌++◌, length, Option, Some, None, refl, sym, ap, ◌∙◌, arith}
use Rattle.std.specs.Prelude.{not, filter, nat_le, nat_eq, ◌==◌, ◌&&◌, ◌||◌, if◌then◌else◌}
use Rattle.std.specs.List.{flat_map}
use Rattle.std.specs.Cmp.Lexicographic.{pointwise}
use Rattle.std.proofs.lemmas.Bool.Decides.{nat_tests}
use Rattle.std.proofs.lemmas.List.Elements.{filter-append}
use Rattle.used_laws.specs.record_model.declared.attribute.Attr.{Attr}
use Rattle.used_laws.specs.record_model.declared.attribute.OwnForm.{OwnForm}
use Rattle.used_laws.specs.record_model.Attributes.{is_compressed_or_sparse}
use Rattle.used_laws.specs.record_model.Constants.{data_type}
use Rattle.used_laws.specs.record_model.Pairs.{pairs_of}
use Rattle.used_laws.specs.record_model.Records.{Record, spelled_bytes}
use Rattle.used_laws.specs.record_writer.Edits.{whole_length}
use Rattle.used_laws.specs.file_tree.declared.node.Node.{Node}
use Rattle.used_laws.specs.state_model.declared.stream.Stream.{Stream}
use Rattle.used_laws.specs.state_model.declared.stream.Stream.TheVariants.{Held}
use Rattle.used_laws.specs.state_model.Streams.{is_attribute_of, sorted_into, attributes_of, attribute_runs, form_stream, joined, stream_of}
use Rattle.used_laws.specs.tree_model.declared.script.Op.{Op}
use Rattle.used_laws.specs.tree_model.Needs.{clusters_for, size_after, shrinks}
use Rattle.used_laws.specs.tree_model.Effects.{clusters_after}
use Rattle.used_laws.specs.step_model.Placing.{Growth, runs_after}
use Rattle.used_laws.specs.step_model.Used.{is_replaced, used_after, new_attr, first_or, own_attr, value_attr, placed_attr, is_in_record, stays_in}
use Rattle.used_laws.specs.step_model.Streams.{Comes, placed_among, wanted_data}
use Rattle.used_laws.specs.step_model.Plans.{full_row}
use Rattle.used_laws.proofs.step_model.NeverFull.{used_bytes}
use Rattle.used_laws.proofs.Lengths.{filter_yes, filter_no}
use Rattle.used_laws.proofs.Beside.{one_more, alike, none_sorted}
use Rattle.data_plan.specs.Changes.{data_in, growth_of, row_of}
use Rattle.data_plan.specs.Laws.{IsEmptyData, HasMadeData, DataMade}
use Rattle.data_plan.proofs.Cases.{StaysIn, comes_by, clusters_by}

-- ---- the attribute

is_data : (a : Attr) → IsEmptyData a → is_attribute_of data_type [] a ≡ true
unfolding is_attribute_of
is_data a empty = ap (λ (k : ℕ). (k == data_type) && pointwise nat_eq a.name []) empty.kind ∙ ap (λ (n : List ℕ). pointwise nat_eq n []) empty.unnamed

none_both : {A : Type 0} (xs ys : List A) → xs ++ ys ≡ [] → (xs ≡ []) × (ys ≡ [])
none_both [] ys none = (refl, none)
none_both (x ∷ xs) ys none = absurd cc

own_filter : (r s : Record) (made : HasMadeData r s) → filter (is_attribute_of data_type []) s.attrs ≡ made.new ∷ []
unfolding attributes_of
own_filter r s made =
    let own : Attr → Bool = is_attribute_of data_type [] in
    let none : filter own r.attrs ≡ [] = none_sorted (filter own r.attrs) made.none in
    let parts = none_both (filter own made.front) (filter own made.back) (sym (filter-append own made.front made.back) ∙ sym (ap (filter own) made.before) ∙ none) in
    ap (filter own) made.after
    ∙ filter-append own made.front (made.new ∷ made.back)
    ∙ ap (λ (l : List Attr). l ++ filter own (made.new ∷ made.back)) parts.0
    ∙ filter_yes own made.new made.back (is_data made.new made.empty)
    ∙ ap (λ (l : List Attr). made.new ∷ l) parts.1

data_is : (r s : Record) (made : HasMadeData r s) → attributes_of data_type [] s.attrs ≡ made.new ∷ []
unfolding attributes_of
data_is r s made = ap (sorted_into []) (own_filter r s made)

own_new : (r s : Record) (made : HasMadeData r s) → own_attr data_type [] s ≡ made.new
unfolding own_attr
own_new r s made = ap (first_or (new_attr data_type [])) (data_is r s made)

own_none : (r s : Record) → HasMadeData r s → own_attr data_type [] r ≡ new_attr data_type []
unfolding own_attr
own_none r s made = ap (first_or (new_attr data_type [])) made.none

stream_none : (r s : Record) → HasMadeData r s → data_in r ≡ None
unfolding stream_of
stream_none r s made = ap joined made.none

stream_new : (r s : Record) → HasMadeData r s → data_in s ≡ Some (Held [])
unfolding stream_of
stream_new r s made = ap joined (data_is r s made) ∙ ap (λ (f : OwnForm). Some (form_stream f (flat_map attribute_runs (made.new ∷ [])))) made.empty.form

-- ---- used bytes

without_one : (q : Attr → Bool) (front back : List Attr) (new : Attr) → q new ≡ false → filter q (front ++ new ∷ back) ≡ filter q (front ++ back)
without_one q front back new out = filter-append q front (new ∷ back) ∙ ap (λ (l : List Attr). filter q front ++ l) (filter_no q new back out) ∙ sym (filter-append q front back)

same_left : (r s : Record) (made : HasMadeData r s) (y : Attr) → y.head.kind ≡ data_type → y.name ≡ [] → used_after (y ∷ []) s ≡ used_after (y ∷ []) r
same_left r s made y kind name =
    let q : Attr → Bool = λ a. not (is_attribute_of y.head.kind y.name a) && not (is_replaced [] a) in
    let own : is_attribute_of y.head.kind y.name made.new ≡ true = ap (λ (k : ℕ). is_attribute_of k y.name made.new) kind ∙ ap (λ (n : List ℕ). is_attribute_of data_type n made.new) name ∙ is_data made.new made.empty in
    let out : q made.new ≡ false = ap (λ (b : Bool). not b && not (is_replaced [] made.new)) own in
    let left = ap (λ (l : List Attr). spelled_bytes (filter q l)) made.after ∙ ap spelled_bytes (without_one q made.front made.back made.new out) ∙ sym (ap (λ (l : List Attr). spelled_bytes (filter q l)) made.before) in
    let one = one_more [] y s in
    let two = one_more [] y r in
    omega (arith, one, two, left)

same_value : (r s : Record) (size : ℕ) → HasMadeData r s → used_after (value_attr size (own_attr data_type [] s) ∷ []) s ≡ used_after (value_attr size (own_attr data_type [] r) ∷ []) r
same_value r s size made =
    let x = value_attr size made.new in
    let y = value_attr size (new_attr data_type []) in
    let long = used_bytes.value size made.new ∙ ap (λ (n : List ℕ). whole_length 0x18 (length n) size) made.empty.unnamed ∙ sym (used_bytes.value size (new_attr data_type [])) in
    ap (λ (a : Attr). used_after (value_attr size a ∷ []) s) (own_new r s made)
    ∙ alike [] x y s made.empty.kind made.empty.unnamed long
    ∙ same_left r s made y refl refl
    ∙ sym (ap (λ (a : Attr). used_after (value_attr size a ∷ []) r) (own_none r s made))

same_placed : (r s : Record) (real initialised : ℕ) (g : Growth) → HasMadeData r s → used_after (placed_attr real initialised (runs_after g) (own_attr data_type [] s) ∷ []) s ≡ used_after (placed_attr real initialised (runs_after g) (own_attr data_type [] r) ∷ []) r
same_placed r s real initialised g made =
    let runs = runs_after g in
    let x = placed_attr real initialised runs made.new in
    let y = placed_attr real initialised runs (new_attr data_type []) in
    let long =
    used_bytes.placed real initialised runs made.new
    ∙ ap (λ (f : ℕ). whole_length (if is_compressed_or_sparse f then 0x48 else 0x40) (length made.new.name) (length (pairs_of runs))) made.empty.flags
    ∙ ap (λ (n : List ℕ). whole_length (if is_compressed_or_sparse 0 then 0x48 else 0x40) (length n) (length (pairs_of runs))) made.empty.unnamed
    ∙ sym (used_bytes.placed real initialised runs (new_attr data_type [])) in
    ap (λ (a : Attr). used_after (placed_attr real initialised runs a ∷ []) s) (own_new r s made)
    ∙ alike [] x y s made.empty.kind made.empty.unnamed long
    ∙ same_left r s made y refl refl
    ∙ sym (ap (λ (a : Attr). used_after (placed_attr real initialised runs a ∷ []) r) (own_none r s made))

-- ---- the step

same_test : (r s : Record) (op : Op) (node : Node) → HasMadeData r s → StaysIn s op node ≡ StaysIn r op node
same_test r s op node made =
    let size = size_after op node in
    let bytes : Record → ℕ = λ t. used_after (value_attr size (own_attr data_type [] t) ∷ []) t in
    ap (λ (o : Option Stream). stays_in o size (bytes s) || (is_in_record o && shrinks op node)) (stream_new r s made)
    ∙ ap (λ (n : ℕ). stays_in None size n || shrinks op node) (same_value r s size made)
    ∙ sym (ap (λ (o : Option Stream). stays_in o size (bytes r) || (is_in_record o && shrinks op node)) (stream_none r s made))

by_test : (t b d : Bool) (n : ℕ) → (n == 0) ≡ t → (t || b || d) ≡ false → 0 < n
by_test true b d n is none = absurd cc
by_test false b d n is none = grind (arith, nat_tests)

-- what leaves has bytes, and so clusters
some_size : (r s : Record) (op : Op) (node : Node) → HasMadeData r s → StaysIn r op node ≡ false → 0 < size_after op node
some_size r s op node made leaves =
    let size = size_after op node in
    let full = nat_le (used_after (value_attr size (own_attr data_type [] r) ∷ []) r) 1024 in
    by_test (size == 0) full (shrinks op node) size refl
    (sym (ap (λ (o : Option Stream). stays_in o size (used_after (value_attr size (own_attr data_type [] r) ∷ []) r) || (is_in_record o && shrinks op node)) (stream_none r s made)) ∙ leaves)

some_clusters : (t : Bool) (size n : ℕ) → 0 < size → 0 < cond t (clusters_for size) (max n (clusters_for size))
some_clusters true size n some = omega (arith, some)
some_clusters false size n some = omega (arith, some)

growth_by : (bits : List Bool) (r s : Record) (op : Op) (node : Node) (t : Bool) → HasMadeData r s → StaysIn r op node ≡ t → growth_of bits s op node ≡ growth_of bits r op node
growth_by bits r s op node true made is =
    ap (λ (c : Comes). c.growth) (comes_by bits s op node true (same_test r s op node made ∙ is)) ∙ sym (ap (λ (c : Comes). c.growth) (comes_by bits r op node true is))
growth_by bits r s op node false made is =
    ap (λ (c : Comes). c.growth) (clusters_by bits s op node (Some (Held [])) (same_test r s op node made ∙ is) (stream_new r s made))
    ∙ sym (ap (λ (c : Comes). c.growth) (clusters_by bits r op node None is (stream_none r s made)))

row_by : (bits : List Bool) (r s : Record) (op : Op) (node : Node) (t : Bool) → HasMadeData r s → StaysIn r op node ≡ t → row_of bits s op node ≡ row_of bits r op node
row_by bits r s op node true made is =
    ap (λ (c : Comes). full_row (used_after c.attrs s ∷ [])) (comes_by bits s op node true (same_test r s op node made ∙ is))
    ∙ ap (λ (n : ℕ). full_row (n ∷ [])) (same_value r s (size_after op node) made)
    ∙ sym (ap (λ (c : Comes). full_row (used_after c.attrs r ∷ [])) (comes_by bits r op node true is))
row_by bits r s op node false made is =
    let w = wanted_data op node in
    let g = placed_among bits [] w in
    let attrs : Record → Bool → List Attr = λ t b. cond b [] (placed_attr w.real w.initialised (runs_after g) (own_attr data_type [] t) ∷ []) in
    let more = some_clusters (shrinks op node) (size_after op node) node.clusters (some_size r s op node made is) in
    let differ : (clusters_after false op node == 0) ≡ false = unequal (clusters_after false op node) more in
    ap (λ (c : Comes). full_row (used_after c.attrs s ∷ [])) (clusters_by bits s op node (Some (Held [])) (same_test r s op node made ∙ is) (stream_new r s made))
    ∙ ap (λ (b : Bool). full_row (used_after (attrs s b) s ∷ [])) differ
    ∙ ap (λ (n : ℕ). full_row (n ∷ [])) (same_placed r s w.real w.initialised g made)
    ∙ sym (ap (λ (b : Bool). full_row (used_after (attrs r b) r ∷ [])) differ)
    ∙ sym (ap (λ (c : Comes). full_row (used_after c.attrs r ∷ [])) (clusters_by bits r op node None is (stream_none r s made)))
  where
    unequal : (n : ℕ) → 0 < n → (n == 0) ≡ false
    unequal n some = grind (arith, nat_tests)

pub made : DataMade
made = record {
  data_is = data_is;
  growth = λ bits r s op node made. growth_by bits r s op node (StaysIn r op node) made refl;
  row = λ bits r s op node made. row_by bits r s op node (StaysIn r op node) made refl;
}
