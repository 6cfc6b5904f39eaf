-- The record of a directory as it is once its index has blocks and a bitmap.
use Rattle.std.proofs.Common.{◌≡◌, ℕ, ◌+◌, ◌<◌, ◌^◌, ◌++◌, Bool, true, false, cond, List, [], ◌∷◌, length, map, Some, None, Ok, refl, sym, ap, subst, ◌∙◌, arith}
use Rattle.std.specs.Prelude.{All, nat_lt, ◌==◌}
use Rattle.std.specs.List.{filter}
use Rattle.std.proofs.lemmas.List.{append-nil}
use Rattle.std.proofs.lemmas.List.Elements.{All-cons, All-nil}
use Rattle.record_model.specs.declared.attribute.Attr.{Attr}
use Rattle.record_model.specs.declared.attribute.OwnForm.{OwnForm}
use Rattle.record_model.specs.declared.attribute.OwnForm.TheVariants.{Resident, Mapped}
use Rattle.record_model.specs.declared.runs.Run.{Run}
use Rattle.record_model.specs.Constants.{standard_information, index_root, index_allocation, bitmap_type, names_index}
use Rattle.record_model.specs.Nodes.{entries_length}
use Rattle.record_model.specs.Pairs.{runs_of, pairs_of}
use Rattle.record_model.specs.Records.{Record}
use Rattle.record_model.proofs.PairsRead.{spelled_read}
use Rattle.record_model.proofs.PairsSpelled.{written_spelled}
use Rattle.record_writer.specs.Normal.{normal, normal_form}
use Rattle.record_writer.proofs.Filling.{filled_read}
use Rattle.record_writer.proofs.Measures.{length-spelling}
use Rattle.index_model.specs.Trees.{Tree, raws_of}
use Rattle.state_model.specs.declared.stream.Stream.TheVariants.{Held, Placed}
use Rattle.state_model.specs.Files.{has_type}
use Rattle.state_model.specs.Loads.{span, has_fitting_pairs, has_all_pairs}
use Rattle.state_model.specs.Streams.{form_first, first_vcn, is_attribute_of, with_attribute, sorted_into, attributes_of, runs_or, attribute_runs, joined, stream_of}
use Rattle.record_streams.specs.Placing.{placed_sizes}
use Rattle.record_streams.specs.Fitting.{IsShort, IsPlaceable, FitsButRoom}
use Rattle.record_streams.proofs.Spelled.{lawful_by, short_placed}
use Rattle.resized_streams.specs.Resizing.{unplaced}
use Rattle.made_data.specs.step_model.Used.{new_attr, first_or, own_attr, value_attr}
use Rattle.made_data.specs.step_model.Streams.{root_comes, info_comes, own_comes}
use Rattle.made_data.specs.data_plan.Changes.{BeginsAtZero, StandsBelow}
use Rattle.made_data.specs.Ids.{place_of, new_id, with_id, with_attr}
use Rattle.made_data.proofs.Counting.{kept, any_kept}
use Rattle.made_data.proofs.Standing.{any_put, any_same, none_pass, one_passes, others_pass, size_put, attr_fits, attr_pairs, written_fits, written_pairs}
use Rattle.directory_growth.specs.Growing.{blocks_in, bits_in, LieBelow, IsShortValue, HasIndex}
use Rattle.made_index.specs.Made.{has_stream, HasNoStreams, empty_blocks, empty_bits, with_empty_index, indexed_record}
use Rattle.made_index.specs.Growing.{HasRoot}

-- ---- the two attributes

-- the record with the blocks alone
abbrev pub with_blocks : Record → Record
with_blocks r = with_attr empty_blocks r

abbrev pub own_blocks : Record → Attr
own_blocks r = with_id (new_id r) empty_blocks

abbrev pub own_bits : Record → Attr
own_bits r = with_id (new_id (with_blocks r)) empty_bits

is_blocks : (id : ℕ) → is_attribute_of index_allocation names_index (with_id id empty_blocks) ≡ true
unfolding is_attribute_of
is_blocks id = refl

is_bits : (id : ℕ) → is_attribute_of bitmap_type names_index (with_id id empty_bits) ≡ true
unfolding is_attribute_of
is_bits id = refl

not_bits : (id : ℕ) → is_attribute_of bitmap_type names_index (with_id id empty_blocks) ≡ false
unfolding is_attribute_of
not_bits id = refl

not_blocks : (id : ℕ) → is_attribute_of index_allocation names_index (with_id id empty_bits) ≡ false
unfolding is_attribute_of
not_blocks id = refl

own_normal : (kind : ℕ) (name : List ℕ) (a : Attr) → is_attribute_of kind name (normal a) ≡ is_attribute_of kind name a
unfolding is_attribute_of
own_normal kind name a = refl

-- ---- the streams of before

pub none_there : (kind : ℕ) (r : Record) → has_stream kind r ≡ false → attributes_of kind names_index r.attrs ≡ []
unfolding has_stream attributes_of
none_there kind r none = ap (sorted_into []) (none_pass (is_attribute_of kind names_index) r.attrs none)

pub no_stream : (kind : ℕ) (r : Record) → has_stream kind r ≡ false → stream_of kind names_index r.attrs ≡ None
unfolding stream_of
no_stream kind r none = ap joined (none_there kind r none)

pub no_attr : (kind : ℕ) (r : Record) → has_stream kind r ≡ false → own_attr kind names_index r ≡ new_attr kind names_index
unfolding own_attr
no_attr kind r none = ap (first_or (new_attr kind names_index)) (none_there kind r none)

-- ---- the streams that are made

pub one_blocks : (r : Record) → HasNoStreams r → attributes_of index_allocation names_index (indexed_record r).attrs ≡ normal (own_blocks r) ∷ []
unfolding has_stream attributes_of
one_blocks r none =
    let q : Attr → Bool = is_attribute_of index_allocation names_index in
    let left = others_pass q (place_of bitmap_type names_index (with_blocks r).attrs) (own_bits r) (with_blocks r).attrs (not_blocks (new_id (with_blocks r))) in
    let own = one_passes q (place_of index_allocation names_index r.attrs) (own_blocks r) r.attrs (is_blocks (new_id r)) none.blocks in
    ap (sorted_into []) (kept q (own_normal index_allocation names_index) (with_empty_index r).attrs ∙ ap (map normal) (left ∙ own))

pub one_bits : (r : Record) → HasNoStreams r → attributes_of bitmap_type names_index (indexed_record r).attrs ≡ own_bits r ∷ []
unfolding has_stream attributes_of
one_bits r none =
    let q : Attr → Bool = is_attribute_of bitmap_type names_index in
    let before = any_same q (place_of index_allocation names_index r.attrs) (own_blocks r) r.attrs (not_bits (new_id r)) ∙ none.bits in
    let own = one_passes q (place_of bitmap_type names_index (with_blocks r).attrs) (own_bits r) (with_blocks r).attrs (is_bits (new_id (with_blocks r))) before in
    ap (sorted_into []) (kept q (own_normal bitmap_type names_index) (with_empty_index r).attrs ∙ ap (map normal) own)

pairs_read : runs_of 0 (pairs_of []) ≡ Ok []
pairs_read = ap (runs_of 0) (sym (append-nil (pairs_of []))) ∙ spelled_read 0 [] (pairs_of [] ++ []) tt (written_spelled 0 [] [] tt)

no_runs : (id : ℕ) → attribute_runs (normal (with_id id empty_blocks)) ≡ []
unfolding attribute_runs
no_runs id = ap runs_or (filled_read 0 (pairs_of []) [] pairs_read)

placed_by : (id : ℕ) → joined (normal (with_id id empty_blocks) ∷ []) ≡ Some (Placed (unplaced 0))
placed_by id = ap (λ (runs : List Run). Some (Placed (record { runs = runs; allocated = 0; real = 0; initialised = 0 }))) (append-nil (attribute_runs (normal (with_id id empty_blocks))) ∙ no_runs id)

pub empty_placed : (id : ℕ) → joined (with_id id empty_blocks ∷ []) ≡ Some (Placed (unplaced 0))
unfolding attribute_runs
empty_placed id = ap (λ (runs : List Run). Some (Placed (record { runs = runs; allocated = 0; real = 0; initialised = 0 }))) (append-nil (attribute_runs (with_id id empty_blocks)) ∙ ap runs_or pairs_read)

pub blocks_placed : (r : Record) → HasNoStreams r → blocks_in (indexed_record r) ≡ Some (Placed (unplaced 0))
unfolding stream_of
blocks_placed r none = ap joined (one_blocks r none) ∙ placed_by (new_id r)

pub bits_held : (r : Record) → HasNoStreams r → bits_in (indexed_record r) ≡ Some (Held [])
unfolding stream_of
bits_held r none = ap joined (one_bits r none)

pub blocks_attr : (r : Record) → HasNoStreams r → own_attr index_allocation names_index (indexed_record r) ≡ normal (own_blocks r)
unfolding own_attr
blocks_attr r none = ap (first_or (new_attr index_allocation names_index)) (one_blocks r none)

pub bits_attr : (r : Record) → HasNoStreams r → own_attr bitmap_type names_index (indexed_record r) ≡ own_bits r
unfolding own_attr
bits_attr r none = ap (first_or (new_attr bitmap_type names_index)) (one_bits r none)

-- ---- other streams

form_normal : (form : OwnForm) → form_first (normal_form form) ≡ form_first form
form_normal (Resident value indexed) = refl
form_normal (Mapped sizes pairs) = refl

first_normal : (a : Attr) → first_vcn (normal a) ≡ first_vcn a
first_normal a = form_normal a.form

map_test : (t : Bool) (xs ys : List Attr) → cond t (map normal xs) (map normal ys) ≡ map normal (cond t xs ys)
map_test true xs ys = refl
map_test false xs ys = refl

put_normal : (a : Attr) (attributes : List Attr) → with_attribute (normal a) (map normal attributes) ≡ map normal (with_attribute a attributes)
put_normal a [] = refl
put_normal a (b ∷ attributes) =
    let first : List Attr = normal a ∷ normal b ∷ map normal attributes in
    let then : List Attr = with_attribute (normal a) (map normal attributes) in
    ap (λ (n : ℕ). cond (nat_lt n (first_vcn (normal b))) first (normal b ∷ then)) (first_normal a)
    ∙ ap (λ (n : ℕ). cond (nat_lt (first_vcn a) n) first (normal b ∷ then)) (first_normal b)
    ∙ ap (λ (l : List Attr). cond (nat_lt (first_vcn a) (first_vcn b)) first (normal b ∷ l)) (put_normal a attributes)
    ∙ map_test (nat_lt (first_vcn a) (first_vcn b)) (a ∷ b ∷ attributes) (b ∷ with_attribute a attributes)

sorted_normal : (attributes attrs : List Attr) → sorted_into (map normal attributes) (map normal attrs) ≡ map normal (sorted_into attributes attrs)
sorted_normal attributes [] = refl
sorted_normal attributes (a ∷ attrs) = ap (λ (l : List Attr). sorted_into l (map normal attrs)) (put_normal a attributes) ∙ sorted_normal (with_attribute a attributes) attrs

-- the attributes of another stream are those of before, as they are written
others_still : (kind : ℕ) (name : List ℕ) (r : Record) → is_attribute_of kind name (own_blocks r) ≡ false → is_attribute_of kind name (own_bits r) ≡ false → attributes_of kind name (indexed_record r).attrs ≡ map normal (attributes_of kind name r.attrs)
unfolding attributes_of
others_still kind name r blocks bits =
    let q : Attr → Bool = is_attribute_of kind name in
    let left = others_pass q (place_of bitmap_type names_index (with_blocks r).attrs) (own_bits r) (with_blocks r).attrs bits ∙ others_pass q (place_of index_allocation names_index r.attrs) (own_blocks r) r.attrs blocks in
    ap (sorted_into []) (kept q (own_normal kind name) (with_empty_index r).attrs ∙ ap (map normal) left) ∙ sorted_normal [] (filter q r.attrs)

root_still : (r : Record) → attributes_of index_root names_index (indexed_record r).attrs ≡ map normal (attributes_of index_root names_index r.attrs)
unfolding is_attribute_of
root_still r = others_still index_root names_index r refl refl

-- a value in the place of the first attribute, as it stands or as it is written
value_still : (size : ℕ) (new : Attr) (attributes : List Attr) → value_attr size (first_or new (map normal attributes)) ≡ value_attr size (first_or new attributes)
value_still size new [] = refl
value_still size new (a ∷ attributes) = refl

root_same : (r : Record) (t : Tree) → root_comes (indexed_record r) t ≡ root_comes r t
unfolding own_attr
root_same r t =
    let new = new_attr index_root names_index in
    let size = 0x20 + entries_length (raws_of t) in
    ap (λ (l : List Attr). value_attr size (first_or new l)) (root_still r) ∙ value_still size new (attributes_of index_root names_index r.attrs)

-- ---- types

pub types_still : (r : Record) (kind : ℕ) → has_type kind r ≡ true → has_type kind (indexed_record r) ≡ true
unfolding has_type
types_still r kind is =
    let q : Attr → Bool = λ a. a.head.kind == kind in
    any_kept q (λ a. refl) (with_empty_index r).attrs
    ∙ any_put q (place_of bitmap_type names_index (with_blocks r).attrs) (own_bits r) (with_blocks r).attrs (any_put q (place_of index_allocation names_index r.attrs) (own_blocks r) r.attrs is)

info_type : (r : Record) → has_type standard_information (indexed_record r) ≡ has_type standard_information r
unfolding has_type
info_type r =
    let q : Attr → Bool = λ a. a.head.kind == standard_information in
    any_kept q (λ a. refl) (with_empty_index r).attrs
    ∙ any_same q (place_of bitmap_type names_index (with_blocks r).attrs) (own_bits r) (with_blocks r).attrs refl
    ∙ any_same q (place_of index_allocation names_index r.attrs) (own_blocks r) r.attrs refl

pub own_same : (r : Record) (t : Tree) → own_comes (indexed_record r) t ≡ own_comes r t
own_same r t =
    ap (λ (a : Attr). a ∷ info_comes (indexed_record r)) (root_same r t)
    ∙ ap (λ (b : Bool). root_comes r t ∷ (cond b [] (value_attr 72 (new_attr standard_information []) ∷ []))) (info_type r)

-- ---- a spelling but for room

units_low : All (λ (unit : ℕ). unit < 2 ^ 16) names_index
units_low =
    let P : ℕ → Type 0 = λ unit. unit < 2 ^ 16 in
    All-cons P 0x24 (0x49 ∷ 0x33 ∷ 0x30 ∷ []) (omega arith) (All-cons P 0x49 (0x33 ∷ 0x30 ∷ []) (omega arith) (All-cons P 0x33 (0x30 ∷ []) (omega arith) (All-cons P 0x30 [] (omega arith) (All-nil P))))

four_units : length names_index ≡ 4
four_units = refl

short_value : (kind id : ℕ) → kind < 2 ^ 8 → IsPlaceable kind → id < 2 ^ 16 → IsShort (with_id id (new_attr kind names_index))
short_value kind id low may small = record {
  fits = record {
    kind = omega (arith, low);
    flags = omega arith;
    id = small;
    name_short = omega (arith, four_units);
    units = units_low;
    form = record { value_short = omega arith; indexed_byte = omega arith };
  };
  kind = omega (arith, low);
  lawful = lawful_by (with_id id (new_attr kind names_index)) may;
  short = omega (arith, length-spelling (with_id id (new_attr kind names_index)), four_units);
}

short_bits : (id : ℕ) → id < 2 ^ 16 → IsShort (with_id id empty_bits)
short_bits id small = short_value bitmap_type id (omega arith) (record { not_info = refl; not_name = refl }) small

short_blocks : (id : ℕ) → id < 2 ^ 16 → IsShort (with_id id empty_blocks)
short_blocks id small =
    let may : IsPlaceable index_allocation = record { not_info = refl; not_name = refl } in
    short_placed 8 (unplaced 0) (with_id id (new_attr index_allocation names_index)) (omega arith) tt (omega arith) (record { allocated = omega arith; real = omega arith; initialised = omega arith }) may (short_value index_allocation id (omega arith) may small)

pub made_fits : (r : Record) → FitsButRoom r → length r.attrs + 1 < 2 ^ 10 → FitsButRoom (with_empty_index r)
made_fits r fits few =
    let more = size_put (place_of index_allocation names_index r.attrs) (own_blocks r) r.attrs in
    attr_fits empty_bits (with_blocks r) (attr_fits empty_blocks r fits (omega (arith, few)) short_blocks) (omega (arith, few, more)) short_bits

pub blocks_pairs : has_fitting_pairs empty_blocks ≡ true
blocks_pairs = ap (span (placed_sizes 8 0 0 (unplaced 0))) pairs_read

pub made_pairs : (r : Record) → has_all_pairs r ≡ true → has_all_pairs (indexed_record r) ≡ true
made_pairs r pairs = written_pairs (with_empty_index r) (attr_pairs empty_bits (with_blocks r) refl (attr_pairs empty_blocks r blocks_pairs pairs))

-- ---- all of it

begins_still : (attributes : List Attr) → BeginsAtZero attributes → BeginsAtZero (map normal attributes)
begins_still [] begins = absurd begins
begins_still (a ∷ attributes) begins = first_normal a ∙ begins

pub has_made : (clusters : ℕ) (r : Record) → HasRoot r → HasIndex clusters (indexed_record r)
has_made clusters r k = record {
  fits = written_fits (with_empty_index r) (made_fits r k.fits k.few);
  pairs = made_pairs r k.pairs;
  info = types_still r standard_information k.info;
  root = subst BeginsAtZero (sym (root_still r)) (begins_still (attributes_of index_root names_index r.attrs) k.root);
  blocks = subst BeginsAtZero (sym (one_blocks r k.none)) refl;
  bits = subst BeginsAtZero (sym (one_bits r k.none)) refl;
  placed = subst (LieBelow clusters) (sym (blocks_placed r k.none)) (record { spelled = tt; few = omega arith; last = tt; enough = omega arith });
  stands = subst (StandsBelow clusters) (sym (bits_held r k.none)) tt;
  short = subst IsShortValue (sym (bits_held r k.none)) (omega arith);
}
