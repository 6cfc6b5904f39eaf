-- A record that is made with the blocks of its index, and how it is written.
use Rattle.std.proofs.Common.{◌≡◌, ◌≢◌, ℕ, zero, suc, Bool, true, false, not, cond, List, [], ◌∷◌, Some, refl, sym, ap, ◌∙◌, inl, inr, arith}
use Rattle.std.specs.Prelude.{filter, map, insert, All}
use Rattle.std.specs.List.{list_all, sum_by}
use Rattle.std.proofs.lemmas.Bool.{cases_Bool, eq-eqb}
use Rattle.std.proofs.lemmas.List.Sums.{sum_by-cons}
use Rattle.record_model.specs.declared.attribute.Attr.{Attr}
use Rattle.record_model.specs.declared.attribute.OwnForm.{OwnForm}
use Rattle.record_model.specs.declared.attribute.OwnForm.TheVariants.{Resident, Mapped}
use Rattle.record_model.specs.declared.record.RecHead.{RecHead}
use Rattle.record_model.specs.Constants.{bitmap_type, index_allocation, names_index}
use Rattle.record_model.specs.Pairs.{HasSpelling}
use Rattle.record_model.specs.Records.{Record}
use Rattle.state_model.specs.declared.stream.Extents.{Extents}
use Rattle.state_model.specs.declared.stream.Stream.TheVariants.{Held, Placed}
use Rattle.state_model.specs.Loads.{has_fitting_pairs, has_all_pairs}
use Rattle.state_model.specs.Streams.{is_attribute_of, attributes_of, sorted_into, first_vcn, joined, stream_of}
use Rattle.volume_model.specs.Indexes.{index_stream}
use Rattle.volume_model.specs.Sizes.{are_joined}
use Rattle.stream_laws.proofs.Sharing.{attributes_sum}
use Rattle.record_writer.specs.Normal.{normal}
use Rattle.record_writer.specs.Edits.{with_attr_at}
use Rattle.record_values.specs.record_streams.Placing.{with_stream, placed_attr, placed_first, placed_record}
use Rattle.record_values.proofs.record_streams.Streams.{placed_is, first_passes, others_with, placed_one}
use Rattle.record_values.specs.Values.{valued_attr, valued_first, valued_record}
use Rattle.record_values.proofs.Valued.{values_put}
use Rattle.plan_edits.specs.plan_growth.Streams.{IsWritten}
use Rattle.plan_edits.proofs.plan_growth.Placed.{placed_is_there, other_pieces}
use Rattle.plan_edits.proofs.plan_growth.Written.{Reads, all_read, written_pieces, written_stream}
use Rattle.plan_blocks.specs.Blocks.{is_of_blocks, beside_blocks, used_stream, HasNoPlace, HasBlocks}
use Rattle.plan_blocks.specs.Written.{MakesBlocks, BlocksAreWritten}
use Rattle.plan_blocks.proofs.Beside.{differs, from_one, from_two}

-- ---- as it is written

same_test : (a : Attr) → is_of_blocks (normal a) ≡ is_of_blocks a
unfolding is_of_blocks is_attribute_of
same_test a = refl

normal_beside : (attrs : List Attr) → beside_blocks (map normal attrs) ≡ map normal (beside_blocks attrs)
normal_beside [] = refl
normal_beside (a ∷ attrs) = elim (cases_Bool (is_of_blocks a)) [
  | inl is ↦ (let now : is_of_blocks (normal a) ≡ true = same_test a ∙ is in rw (now, is) (normal_beside attrs))
  | inr is ↦ (let now : is_of_blocks (normal a) ≡ false = same_test a ∙ is in rw (now, is) (ap (λ (l : List Attr). normal a ∷ l) (normal_beside attrs)))
]

first_by : (form : OwnForm) (a : Attr) → a.form ≡ form → first_vcn (normal a) ≡ first_vcn a
first_by (Resident value indexed) a is = rw is refl
first_by (Mapped sizes pairs) a is = rw is refl

one_joined : (attributes : List Attr) (a : Attr) → attributes ≡ map normal (a ∷ []) → first_vcn a ≡ 0 → are_joined attributes ≡ true
one_joined attributes a is first = ap are_joined is ∙ eq-eqb (first_vcn (normal a)) 0 (first_by a.form a refl ∙ first)

module _ (r p s : Record) (f : Extents) (k : MakesBlocks r p f) (no_place : HasNoPlace (used_stream r)) (pairs : has_all_pairs p ≡ true) (w : IsWritten p s) where
  all_fit : list_all has_fitting_pairs p.attrs ≡ true
  unfolding has_all_pairs
  all_fit = pairs

  reads : All Reads p.attrs
  reads = all_read p.attrs all_fit

  placed_now : index_stream s ≡ Some (Placed f)
  unfolding index_stream
  placed_now = written_stream p s w reads index_allocation names_index ∙ k.placed

  pub has_blocks : HasBlocks r s f
  has_blocks = record {
    seq = w.seq ∙ k.seq;
    flags = w.flags ∙ k.flags;
    base = w.base ∙ k.base;
    others = ap beside_blocks w.attrs ∙ normal_beside p.attrs ∙ ap (map normal) k.others;
    blocks = placed_now;
    joined = one_joined (attributes_of index_allocation names_index s.attrs) k.blocks (written_pieces p s w reads index_allocation names_index ∙ ap (map normal) k.one) k.first;
    bits = inr (k.value, written_stream p s w reads bitmap_type names_index ∙ k.held, no_place);
    bits_joined = one_joined (attributes_of bitmap_type names_index s.attrs) k.bits (written_pieces p s w reads bitmap_type names_index ∙ ap (map normal) k.one_value) k.first_value;
  }

-- ---- as it is made

valued_is : (kind : ℕ) (name value : List ℕ) (a : Attr) (t : Bool) → is_attribute_of kind name a ≡ t → is_attribute_of kind name (valued_attr value a) ≡ t
unfolding is_attribute_of
valued_is kind name value a t is = is

-- beside the blocks nothing changes where one of the two streams does
one_changes : (kind : ℕ) (new : Attr) (attrs : List Attr) → ((a : Attr) → is_attribute_of kind names_index a ≡ true → is_of_blocks a ≡ true) → is_attribute_of kind names_index new ≡ true → beside_blocks (with_stream kind names_index new attrs) ≡ beside_blocks attrs
one_changes kind new attrs own is = others_with (λ (a : Attr). not (is_of_blocks a)) kind names_index new attrs (λ a here. ap not (own a here)) (ap not (own new is))

module _ (per : ℕ) (r : Record) (f : Extents) (value : List ℕ) (a b : Attr) (others more : List Attr) (spelled : HasSpelling 0 f.runs) (is_a : attributes_of index_allocation names_index r.attrs ≡ a ∷ others) (is_b : attributes_of bitmap_type names_index r.attrs ≡ b ∷ more) where
  abbrev q : Record
  q = placed_record per index_allocation names_index f r

  abbrev p : Record
  p = valued_record bitmap_type names_index value q

  two_types : bitmap_type ≢ index_allocation
  two_types e = omega (arith, e)

  bits_of_q : attributes_of bitmap_type names_index q.attrs ≡ b ∷ more
  bits_of_q = other_pieces per index_allocation names_index f r a others is_a spelled bitmap_type names_index (inl two_types) ∙ is_b

  as_placed : q ≡ record { head = r.head; attrs = with_stream index_allocation names_index (placed_attr per f a) r.attrs }
  as_placed = ap (placed_first per index_allocation names_index f r) is_a

  as_valued : p ≡ record { head = q.head; attrs = with_stream bitmap_type names_index (valued_attr value b) q.attrs }
  as_valued = ap (valued_first bitmap_type names_index value q) bits_of_q

  head_is : p.head ≡ r.head
  head_is = ap (λ (x : Record). x.head) as_valued ∙ ap (λ (x : Record). x.head) as_placed

  beside_is : beside_blocks p.attrs ≡ beside_blocks r.attrs
  beside_is =
      ap (λ (x : Record). beside_blocks x.attrs) as_valued
      ∙ one_changes bitmap_type (valued_attr value b) q.attrs from_two (valued_is bitmap_type names_index value b true (first_passes bitmap_type names_index q.attrs b more bits_of_q))
      ∙ ap (λ (x : Record). beside_blocks x.attrs) as_placed
      ∙ one_changes index_allocation (placed_attr per f a) r.attrs from_one (placed_is per index_allocation names_index f a true (first_passes index_allocation names_index r.attrs a others is_a))

  blocks_of_p : attributes_of index_allocation names_index p.attrs ≡ attributes_of index_allocation names_index q.attrs
  blocks_of_p = values_put.others bitmap_type index_allocation names_index names_index value q (inl (λ e. two_types (sym e)))

  stream_is : index_stream p ≡ Some (Placed f)
  unfolding index_stream stream_of
  stream_is = ap joined blocks_of_p ∙ placed_is_there per index_allocation names_index f r a others is_a spelled

  pub makes_blocks : MakesBlocks r p f
  makes_blocks = record {
    seq = ap (λ (h : RecHead). h.seq) head_is;
    flags = ap (λ (h : RecHead). h.flags) head_is;
    base = ap (λ (h : RecHead). h.base) head_is;
    others = beside_is;
    blocks = placed_attr per f a;
    one = blocks_of_p ∙ placed_one per index_allocation names_index f r a others is_a;
    first = refl;
    placed = stream_is;
    bits = valued_attr value b;
    one_value = values_put.one bitmap_type names_index value q b more bits_of_q;
    first_value = refl;
    value = value;
    held = values_put.stream bitmap_type names_index value q b more bits_of_q;
  }

-- ---- attributes that come

skipped : (q : Attr → Bool) (attrs : List Attr) (i : ℕ) (x : Attr) → q x ≡ false → filter q (insert attrs i x) ≡ filter q attrs
skipped q [] zero x none = ap (λ (t : Bool). cond t (x ∷ []) []) none
skipped q [] (suc i) x none = ap (λ (t : Bool). cond t (x ∷ []) []) none
skipped q (y ∷ attrs) zero x none = ap (λ (t : Bool). cond t (x ∷ filter q (y ∷ attrs)) (filter q (y ∷ attrs))) none
skipped q (y ∷ attrs) (suc i) x none = ap (λ (l : List Attr). cond (q y) (y ∷ l) l) (skipped q attrs i x none)

found : (q : Attr → Bool) (attrs : List Attr) (i : ℕ) (x : Attr) → q x ≡ true → filter q attrs ≡ [] → filter q (insert attrs i x) ≡ x ∷ []
found q [] zero x is none = ap (λ (t : Bool). cond t (x ∷ []) []) is
found q [] (suc i) x is none = ap (λ (t : Bool). cond t (x ∷ []) []) is
found q (y ∷ attrs) zero x is none = ap (λ (t : Bool). cond t (x ∷ filter q (y ∷ attrs)) (filter q (y ∷ attrs))) is ∙ ap (λ (l : List Attr). x ∷ l) none
found q (y ∷ attrs) (suc i) x is none = elim (cases_Bool (q y)) [
  | inl passes ↦ (let clash : y ∷ filter q attrs ≡ [] = sym (ap (λ (t : Bool). cond t (y ∷ filter q attrs) (filter q attrs)) passes) ∙ none in absurd cc)
  | inr other ↦
      ap (λ (t : Bool). cond t (y ∷ filter q (insert attrs i x)) (filter q (insert attrs i x))) other
      ∙ found q attrs i x is (sym (ap (λ (t : Bool). cond t (y ∷ filter q attrs) (filter q attrs)) other) ∙ none)
]

no_items : (xs : List Attr) → sum_by (λ (a : Attr). 1) xs ≡ 0 → xs ≡ []
no_items [] none = refl
no_items (x ∷ xs) none = absurd (omega (arith, none, sum_by-cons (λ (a : Attr). 1) x xs))

none_pass : (kind : ℕ) (name : List ℕ) (attrs : List Attr) → attributes_of kind name attrs ≡ [] → filter (is_attribute_of kind name) attrs ≡ []
none_pass kind name attrs none = no_items (filter (is_attribute_of kind name) attrs) (sym (attributes_sum (λ (a : Attr). 1) kind name attrs) ∙ ap (sum_by (λ (a : Attr). 1)) none)

one_attribute : (kind : ℕ) (name : List ℕ) (attrs : List Attr) (x : Attr) → filter (is_attribute_of kind name) attrs ≡ x ∷ [] → attributes_of kind name attrs ≡ x ∷ []
unfolding attributes_of
one_attribute kind name attrs x is = ap (sorted_into []) is

value_first : (b : Attr) (value : List ℕ) (indexed : ℕ) → b.form ≡ Resident value indexed → first_vcn b ≡ 0
value_first b value indexed is = rw is refl

value_held : (b : Attr) (value : List ℕ) (indexed : ℕ) → b.form ≡ Resident value indexed → joined (b ∷ []) ≡ Some (Held value)
value_held b value indexed is = rw is refl

module _ (r : Record) (f : Extents) (i j : ℕ) (a b : Attr) (value : List ℕ) (indexed : ℕ) (no_blocks : attributes_of index_allocation names_index r.attrs ≡ []) (no_bits : attributes_of bitmap_type names_index r.attrs ≡ []) (is_a : is_attribute_of index_allocation names_index a ≡ true)
    (placed : joined (a ∷ []) ≡ Some (Placed f)) (first : first_vcn a ≡ 0) (is_b : is_attribute_of bitmap_type names_index b ≡ true) (form : b.form ≡ Resident value indexed) where
  abbrev both : Record
  both = with_attr_at (with_attr_at r i a) j b

  not_bits : is_attribute_of bitmap_type names_index a ≡ false
  not_bits = differs bitmap_type index_allocation names_index names_index a (inl (λ e. omega (arith, e))) is_a

  not_blocks : is_attribute_of index_allocation names_index b ≡ false
  not_blocks = differs index_allocation bitmap_type names_index names_index b (inl (λ e. omega (arith, e))) is_b

  its_blocks : attributes_of index_allocation names_index both.attrs ≡ a ∷ []
  its_blocks =
      one_attribute index_allocation names_index both.attrs a
      (skipped (is_attribute_of index_allocation names_index) (insert r.attrs i a) j b not_blocks ∙ found (is_attribute_of index_allocation names_index) r.attrs i a is_a (none_pass index_allocation names_index r.attrs no_blocks))

  its_bits : attributes_of bitmap_type names_index both.attrs ≡ b ∷ []
  its_bits =
      one_attribute bitmap_type names_index both.attrs b
      (found (is_attribute_of bitmap_type names_index) (insert r.attrs i a) j b is_b (skipped (is_attribute_of bitmap_type names_index) r.attrs i a not_bits ∙ none_pass bitmap_type names_index r.attrs no_bits))

  placed_there : index_stream both ≡ Some (Placed f)
  unfolding index_stream stream_of
  placed_there = ap joined its_blocks ∙ placed

  held_there : used_stream both ≡ Some (Held value)
  unfolding stream_of
  held_there = ap joined its_bits ∙ value_held b value indexed form

  pub blocks_come : MakesBlocks r both f
  blocks_come = record {
    seq = refl;
    flags = refl;
    base = refl;
    others = skipped (λ (x : Attr). not (is_of_blocks x)) (insert r.attrs i a) j b (ap not (from_two b is_b)) ∙ skipped (λ (x : Attr). not (is_of_blocks x)) r.attrs i a (ap not (from_one a is_a));
    blocks = a;
    one = its_blocks;
    first = first;
    placed = placed_there;
    bits = b;
    one_value = its_bits;
    first_value = value_first b value indexed form;
    value = value;
    held = held_there;
  }

pub blocks_written : BlocksAreWritten
blocks_written = record {
  made = λ per r f value a b others more spelled is_a is_b. makes_blocks per r f value a b others more spelled is_a is_b;
  come = λ r f i j a b value indexed no_blocks no_bits is_a placed first is_b form. blocks_come r f i j a b value indexed no_blocks no_bits is_a placed first is_b form;
  written = λ r p s f k no_place pairs w. has_blocks r p s f k no_place pairs w;
}
