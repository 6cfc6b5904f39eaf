-- A stream of a record that is placed, or valued, a second time.
use Rattle.std.proofs.Common.{◌≡◌, ℕ, Bool, true, false, not, cond, List, [], ◌∷◌, refl, sym, ap, ◌∙◌, inl, inr}
use Rattle.std.proofs.lemmas.Bool.{cases_Bool}
use Rattle.record_model.specs.declared.attribute.Attr.{Attr}
use Rattle.record_model.specs.Records.{Record}
use Rattle.state_model.specs.declared.stream.Extents.{Extents}
use Rattle.state_model.specs.Streams.{is_attribute_of, attributes_of}
use Rattle.plan_edits.specs.record_streams.Placing.{without_stream, with_stream, placed_attr, placed_first, placed_record}
use Rattle.plan_edits.proofs.record_streams.Streams.{placed_is, first_passes, placed_one}
use Rattle.plan_table.specs.record_values.Values.{valued_attr, valued_first, valued_record}
use Rattle.plan_table.proofs.record_values.Valued.{values_put}

passed_over : (kind : ℕ) (name : List ℕ) (a : Attr) (attrs : List Attr) → is_attribute_of kind name a ≡ true → without_stream kind name (a ∷ attrs) ≡ without_stream kind name attrs
passed_over kind name a attrs is = ap (λ (t : Bool). cond (not t) (a ∷ without_stream kind name attrs) (without_stream kind name attrs)) is

kept_on : (kind : ℕ) (name : List ℕ) (a : Attr) (attrs : List Attr) → is_attribute_of kind name a ≡ false → without_stream kind name (a ∷ attrs) ≡ a ∷ without_stream kind name attrs
kept_on kind name a attrs is = ap (λ (t : Bool). cond (not t) (a ∷ without_stream kind name attrs) (without_stream kind name attrs)) is

without_again : (kind : ℕ) (name : List ℕ) (attrs : List Attr) → without_stream kind name (without_stream kind name attrs) ≡ without_stream kind name attrs
without_again kind name [] = refl
without_again kind name (a ∷ attrs) = elim (cases_Bool (is_attribute_of kind name a)) [
  | inl is ↦ ap (without_stream kind name) (passed_over kind name a attrs is) ∙ without_again kind name attrs ∙ sym (passed_over kind name a attrs is)
  | inr is ↦
      ap (without_stream kind name) (kept_on kind name a attrs is)
      ∙ kept_on kind name a (without_stream kind name attrs) is
      ∙ ap (λ (l : List Attr). a ∷ l) (without_again kind name attrs)
      ∙ sym (kept_on kind name a attrs is)
]

put_here : (kind : ℕ) (name : List ℕ) (x a : Attr) (attrs : List Attr) → is_attribute_of kind name a ≡ true → with_stream kind name x (a ∷ attrs) ≡ x ∷ without_stream kind name attrs
put_here kind name x a attrs is = ap (λ (t : Bool). cond t (x ∷ without_stream kind name attrs) (a ∷ with_stream kind name x attrs)) is

put_there : (kind : ℕ) (name : List ℕ) (x a : Attr) (attrs : List Attr) → is_attribute_of kind name a ≡ false → with_stream kind name x (a ∷ attrs) ≡ a ∷ with_stream kind name x attrs
put_there kind name x a attrs is = ap (λ (t : Bool). cond t (x ∷ without_stream kind name attrs) (a ∷ with_stream kind name x attrs)) is

with_again : (kind : ℕ) (name : List ℕ) (x y : Attr) (attrs : List Attr) → is_attribute_of kind name x ≡ true → with_stream kind name y (with_stream kind name x attrs) ≡ with_stream kind name y attrs
with_again kind name x y [] own = refl
with_again kind name x y (a ∷ attrs) own = elim (cases_Bool (is_attribute_of kind name a)) [
  | inl is ↦
      ap (with_stream kind name y) (put_here kind name x a attrs is)
      ∙ put_here kind name y x (without_stream kind name attrs) own
      ∙ ap (λ (l : List Attr). y ∷ l) (without_again kind name attrs)
      ∙ sym (put_here kind name y a attrs is)
  | inr is ↦
      ap (with_stream kind name y) (put_there kind name x a attrs is)
      ∙ put_there kind name y a (with_stream kind name x attrs) is
      ∙ ap (λ (l : List Attr). a ∷ l) (with_again kind name x y attrs own)
      ∙ sym (put_there kind name y a attrs is)
]

record_with : Record → List Attr → Record
record_with r attrs = record { head = r.head; attrs = attrs }

pub placed_again : (per kind : ℕ) (name : List ℕ) (e f : Extents) (r : Record) (a : Attr) (others : List Attr) → attributes_of kind name r.attrs ≡ a ∷ others → placed_record per kind name f (placed_record per kind name e r) ≡ placed_record per kind name f r
unfolding record_with
placed_again per kind name e f r a others some =
    let q : Record = placed_record per kind name e r in
    let q_is : q ≡ record_with r (with_stream kind name (placed_attr per e a) r.attrs) = ap (placed_first per kind name e r) some in
    let own : is_attribute_of kind name (placed_attr per e a) ≡ true = placed_is per kind name e a true (first_passes kind name r.attrs a others some) in
    ap (placed_first per kind name f q) (placed_one per kind name e r a others some)
    ∙ ap (λ (x : Record). record_with x (with_stream kind name (placed_attr per f a) x.attrs)) q_is
    ∙ ap (record_with r) (with_again kind name (placed_attr per e a) (placed_attr per f a) r.attrs own)
    ∙ sym (ap (placed_first per kind name f r) some)

valued_is : (kind : ℕ) (name value : List ℕ) (a : Attr) → is_attribute_of kind name a ≡ true → is_attribute_of kind name (valued_attr value a) ≡ true
unfolding is_attribute_of
valued_is kind name value a is = is

pub valued_again : (kind : ℕ) (name value bytes : List ℕ) (r : Record) (a : Attr) (others : List Attr) → attributes_of kind name r.attrs ≡ a ∷ others → valued_record kind name bytes (valued_record kind name value r) ≡ valued_record kind name bytes r
unfolding record_with
valued_again kind name value bytes r a others some =
    let q : Record = valued_record kind name value r in
    let q_is : q ≡ record_with r (with_stream kind name (valued_attr value a) r.attrs) = ap (valued_first kind name value r) some in
    let own : is_attribute_of kind name (valued_attr value a) ≡ true = valued_is kind name value a (first_passes kind name r.attrs a others some) in
    ap (valued_first kind name bytes q) (values_put.one kind name value r a others some)
    ∙ ap (λ (x : Record). record_with x (with_stream kind name (valued_attr bytes a) x.attrs)) q_is
    ∙ ap (record_with r) (with_again kind name (valued_attr value a) (valued_attr bytes a) r.attrs own)
    ∙ sym (ap (valued_first kind name bytes r) some)
