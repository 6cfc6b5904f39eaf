-- The first attribute of a stream, found in one pass.
use Rattle.std.proofs.Common.{◌≡◌, ℕ, ◌+◌, ◌<◌, ◌≤◌, Bool, true, false, nat_lt, List, [], ◌∷◌, ◌++◌, length, get_or, Option, Some, None, refl, sym, ap, ◌∙◌}
use Rattle.std.specs.Prelude.{filter, take, if◌then◌else◌}
use Rattle.std.proofs.lemmas.List.{take_more, take_all}
use Rattle.std.proofs.lemmas.List.Elements.{filter-append}
use Rattle.record_model.specs.declared.attribute.Attr.{Attr}
use Rattle.state_model.specs.Streams.{first_vcn, is_attribute_of, with_attribute, sorted_into, attributes_of}
use Rattle.volume_model.specs.Nodes.{first_flags}
use Rattle.volume_map.specs.First.{first_of, earlier, flags_or}

-- attributes put in behind others
sorted_into-append : (attributes xs ys : List Attr) → sorted_into attributes (xs ++ ys) ≡ sorted_into (sorted_into attributes xs) ys
sorted_into-append attributes [] ys = refl
sorted_into-append attributes (a ∷ xs) ys = sorted_into-append (with_attribute a attributes) xs ys

first_if : (b : Bool) (a c : Attr) (attributes : List Attr) → first_of (if b then a ∷ c ∷ attributes else c ∷ with_attribute a attributes) ≡ (if b then Some a else Some c)
first_if true a c attributes = refl
first_if false a c attributes = refl

first_with : (a : Attr) (attributes : List Attr) → first_of (with_attribute a attributes) ≡ earlier (first_of attributes) a
first_with a [] = refl
first_with a (c ∷ attributes) = first_if (nat_lt (first_vcn a) (first_vcn c)) a c attributes

-- the stream's attributes among the first so many
abbrev pub attributes_in : ℕ → List ℕ → List Attr → List Attr
attributes_in kind name attrs = sorted_into [] (filter (is_attribute_of kind name) attrs)

with_one : (kind : ℕ) (name : List ℕ) (a : Attr) (b : Bool) → is_attribute_of kind name a ≡ b → filter (is_attribute_of kind name) (a ∷ []) ≡ (if b then a ∷ [] else [])
with_one kind name a true is = rw is refl
with_one kind name a false is = rw is refl

attributes_more : (kind : ℕ) (name : List ℕ) (attrs : List Attr) (i : ℕ) (a : Attr) (b : Bool) → i < length attrs → a ≡ get_or attrs i a → is_attribute_of kind name a ≡ b
    → attributes_in kind name (take (i + 1) attrs) ≡ sorted_into (attributes_in kind name (take i attrs)) (if b then a ∷ [] else [])
attributes_more kind name attrs i a b lt is attribute =
    ap (attributes_in kind name) (take_more attrs i a lt) ∙ ap (sorted_into []) (filter-append (is_attribute_of kind name) (take i attrs) (get_or attrs i a ∷ []))
    ∙ sorted_into-append [] (filter (is_attribute_of kind name) (take i attrs)) (filter (is_attribute_of kind name) (get_or attrs i a ∷ []))
    ∙ ap (sorted_into (attributes_in kind name (take i attrs))) (ap (λ (x : Attr). filter (is_attribute_of kind name) (x ∷ [])) (sym is) ∙ with_one kind name a b attribute)

pub none_first : (kind : ℕ) (name : List ℕ) (attrs : List Attr) → None ≡ first_of (attributes_in kind name (take 0 attrs))
none_first kind name attrs = refl

pub attribute_first : (kind : ℕ) (name : List ℕ) (attrs : List Attr) (i : ℕ) (a : Attr) (found next : Option Attr) → i < length attrs → a ≡ get_or attrs i a → is_attribute_of kind name a ≡ true
    → found ≡ first_of (attributes_in kind name (take i attrs)) → next ≡ earlier found a → next ≡ first_of (attributes_in kind name (take (i + 1) attrs))
attribute_first kind name attrs i a found next lt is attribute before now =
    now ∙ ap (λ (o : Option Attr). earlier o a) before ∙ sym (first_with a (attributes_in kind name (take i attrs))) ∙ ap first_of (sym (attributes_more kind name attrs i a true lt is attribute))

pub other_first : (kind : ℕ) (name : List ℕ) (attrs : List Attr) (i : ℕ) (a : Attr) (found : Option Attr) → i < length attrs → a ≡ get_or attrs i a → is_attribute_of kind name a ≡ false
    → found ≡ first_of (attributes_in kind name (take i attrs)) → found ≡ first_of (attributes_in kind name (take (i + 1) attrs))
other_first kind name attrs i a found lt is attribute before = before ∙ ap first_of (sym (attributes_more kind name attrs i a false lt is attribute))

pub all_first : (kind : ℕ) (name : List ℕ) (attrs : List Attr) (i : ℕ) (found : Option Attr) → length attrs ≤ i → found ≡ first_of (attributes_in kind name (take i attrs)) → found ≡ first_of (attributes_of kind name attrs)
unfolding attributes_of
all_first kind name attrs i found le before = before ∙ ap (λ (xs : List Attr). first_of (attributes_in kind name xs)) (take_all i attrs le)

pub flags_first : (attributes : List Attr) → flags_or (first_of attributes) ≡ first_flags attributes
flags_first [] = refl
flags_first (a ∷ attributes) = refl

step_by : (kind : ℕ) (name : List ℕ) (attrs : List Attr) (i : ℕ) (a : Attr) (found next : Option Attr) (b : Bool) → i < length attrs → a ≡ get_or attrs i a → is_attribute_of kind name a ≡ b
    → found ≡ first_of (attributes_in kind name (take i attrs)) → next ≡ (if b then earlier found a else found) → next ≡ first_of (attributes_in kind name (take (i + 1) attrs))
step_by kind name attrs i a found next true lt is attribute before now = attribute_first kind name attrs i a found next lt is attribute before now
step_by kind name attrs i a found next false lt is attribute before now = now ∙ other_first kind name attrs i a found lt is attribute before

pub step_first : (kind : ℕ) (name : List ℕ) (attrs : List Attr) (i : ℕ) (a : Attr) (found next : Option Attr) → i < length attrs → a ≡ get_or attrs i a
    → found ≡ first_of (attributes_in kind name (take i attrs)) → next ≡ (if is_attribute_of kind name a then earlier found a else found) → next ≡ first_of (attributes_in kind name (take (i + 1) attrs))
step_first kind name attrs i a found next lt is before now = step_by kind name attrs i a found next (is_attribute_of kind name a) lt is refl before now
