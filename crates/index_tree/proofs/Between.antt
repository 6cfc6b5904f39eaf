-- Names that are the same stand together in links that rise.
use Rattle.std.proofs.Common.{◌≡◌, ℕ, Bool, true, false, List, [], ◌∷◌, ◌++◌, refl, sym, ap, ◌∙◌}
use Rattle.std.specs.Prelude.{◌≢◌}
use Rattle.std.specs.List.{filter}
use Rattle.std.specs.Cmp.{upto}
use Rattle.std.specs.Ordering.{is_gt, is_lt, ordering_reverse}
use Rattle.std.specs.declared.cmp.Ordering.{Ordering}
use Rattle.std.specs.declared.cmp.Ordering.TheVariants.{Less, Equal, Greater}
use Rattle.std.proofs.lemmas.Bool.{and_parts, both_ways, not-true}
use Rattle.volume_model.specs.file_tree.declared.link.Link.{Link}
use Rattle.volume_model.specs.file_tree.Names.{name_order, same_name, comes_before}
use Rattle.volume_model.proofs.file_tree.NameOrders.{name_order_total}
use Rattle.volume_model.proofs.upcase_order.NameLaws.{same_equiv, together, equal_same}
use Rattle.index_model.specs.Indexes.{precedes, rises}
use Rattle.index_tree.specs.Calls.{is_sought}

-- the first name doesn't stand behind the second one
abbrev pub at_most : List ℕ → List ℕ → List ℕ → Type 0
at_most upper a b = is_gt (name_order upper a b) ≡ false

at_most_along : (upper a b c : List ℕ) → at_most upper a b → at_most upper b c → at_most upper a c
at_most_along upper a b c = upto (name_order_total upper) a b c

no_more : (r : Ordering) → is_gt r ≡ false → r ≢ Greater
no_more Less h e = cc
no_more Equal h e = cc
no_more Greater h e = cc

preceding : (upper : List ℕ) (l k : Link) → precedes upper l k ≡ true → at_most upper l.name k.name
preceding upper l k h = not-true (is_gt (name_order upper l.name k.name)) h

less_no_more : (r : Ordering) → is_lt r ≡ true → is_gt r ≡ false
less_no_more Less h = refl
less_no_more Equal h = absurd cc
less_no_more Greater h = absurd cc

before_name : (upper a b : List ℕ) → comes_before upper a b ≡ true → at_most upper a b
before_name upper a b h = less_no_more (name_order upper a b) h

turn : (r : Ordering) → is_lt r ≡ false → (r ≡ Equal → ⊥) → is_gt (ordering_reverse r) ≡ false
turn Less h n = absurd cc
turn Equal h n = absurd (n refl)
turn Greater h n = refl

-- a name that is neither the same nor before stands behind
behind_name : (upper a b : List ℕ) → same_name upper a b ≡ false → comes_before upper a b ≡ false → at_most upper b a
behind_name upper a b other later =
    ap is_gt ((name_order_total upper).antisymm b a) ∙ turn (name_order upper a b) later (λ q. both_ways _ other (equal_same upper a b q))

stand_together : (upper a b c : List ℕ) → same_name upper a c ≡ true → at_most upper a b → at_most upper b c → same_name upper a b ≡ true
stand_together upper a b c same f g = together upper a b c same (no_more (name_order upper a b) f) (no_more (name_order upper b c) g)

same_back : (upper a b : List ℕ) → same_name upper a b ≡ true → same_name upper b a ≡ true
same_back upper a b h = sym ((same_equiv upper).symm a b) ∙ h

-- a name that stands before one that isn't the same isn't the same either
other_low : (upper a b name : List ℕ) → at_most upper a b → at_most upper b name → same_name upper b name ≡ false → (s : Bool) → same_name upper a name ≡ s → s ≡ false
other_low upper a b name f g other true is = absurd (both_ways _ other (sym ((same_equiv upper).congr a b name (stand_together upper a b name is f g)) ∙ is))
other_low upper a b name f g other false is = refl

other_high : (upper a b name : List ℕ) → at_most upper name a → at_most upper a b → same_name upper a name ≡ false → (s : Bool) → same_name upper b name ≡ s → s ≡ false
other_high upper a b name f g other true is = absurd (both_ways _ other (same_back upper name a (stand_together upper name a b (same_back upper b name is) f g)))
other_high upper a b name f g other false is = refl

left_out : (upper name : List ℕ) (l : Link) (links : List Link) → is_sought upper name l ≡ false → filter (is_sought upper name) links ≡ [] → filter (is_sought upper name) (l ∷ links) ≡ []
left_out upper name l links h e = rw h e

pub rises_back : (upper : List ℕ) (xs ys : List Link) → rises upper (xs ++ ys) ≡ true → rises upper ys ≡ true
rises_back upper [] ys h = h
rises_back upper (l ∷ []) [] h = refl
rises_back upper (l ∷ []) (k ∷ ys) h = (and_parts (precedes upper l k) (rises upper (k ∷ ys)) h).1
rises_back upper (l ∷ k ∷ xs) ys h = rises_back upper (k ∷ xs) ys (and_parts (precedes upper l k) (rises upper (k ∷ xs ++ ys)) h).1

-- the first of links that rise stands before each other one
first_low : (upper : List ℕ) (k : Link) (xs : List Link) (l : Link) (ys : List Link) → rises upper (k ∷ xs ++ l ∷ ys) ≡ true → at_most upper k.name l.name
first_low upper k [] l ys h = preceding upper k l (and_parts (precedes upper k l) (rises upper (l ∷ ys)) h).0
first_low upper k (j ∷ xs) l ys h =
    let p = and_parts (precedes upper k j) (rises upper (j ∷ xs ++ l ∷ ys)) h in
    at_most_along upper k.name j.name l.name (preceding upper k j p.0) (first_low upper j xs l ys p.1)

-- links before a link that stands before the name
pub none_low : (upper name : List ℕ) (xs : List Link) (l : Link) (ys : List Link) → rises upper (xs ++ l ∷ ys) ≡ true → is_sought upper name l ≡ false → at_most upper l.name name → filter (is_sought upper name) xs ≡ []
none_low upper name [] l ys h other low = refl
none_low upper name (k ∷ xs) l ys h other low =
    left_out upper name k xs (other_low upper k.name l.name name (first_low upper k xs l ys h) low other _ refl) (none_low upper name xs l ys (rises_back upper (k ∷ []) (xs ++ l ∷ ys) h) other low)

-- links from one on that stands behind the name
pub none_high : (upper name : List ℕ) (l : Link) (ys : List Link) → rises upper (l ∷ ys) ≡ true → is_sought upper name l ≡ false → at_most upper name l.name → filter (is_sought upper name) (l ∷ ys) ≡ []
none_high upper name l [] h other high = left_out upper name l [] other refl
none_high upper name l (k ∷ ys) h other high =
    let p = and_parts (precedes upper l k) (rises upper (k ∷ ys)) h in
    let next = preceding upper l k p.0 in
    left_out upper name l (k ∷ ys) other (none_high upper name k ys p.1 (other_high upper l.name k.name name high next other _ refl) (at_most_along upper name l.name k.name high next))

-- what is left of links round one that stands before the name, or behind it
pub kept_behind : (upper name : List ℕ) (xs : List Link) (l : Link) (ys : List Link) → filter (is_sought upper name) (xs ++ l ∷ ys) ≡ filter (is_sought upper name) xs ++ filter (is_sought upper name) (l ∷ ys) → rises upper (xs ++ l ∷ ys) ≡ true → is_sought upper name l ≡ false → comes_before upper l.name name ≡ true → filter (is_sought upper name) ys ≡ filter (is_sought upper name) (xs ++ l ∷ ys)
kept_behind upper name xs l ys split h other low =
    let none = none_low upper name xs l ys h other (before_name upper l.name name low) in
    let gone : filter (is_sought upper name) (l ∷ ys) ≡ filter (is_sought upper name) ys = rw other refl in
    sym (split ∙ ap (λ s. s ++ filter (is_sought upper name) (l ∷ ys)) none ∙ gone)

pub kept_before : (upper name : List ℕ) (xs : List Link) (l : Link) (ys : List Link) → filter (is_sought upper name) (xs ++ l ∷ ys) ≡ filter (is_sought upper name) xs ++ filter (is_sought upper name) (l ∷ ys) → rises upper (xs ++ l ∷ ys) ≡ true → is_sought upper name l ≡ false → comes_before upper l.name name ≡ false → filter (is_sought upper name) xs ++ [] ≡ filter (is_sought upper name) (xs ++ l ∷ ys)
kept_before upper name xs l ys split h other high =
    let none = none_high upper name l ys (rises_back upper xs (l ∷ ys) h) other (behind_name upper l.name name other high) in
    sym (split ∙ ap (λ s. filter (is_sought upper name) xs ++ s) none)
