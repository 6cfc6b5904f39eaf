-- Attributes that are joined stand in one order alone, whatever the order of the attributes.
use Rattle.std.proofs.Common.{◌≡◌, ℕ, ◌+◌, ◌<◌, ◌≤◌, Bool, true, cond, eqb, ltb, List, [], ◌∷◌, ◌++◌, filter, refl, sym, ap, ◌∙◌, subst, inl, inr, arith}
use Rattle.std.specs.Prelude.{◌&&◌, All, Contains, IsPermutation, ⊤}
use Rattle.std.specs.List.{sum_by}
use Rattle.std.proofs.lemmas.Bool.{cases_Bool, cond_both, both_ways, and_parts, ltb-true, ltb-false, eqb-true, eq-eqb}
use Rattle.std.proofs.lemmas.List.{append-nil}
use Rattle.std.proofs.lemmas.List.Elements.{All-nil, All-cons, All-head, All-tail, All-weaker, All-contains, All-contains_itself}
use Rattle.std.proofs.lemmas.List.Sorted.{IsPermutation-refl, IsPermutation-sym, IsPermutation-trans, IsPermutation-cons, IsPermutation-middle, IsPermutation-append_left, All-permutation, sum_by-IsPermutation}
use Rattle.std.proofs.lemmas.List.Sums.{sum_by-cons}
use Rattle.upcase_order.specs.record_model.declared.attribute.Attr.{Attr}
use Rattle.upcase_order.specs.state_model.Streams.{first_vcn, is_attribute_of, with_attribute, sorted_into, attributes_of, attribute_runs, joined, stream_of}
use Rattle.upcase_order.specs.state_model.Loads.{total_clusters}
use Rattle.volume_model.specs.Sizes.{follow, are_joined}
use Rattle.std.specs.Cmp as tests

-- ---- in order of first VCN

-- each attribute begins before those behind it
abbrev Rise : List Attr → Type 0
Rise [] = ⊤
Rise (a ∷ l) = All (λ b. first_vcn a < first_vcn b) l × Rise l

-- no attribute begins before one that stands before it
abbrev Steady : List Attr → Type 0
Steady [] = ⊤
Steady (a ∷ l) = All (λ b. first_vcn a ≤ first_vcn b) l × Steady l

-- ---- attributes put in

put_shuffled : (a : Attr) (l : List Attr) → IsPermutation (a ∷ l) (with_attribute a l)
put_shuffled a [] = IsPermutation-refl (a ∷ [])
put_shuffled a (b ∷ l) =
    cond_both (ltb (first_vcn a) (first_vcn b)) (a ∷ b ∷ l) (b ∷ with_attribute a l) (IsPermutation (a ∷ b ∷ l))
    (λ _. IsPermutation-refl (a ∷ b ∷ l))
    (λ _. IsPermutation-trans (a ∷ b ∷ l) (b ∷ a ∷ l) (b ∷ with_attribute a l) (IsPermutation-middle (a ∷ []) b l) (IsPermutation-cons b (a ∷ l) (with_attribute a l) (put_shuffled a l)))

into_shuffled : (l xs : List Attr) → IsPermutation (l ++ xs) (sorted_into l xs)
into_shuffled l [] = subst (λ (m : List Attr). IsPermutation m l) (sym (append-nil l)) (IsPermutation-refl l)
into_shuffled l (a ∷ xs) =
    IsPermutation-trans (l ++ a ∷ xs) (a ∷ l ++ xs) (sorted_into (with_attribute a l) xs) (IsPermutation-middle l a xs)
    (IsPermutation-trans (a ∷ l ++ xs) (with_attribute a l ++ xs) (sorted_into (with_attribute a l) xs) (IsPermutation-append_left xs (a ∷ l) (with_attribute a l) (put_shuffled a l)) (into_shuffled (with_attribute a l) xs))

sorted_shuffled : (xs : List Attr) → IsPermutation xs (sorted_into [] xs)
sorted_shuffled xs = into_shuffled [] xs

put_steady : (a : Attr) (l : List Attr) → Steady l → Steady (with_attribute a l)
put_steady a [] steady = (All-nil (λ b. first_vcn a ≤ first_vcn b), tt)
put_steady a (b ∷ l) steady =
    let From : Attr → Attr → Type 0 = λ x y. first_vcn x ≤ first_vcn y in
    cond_both (ltb (first_vcn a) (first_vcn b)) (a ∷ b ∷ l) (b ∷ with_attribute a l) Steady
    (λ yes. let less : first_vcn a < first_vcn b = ltb-true (first_vcn a) (first_vcn b) yes in
    (All-cons (From a) b l (omega arith) (All-weaker (From b) (From a) (λ x le. omega (arith, le)) l steady.0), steady))
    (λ no. (All-permutation (From b) (a ∷ l) (with_attribute a l) (put_shuffled a l) (All-cons (From b) a l (ltb-false (first_vcn a) (first_vcn b) no) steady.0), put_steady a l steady.1))

into_steady : (l xs : List Attr) → Steady l → Steady (sorted_into l xs)
into_steady l [] steady = steady
into_steady l (a ∷ xs) steady = into_steady (with_attribute a l) xs (put_steady a l steady)

-- ---- how many begin at one VCN

abbrev begins : ℕ → Attr → ℕ
begins v x = cond (eqb (first_vcn x) v) 1 0

begins_here : (v : ℕ) (x : Attr) → first_vcn x ≡ v → begins v x ≡ 1
begins_here v x is = ap (λ (t : Bool). cond t 1 0) (eq-eqb (first_vcn x) v is)

begins_else : (v : ℕ) (x : Attr) → (first_vcn x ≡ v → ⊥) → begins v x ≡ 0
begins_else v x differs = elim (cases_Bool (eqb (first_vcn x) v)) [
  | inl same ↦ absurd (differs (eqb-true (first_vcn x) v same))
  | inr other ↦ ap (λ (t : Bool). cond t 1 0) other
]

none_begins : (v : ℕ) (l : List Attr) → All (λ x. v < first_vcn x) l → sum_by (begins v) l ≡ 0
none_begins v [] past = refl
none_begins v (a ∷ l) past =
    let lt : v < first_vcn a = All-head (λ x. v < first_vcn x) a l past in
    omega (arith, sum_by-cons (begins v) a l, begins_else v a (λ is. omega (arith, lt, is)), none_begins v l (All-tail (λ x. v < first_vcn x) a l past))

one_begins : (v : ℕ) (l : List Attr) → Rise l → sum_by (begins v) l ≤ 1
one_begins v [] rise = omega arith
one_begins v (a ∷ l) rise = elim (cases_Bool (eqb (first_vcn a) v)) [
  | inl same ↦
      let is : first_vcn a ≡ v = eqb-true (first_vcn a) v same in
      omega (arith, sum_by-cons (begins v) a l, begins_here v a is, none_begins v l (subst (λ (n : ℕ). All (λ x. n < first_vcn x) l) is rise.0))
  | inr other ↦
      let none : begins v a ≡ 0 = ap (λ (t : Bool). cond t 1 0) other in
      omega (arith, sum_by-cons (begins v) a l, none, one_begins v l rise.1)
]

elsewhere : (v : ℕ) (l : List Attr) → sum_by (begins v) l ≡ 0 → All (λ x. first_vcn x ≡ v → ⊥) l
elsewhere v [] none = All-nil (λ x. first_vcn x ≡ v → ⊥)
elsewhere v (a ∷ l) none =
    All-cons (λ x. first_vcn x ≡ v → ⊥) a l
    (λ is. omega (arith, none, sum_by-cons (begins v) a l, begins_here v a is))
    (elsewhere v l (omega (arith, none, sum_by-cons (begins v) a l)))

-- where no two begin at one VCN, they rise
rise_from : (l : List Attr) → Steady l → ((v : ℕ) → sum_by (begins v) l ≤ 1) → Rise l
rise_from [] steady once = tt
rise_from (a ∷ l) steady once =
    let v = first_vcn a in
    let rest : sum_by (begins v) l ≡ 0 = omega (arith, once v, sum_by-cons (begins v) a l, begins_here v a refl) in
    let past : All (λ x. first_vcn x ≡ v → ⊥) l = elsewhere v l rest in
    let each : (x : Attr) → Contains l x → v < first_vcn x = λ x at.
    let le : v ≤ first_vcn x = All-contains (λ y. v ≤ first_vcn y) l x steady.0 at in
    elim (cases_Bool (ltb v (first_vcn x))) [
      | inl less ↦ ltb-true v (first_vcn x) less
      | inr other ↦ absurd (All-contains (λ y. first_vcn y ≡ v → ⊥) l x past at (omega (arith, le, ltb-false v (first_vcn x) other)))
    ] in
    (All-weaker (Contains l) (λ x. v < first_vcn x) each l (All-contains_itself l), rise_from l steady.1 (λ w. omega (arith, once w, sum_by-cons (begins w) a l)))

-- ---- one order

-- the least of a list is at most the least of another that has it
least : (a b : Attr) (l m : List Attr) → Rise (b ∷ m) → All (Contains (b ∷ m)) (a ∷ l) → first_vcn b ≤ first_vcn a
least a b l m rise within =
    All-contains (λ x. first_vcn b ≤ first_vcn x) (b ∷ m) a
    (All-cons (λ x. first_vcn b ≤ first_vcn x) b m (omega arith) (All-weaker (λ x. first_vcn b < first_vcn x) (λ x. first_vcn b ≤ first_vcn x) (λ x lt. omega (arith, lt)) m rise.0))
    (All-head (Contains (b ∷ m)) a l within)

rest_within : (a b : Attr) (l m : List Attr) → first_vcn b ≤ first_vcn a → Rise (a ∷ l) → All (Contains (b ∷ m)) (a ∷ l) → All (Contains m) l
rest_within a b l m le rise within =
    let Past : Attr → Type 0 = λ y. first_vcn b < first_vcn y → Contains m y in
    let all : All Past (b ∷ m) = All-cons Past b m (λ lt. absurd (omega (arith, lt))) (All-weaker (Contains m) Past (λ y at _. at) m (All-contains_itself m)) in
    All-weaker (Contains l) (Contains m) (λ x at.
    let up : first_vcn a < first_vcn x = All-contains (λ y. first_vcn a < first_vcn y) l x rise.0 at in
    All-contains Past (b ∷ m) x all (All-contains (Contains (b ∷ m)) l x (All-tail (Contains (b ∷ m)) a l within) at) (omega (arith, le, up)))
    l (All-contains_itself l)

none_within : (b : Attr) (m : List Attr) → All (Contains []) (b ∷ m) → ⊥
none_within b m within = All-contains (λ _. ⊥) [] b (All-nil (λ _. ⊥)) (All-head (Contains []) b m within)

-- attributes that rise are the same ones in the same order
one_order : (l m : List Attr) → Rise l → Rise m → All (Contains m) l → All (Contains l) m → m ≡ l
one_order [] [] up rise within back = refl
one_order [] (b ∷ m) up rise within back = absurd (none_within b m back)
one_order (a ∷ l) [] up rise within back = absurd (none_within a l within)
one_order (a ∷ l) (b ∷ m) up rise within back =
    let low = least a b l m rise within in
    let high = least b a m l up back in
    let Least : Attr → Type 0 = λ x. first_vcn x ≤ first_vcn a → x ≡ a in
    let all : All Least (a ∷ l) = All-cons Least a l (λ _. refl) (All-weaker (λ x. first_vcn a < first_vcn x) Least (λ x lt le. absurd (omega (arith, lt, le))) l up.0) in
    let first : b ≡ a = All-contains Least (a ∷ l) b all (All-head (Contains (a ∷ l)) b m back) low in
    let rest : m ≡ l = one_order l m up.1 rise.1 (rest_within a b l m low up within) (rest_within b a m l high rise back) in
    ap (λ (x : Attr). x ∷ m) first ∙ ap (λ (k : List Attr). a ∷ k) rest

-- ---- attributes that are joined

follow_rise : (vcn : ℕ) (l : List Attr) → follow vcn l ≡ true → Rise l × All (λ x. vcn ≤ first_vcn x) l
follow_rise vcn [] all = (tt, All-nil (λ x. vcn ≤ first_vcn x))
follow_rise vcn (a ∷ l) all =
    let n = total_clusters (attribute_runs a) in
    let parts = and_parts (eqb (first_vcn a) vcn && ltb 0 n) (follow (vcn + n) l) all in
    let heads = and_parts (eqb (first_vcn a) vcn) (ltb 0 n) parts.0 in
    let is : first_vcn a ≡ vcn = eqb-true (first_vcn a) vcn heads.0 in
    let some : 0 < n = ltb-true 0 n heads.1 in
    let rest = follow_rise (vcn + n) l parts.1 in (
      (All-weaker (λ x. vcn + n ≤ first_vcn x) (λ x. first_vcn a < first_vcn x) (λ x le. omega (arith, le, some, is)) l rest.1, rest.0),
      All-cons (λ x. vcn ≤ first_vcn x) a l (omega (arith, is)) (All-weaker (λ x. vcn + n ≤ first_vcn x) (λ x. vcn ≤ first_vcn x) (λ x le. omega (arith, le)) l rest.1),
    )

joined_rise : (l : List Attr) → are_joined l ≡ true → Rise l
joined_rise [] all = tt
joined_rise (a ∷ []) all = (All-nil (λ b. first_vcn a < first_vcn b), tt)
joined_rise (a ∷ b ∷ l) all = (follow_rise 0 (a ∷ b ∷ l) all).0

-- ---- the attributes of one stream

module _ (p : Attr → Bool) where
  passed : (P : Attr → Type 0) (xs : List Attr) → All P (filter p xs) → All (λ x. p x ≡ true → P x) xs
  passed P [] = λ all. All-nil (λ x. p x ≡ true → P x)
  passed P (x ∷ xs) =
      let Q : Attr → Type 0 = λ y. p y ≡ true → P y in
      cond_both (p x) (x ∷ filter p xs) (filter p xs) (λ l. All P l → All Q (x ∷ xs))
      (λ yes all. All-cons Q x xs (λ _. All-head P x (filter p xs) all) (passed P xs (All-tail P x (filter p xs) all)))
      (λ no all. All-cons Q x xs (λ yes. absurd (both_ways (p x) no yes)) (passed P xs all))

  pass : (P : Attr → Type 0) (xs : List Attr) → All (λ x. p x ≡ true → P x) xs → All P (filter p xs)
  pass P [] all = All-nil P
  pass P (x ∷ xs) all =
      let Q : Attr → Type 0 = λ y. p y ≡ true → P y in
      cond_both (p x) (x ∷ filter p xs) (filter p xs) (All P)
      (λ yes. All-cons P x (filter p xs) (All-head Q x xs all yes) (pass P xs (All-tail Q x xs all)))
      (λ no. pass P xs (All-tail Q x xs all))

  abbrev if_passed : (Attr → ℕ) → Attr → ℕ
  if_passed f x = cond (p x) (f x) 0

  sum_passed : (f : Attr → ℕ) (xs : List Attr) → sum_by f (filter p xs) ≡ sum_by (if_passed f) xs
  sum_passed f [] = refl
  sum_passed f (x ∷ xs) =
      cond_both (p x) (x ∷ filter p xs) (filter p xs) (λ l. sum_by f l ≡ sum_by (if_passed f) (x ∷ xs))
      (λ yes. omega (arith, sum_by-cons f x (filter p xs), sum_by-cons (if_passed f) x xs, ap (λ (t : Bool). cond t (f x) 0) yes, sum_passed f xs))
      (λ no. omega (arith, sum_by-cons (if_passed f) x xs, ap (λ (t : Bool). cond t (f x) 0) no, sum_passed f xs))

  abbrev sorted : List Attr → List Attr
  sorted xs = sorted_into [] (filter p xs)

  -- each attribute of the one list stands in the other
  within : (xs ys : List Attr) → IsPermutation xs ys → All (Contains (sorted ys)) (sorted xs)
  within xs ys shuffled =
      let P : Attr → Type 0 = Contains (sorted ys) in
      let own : All P (filter p ys) = All-permutation P (sorted ys) (filter p ys) (IsPermutation-sym (filter p ys) (sorted ys) (sorted_shuffled (filter p ys))) (All-contains_itself (sorted ys)) in
      let other : All P (filter p xs) = pass P xs (All-permutation (λ x. p x ≡ true → P x) ys xs (IsPermutation-sym xs ys shuffled) (passed P ys own)) in
      All-permutation P (filter p xs) (sorted xs) (sorted_shuffled (filter p xs)) other

  same_sum : (f : Attr → ℕ) (xs ys : List Attr) → IsPermutation xs ys → sum_by f (sorted ys) ≡ sum_by f (sorted xs)
  same_sum f xs ys shuffled =
      sum_by-IsPermutation f (filter p ys) (sorted ys) (sorted_shuffled (filter p ys))
      ∙ sum_passed f ys
      ∙ sum_by-IsPermutation (if_passed f) xs ys shuffled
      ∙ sym (sum_passed f xs)
      ∙ sym (sum_by-IsPermutation f (filter p xs) (sorted xs) (sorted_shuffled (filter p xs)))

  same_pieces : (xs ys : List Attr) → IsPermutation xs ys → are_joined (sorted xs) ≡ true → sorted ys ≡ sorted xs
  same_pieces xs ys shuffled all =
      let rise = joined_rise (sorted xs) all in
      let other : Rise (sorted ys) = rise_from (sorted ys) (into_steady [] (filter p ys) tt) (λ v. omega (arith, same_sum (begins v) xs ys shuffled, one_begins v (sorted xs) rise)) in
      one_order (sorted xs) (sorted ys) rise other (within xs ys shuffled) (within ys xs (IsPermutation-sym xs ys shuffled))

  same_answer : (xs ys : List Attr) → IsPermutation xs ys → are_joined (sorted ys) ≡ are_joined (sorted xs)
  same_answer xs ys shuffled =
      tests.both_ways (are_joined (sorted ys)) (are_joined (sorted xs))
      (λ all. ap are_joined (same_pieces ys xs (IsPermutation-sym xs ys shuffled) all) ∙ all)
      (λ all. ap are_joined (same_pieces xs ys shuffled all) ∙ all)

pub any_order : (kind : ℕ) (name : List ℕ) (attrs others : List Attr) → IsPermutation attrs others → are_joined (attributes_of kind name others) ≡ are_joined (attributes_of kind name attrs)
unfolding attributes_of
any_order kind name attrs others shuffled = same_answer (is_attribute_of kind name) attrs others shuffled

pub one_stream : (kind : ℕ) (name : List ℕ) (attrs others : List Attr) → IsPermutation attrs others → are_joined (attributes_of kind name attrs) ≡ true → stream_of kind name others ≡ stream_of kind name attrs
unfolding attributes_of stream_of
one_stream kind name attrs others shuffled all = ap joined (same_pieces (is_attribute_of kind name) attrs others shuffled all)
