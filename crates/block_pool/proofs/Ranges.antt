-- The first block from one on.
use Rattle.std.proofs.Common.{◌≡◌, ℕ, ◌*◌, ◌^◌, ◌<◌, ◌≤◌, Bool, true, false, cond, List, [], ◌∷◌, filter, Option, Some, None, refl, sym, ap, subst, ◌∙◌, inl, inr, arith}
use Rattle.std.proofs.lemmas.Bool.{eqb-true, cases_lt, cases_Bool}
use Rattle.std.specs.Prelude.{◌&&◌, All, IfSome}
use Rattle.std.specs.List.{AllByRecursion}
use Rattle.std.specs.List.Sorted.{IsStrictlySortedBy}
use Rattle.std.specs.Map.{lookup, keys_of}
use Rattle.std.specs.Ordering.{is_eq, is_gt, is_le, nat_cmp}
use Rattle.std.specs.BTreeMap.{BTreeMap}
use Rattle.std.specs.BTreeMap.Range.{range_contains, IsEntryInRange}
use Rattle.std.specs.declared.ops.Bound.TheVariants.{Included, Unbounded}
use Rattle.std.specs.declared.cmp.Ordering.{Ordering}
use Rattle.std.specs.declared.cmp.Ordering.TheVariants.{Less, Equal, Greater}
use Rattle.std.specs.Cmp.{unsigned_tied, nat_cmp_is}
use Rattle.std.specs.List.{slice_get}
use Rattle.std.proofs.lemmas.List.Elements.{All-head, All-tail, All-weaker}
use Rattle.std.proofs.lemmas.List.Kept.{IsStrictlySortedBy-filter}
use Rattle.std.proofs.lemmas.Map.Entries.{lookup-filter-keys}
use Rattle.std.proofs.lemmas.Map.Keys.{le_from_not_gt, sorted_head, sorted_tail}
use Rattle.disk_model.specs.declared.block.Block.{Block}
use Rattle.block_pool.specs.Numbers.{block_number, block_at, shown}
use Rattle.block_pool.specs.Pools.{held, passes, IsNextFrom, NoneFrom}
use Rattle.block_pool.proofs.Ordering.{number_at}
use Rattle.block_pool.proofs.Shown.{found}

not_gt_from_le : (a b : ℕ) → a ≤ b → is_gt (nat_cmp a b) ≡ false
not_gt_from_le a b le = elim (cases_lt a b) [
  | inl lt ↦ ap is_gt (sym (nat_cmp_is a b Less lt))
  | inr ge ↦ ap is_gt (sym (nat_cmp_is a b Equal (omega arith)))
]

yes_no : {Y : Type 0} → true ≡ false → Y
yes_no e = absurd cc

-- a key is in the range from this number on
abbrev pub is_from : ℕ → ℕ → Bool
is_from n q = range_contains nat_cmp (Included n) Unbounded q

from_order : (o : Ordering) → is_gt o ≡ false → (is_le o && true) ≡ true
from_order Less e = refl
from_order Equal e = refl
from_order Greater e = absurd cc

order_from : (o : Ordering) → (is_le o && true) ≡ true → is_gt o ≡ false
order_from Less e = refl
order_from Equal e = refl
order_from Greater e = absurd cc

pub inside : (n q : ℕ) → n ≤ q → is_from n q ≡ true
inside n q le = from_order (nat_cmp n q) (not_gt_from_le n q le)

pub within : (n q : ℕ) → is_from n q ≡ true → n ≤ q
within n q is = le_from_not_gt n q (order_from (nat_cmp n q) is)

module _ {X : Type 0} where
  pub first_is : (P : ℕ × X → Type 0) (r t : List (ℕ × X)) (e : ℕ × X) → r ≡ e ∷ t → IfSome (slice_get r 0) P → P e
  first_is P r t e is first = subst (λ (xs : List (ℕ × X)). IfSome (slice_get xs 0) P) is first

  -- a number that is found is small where all are
  pub found_small : (n : ℕ) (v : X) (es : List (ℕ × X)) → lookup (λ m. is_eq (nat_cmp n m)) es ≡ Some v → All (λ k. k < 3 * 2 ^ 64) (keys_of es) → n < 3 * 2 ^ 64
  found_small n v [] is small = absurd cc
  found_small n v (e ∷ es) is small = by_test (λ there. found_small n v es there (All-tail (λ k. k < 3 * 2 ^ 64) e.0 (keys_of es) small)) (is_eq (nat_cmp n e.0)) refl is
    where
      by_test : (lookup (λ m. is_eq (nat_cmp n m)) es ≡ Some v → n < 3 * 2 ^ 64) → (t : Bool) → is_eq (nat_cmp n e.0) ≡ t → cond t (Some e.1) (lookup (λ m. is_eq (nat_cmp n m)) es) ≡ Some v → n < 3 * 2 ^ 64
      by_test rest true same there =
          let first : e.0 < 3 * 2 ^ 64 = All-head (λ k. k < 3 * 2 ^ 64) e.0 (keys_of es) small in
          let is : n ≡ e.0 = eqb-true n e.0 (sym (unsigned_tied n e.0) ∙ same) in
          omega (arith, first, is)
      by_test rest false apart there = rest there

  -- of the entries of a map, what is left of those from a number on: in order, and with each one that passes
  pub record IsLeft (test : X → Bool) (es left : List (ℕ × X)) : Type 0 where
    pub ordered : IsStrictlySortedBy nat_cmp (keys_of left)
    pub within : All (λ e. lookup (λ m. is_eq (nat_cmp e.0 m)) es ≡ Some e.1) left
    pub has : (q : ℕ) → passes test (lookup (λ m. is_eq (nat_cmp q m)) es) ≡ true → lookup (λ m. is_eq (nat_cmp q m)) left ≡ lookup (λ m. is_eq (nat_cmp q m)) es

  -- a key that is found is one of the keys
  key_found : (P : ℕ → Type 0) (q : ℕ) (v : X) (es : List (ℕ × X)) → lookup (λ m. is_eq (nat_cmp q m)) es ≡ Some v → AllByRecursion P (keys_of es) → P q
  key_found P q v [] is all = absurd cc
  key_found P q v (e ∷ es) is all = by_test (λ there. key_found P q v es there all.1) (is_eq (nat_cmp q e.0)) refl is
    where
      by_test : (lookup (λ m. is_eq (nat_cmp q m)) es ≡ Some v → P q) → (t : Bool) → is_eq (nat_cmp q e.0) ≡ t → cond t (Some e.1) (lookup (λ m. is_eq (nat_cmp q m)) es) ≡ Some v → P q
      by_test rest true same there = subst P (sym (eqb-true q e.0 (sym (unsigned_tied q e.0) ∙ same))) all.0
      by_test rest false apart there = rest there

  module _ (test : X → Bool) (es : List (ℕ × X)) where
    -- the first one that is left doesn't pass
    pub passed_by : (left rest : List (ℕ × X)) (e : ℕ × X) → left ≡ e ∷ rest → test e.1 ≡ false → IsLeft test es left → IsLeft test es rest
    passed_by left rest e is not_passed so = record {
      ordered = sorted_tail nat_cmp e.0 (keys_of rest) (subst (λ (l : List (ℕ × X)). IsStrictlySortedBy nat_cmp (keys_of l)) is so.ordered);
      within = All-tail (λ e. lookup (λ m. is_eq (nat_cmp e.0 m)) es ≡ Some e.1) e rest (subst (λ (l : List (ℕ × X)). All (λ e. lookup (λ m. is_eq (nat_cmp e.0 m)) es ≡ Some e.1) l) is so.within);
      has = λ q passed. by_test q passed (is_eq (nat_cmp q e.0)) refl (ap (lookup (λ m. is_eq (nat_cmp q m))) (sym is) ∙ so.has q passed);
    }
      where
        by_test : (q : ℕ) → passes test (lookup (λ m. is_eq (nat_cmp q m)) es) ≡ true → (t : Bool) → is_eq (nat_cmp q e.0) ≡ t → cond t (Some e.1) (lookup (λ m. is_eq (nat_cmp q m)) rest) ≡ lookup (λ m. is_eq (nat_cmp q m)) es
            → lookup (λ m. is_eq (nat_cmp q m)) rest ≡ lookup (λ m. is_eq (nat_cmp q m)) es
        by_test q passed true same there = yes_no (sym passed ∙ ap (passes test) (sym there) ∙ not_passed)
        by_test q passed false apart there = there

    -- it is one of all
    pub first_known : (left rest : List (ℕ × X)) (e : ℕ × X) → left ≡ e ∷ rest → IsLeft test es left → lookup (λ m. is_eq (nat_cmp e.0 m)) es ≡ Some e.1
    first_known left rest e is so = All-head (λ e. lookup (λ m. is_eq (nat_cmp e.0 m)) es ≡ Some e.1) e rest (subst (λ (l : List (ℕ × X)). All (λ e. lookup (λ m. is_eq (nat_cmp e.0 m)) es ≡ Some e.1) l) is so.within)

    -- it does: each other one that passes is behind it
    pub least_passed : (left rest : List (ℕ × X)) (e : ℕ × X) → left ≡ e ∷ rest → IsLeft test es left → (q : ℕ) → passes test (lookup (λ m. is_eq (nat_cmp q m)) es) ≡ true → e.0 ≤ q
    least_passed left rest e is so q passed = by_value (lookup (λ m. is_eq (nat_cmp q m)) es) refl passed
      where
        found_in : (v : X) → lookup (λ m. is_eq (nat_cmp q m)) es ≡ Some v → lookup (λ m. is_eq (nat_cmp q m)) (e ∷ rest) ≡ Some v
        found_in v known = ap (lookup (λ m. is_eq (nat_cmp q m))) (sym is) ∙ so.has q passed ∙ known

        by_test : (v : X) → (t : Bool) → is_eq (nat_cmp q e.0) ≡ t → cond t (Some e.1) (lookup (λ m. is_eq (nat_cmp q m)) rest) ≡ Some v → e.0 ≤ q
        by_test v true same there = let at = eqb-true q e.0 (sym (unsigned_tied q e.0) ∙ same) in omega (arith, at)
        by_test v false apart there =
            let less = key_found (λ (k : ℕ). nat_cmp e.0 k ≡ Less) q v rest there (sorted_head nat_cmp e.0 (keys_of rest) (subst (λ (l : List (ℕ × X)). IsStrictlySortedBy nat_cmp (keys_of l)) is so.ordered)) in
            le_from_not_gt e.0 q (ap is_gt less)

        by_value : (o : Option X) → lookup (λ m. is_eq (nat_cmp q m)) es ≡ o → passes test o ≡ true → e.0 ≤ q
        by_value None known passed = yes_no (sym passed)
        by_value (Some v) known passed = by_test v (is_eq (nat_cmp q e.0)) refl (found_in v known)

    -- nothing is left
    pub none_passed : (left : List (ℕ × X)) → left ≡ [] → IsLeft test es left → (q : ℕ) → passes test (lookup (λ m. is_eq (nat_cmp q m)) es) ≡ false
    none_passed left is so q = elim (cases_Bool (passes test (lookup (λ m. is_eq (nat_cmp q m)) es))) [
      | inl passed ↦ yes_no (sym passed ∙ ap (passes test) (sym (so.has q passed) ∙ ap (lookup (λ m. is_eq (nat_cmp q m))) is))
      | inr not_passed ↦ not_passed
    ]

  -- those of a range
  keys_step : (p : ℕ → Bool) (t : Bool) (e : ℕ × X) (es : List (ℕ × X)) (ks : List ℕ) → keys_of es ≡ ks → keys_of (cond t (e ∷ es) es) ≡ cond t (e.0 ∷ ks) ks
  keys_step p true e es ks same = ap (λ (l : List ℕ). e.0 ∷ l) same
  keys_step p false e es ks same = same

  keys_filter : (p : ℕ → Bool) (es : List (ℕ × X)) → keys_of (filter (λ e. p e.0) es) ≡ filter p (keys_of es)
  keys_filter p [] = refl
  keys_filter p (e ∷ es) = keys_step p (p e.0) e (filter (λ x. p x.0) es) (filter p (keys_of es)) (keys_filter p es)

  module _ (p : ℕ → Bool) (es r : List (ℕ × X)) (is : r ≡ filter (λ e. p e.0) es) where
    -- what is found there is found among all, where it passes
    pub found_there : (q : ℕ) → lookup (λ m. is_eq (nat_cmp q m)) r ≡ cond (p q) (lookup (λ m. is_eq (nat_cmp q m)) es) None
    found_there q = ap (lookup (λ m. is_eq (nat_cmp q m))) is ∙ lookup-filter-keys (λ m. is_eq (nat_cmp q m)) p (p q) (λ k same. ap p (sym (eqb-true q k (sym (unsigned_tied q k) ∙ same)))) es

    pub all_left : (test : X → Bool) → IsStrictlySortedBy nat_cmp (keys_of es) → All (λ e. (p e.0 ≡ true) × (lookup (λ m. is_eq (nat_cmp e.0 m)) es ≡ Some e.1)) r → IsLeft test r r
    all_left test ordered inside = record {
      ordered = subst (λ (ks : List ℕ). IsStrictlySortedBy nat_cmp ks) (sym (ap keys_of is ∙ keys_filter p es)) (IsStrictlySortedBy-filter nat_cmp p (keys_of es) ordered);
      within = All-weaker (λ e. (p e.0 ≡ true) × (lookup (λ m. is_eq (nat_cmp e.0 m)) es ≡ Some e.1)) (λ e. lookup (λ m. is_eq (nat_cmp e.0 m)) r ≡ Some e.1)
          (λ e x. found_there e.0 ∙ ap (λ (t : Bool). cond t (lookup (λ m. is_eq (nat_cmp e.0 m)) es) None) x.0 ∙ x.1) r inside;
      has = λ q passed. refl;
    }

  pub all_in : (n : ℕ) (m : BTreeMap ℕ X) (r : List (ℕ × X)) → All (IsEntryInRange nat_cmp (Included n) Unbounded m) r → All (λ e. (is_from n e.0 ≡ true) × (lookup (λ k. is_eq (nat_cmp e.0 k)) m.entries ≡ Some e.1)) r
  all_in n m r all = All-weaker (IsEntryInRange nat_cmp (Included n) Unbounded m) (λ e. (is_from n e.0 ≡ true) × (lookup (λ k. is_eq (nat_cmp e.0 k)) m.entries ≡ Some e.1)) (λ e x. (from_order (nat_cmp n e.0) x.0.0, x.1)) r all

  -- a value that is found in a part of a map is found in it, and its key is in that part
  from_part : (t : Bool) (o : Option X) (v : X) → cond t o None ≡ Some v → (t ≡ true) × (o ≡ Some v)
  from_part true o v is = (refl, is)
  from_part false o v is = absurd cc

  -- it passes there where it passes in the map, for a key of the part
  module _ (n : ℕ) (es r : List (ℕ × X)) (is : r ≡ filter (λ e. is_from n e.0) es) (now : List (Block × X)) (shows : shown es ≡ now) where
    here : (c : Block) → lookup (λ m. is_eq (nat_cmp (block_number c) m)) es ≡ held now c
    here c = found c (block_number c) es now refl shows

    there : (c : Block) → n ≤ block_number c → lookup (λ m. is_eq (nat_cmp (block_number c) m)) r ≡ held now c
    there c le = found_there (is_from n) es r is (block_number c) ∙ ap (λ (t : Bool). cond t (lookup (λ m. is_eq (nat_cmp (block_number c) m)) es) None) (inside n (block_number c) le) ∙ here c

    pub known_small : (k : ℕ) (v : X) → lookup (λ m. is_eq (nat_cmp k m)) r ≡ Some v → All (λ k. k < 3 * 2 ^ 64) (keys_of es) → k < 3 * 2 ^ 64
    known_small k v known small = found_small k v es (from_part (is_from n k) (lookup (λ m. is_eq (nat_cmp k m)) es) v (sym (found_there (is_from n) es r is k) ∙ known)).1 small

    pub none_from : (test : X → Bool) → ((q : ℕ) → passes test (lookup (λ m. is_eq (nat_cmp q m)) r) ≡ false) → NoneFrom test now n
    none_from test none c le = ap (passes test) (sym (there c le)) ∙ none (block_number c)

    pub next_from : (test : X → Bool) (k : ℕ) (v : X) → lookup (λ m. is_eq (nat_cmp k m)) r ≡ Some v → test v ≡ true
        → ((q : ℕ) → passes test (lookup (λ m. is_eq (nat_cmp q m)) r) ≡ true → k ≤ q) → IsNextFrom test now n (block_at k)
    next_from test k v known passed least =
        let part = from_part (is_from n k) (lookup (λ m. is_eq (nat_cmp k m)) es) v (sym (found_there (is_from n) es r is k) ∙ known) in
        record {
          from = (let same = number_at k in let le = within n k part.0 in omega (arith, le, same));
          passed = ap (passes test) (sym (here (block_at k)) ∙ ap (λ (q : ℕ). lookup (λ m. is_eq (nat_cmp q m)) es) (number_at k) ∙ part.1) ∙ passed;
          none = λ c le lt. elim (cases_Bool (passes test (held now c))) [
            | inl is ↦ (let most = least (block_number c) (ap (passes test) (there c le) ∙ is) in let same = number_at k in absurd (omega (arith, most, lt, same)))
            | inr isnt ↦ isnt
          ];
        }
