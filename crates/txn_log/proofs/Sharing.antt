-- The rivals of a block that begin where their kind may are a few blocks.
use Rattle.std.proofs.Common.{◌≡◌, subst, ℕ, ◌+◌, ◌-◌, ◌*◌, ◌/◌, ◌%◌, ◌<◌, ◌≤◌, zero, suc, Bool, true, false, List, [], ◌∷◌, ◌++◌, map, refl, sym, ap, ◌∙◌, inl, inr, arith}
use Rattle.std.specs.Prelude.{◌&&◌, ◌||◌, nat_lt}
use Rattle.std.specs.List.{list_any, range_with_len}
use Rattle.std.proofs.lemmas.Bool.{cases_lt, eqb-true, ltb-true, lt-ltb}
use Rattle.std.proofs.lemmas.List.Folds.{list_any_at}
use Rattle.std.proofs.lemmas.List.FromFn.{length-map-range_with_len, get_or-map-range_with_len}
use Rattle.store_pools.specs.disk_model.declared.block.Block.{Block}
use Rattle.store_pools.specs.disk_model.declared.block.BlockKind.{BlockKind}
use Rattle.store_pools.specs.disk_model.declared.block.BlockKind.TheVariants.{Plain, FileRec, Index}
use Rattle.store_pools.specs.disk_model.Sectors.{same_block, are_rivals}
use Rattle.store_pools.proofs.disk_model.Frames.{same_block-is}
use Rattle.store_pools.specs.log_model.Logs.{may_begin, is_in_grid}
use Rattle.std.specs.Cmp.{unsigned_tied}
use Rattle.std.proofs.lemmas.Bool.Decides.{nat_tests}
use Rattle.store_pools.specs.block_pool.Numbers.{block_number}
use Rattle.store_pools.proofs.block_pool.Ordering.{order_equal}
use Rattle.store_pools.specs.txn_model.Calls.{plain_at, record_at, index_at, rivals_of}

true≢false : {X : Type 0} → true ≡ false → X
true≢false e = absurd cc

and_left : (u v : Bool) → (u && v) ≡ true → u ≡ true
and_left true v e = refl
and_left false v e = true≢false (sym e)

and_right : (u v : Bool) → (u && v) ≡ true → v ≡ true
and_right true v e = e
and_right false v e = true≢false (sym e)

-- one follows from the other, and the other from it
both_ways : (u v : Bool) → (u ≡ true → v ≡ true) → (v ≡ true → u ≡ true) → u ≡ v
both_ways true v there back = sym (there refl)
both_ways false true there back = back refl
both_ways false false there back = refl

-- one of a few blocks passes the test
first_of : (test : Block → Bool) (b c : Block) (bs : List Block) → c ≡ b → test c ≡ true → list_any test (b ∷ bs) ≡ true
first_of test b c bs same is = ap (λ (v : Bool). v || list_any test bs) (ap test (sym same) ∙ is)

behind_of : (test : Block → Bool) (b : Block) (bs : List Block) → list_any test bs ≡ true → list_any test (b ∷ bs) ≡ true
behind_of test b bs is = or_true (test b) (list_any test bs) is
  where
    or_true : (u v : Bool) → v ≡ true → (u || v) ≡ true
    or_true true v is = refl
    or_true false v is = is

in_front : (test : Block → Bool) (xs ys : List Block) → list_any test xs ≡ true → list_any test (xs ++ ys) ≡ true
in_front test [] ys is = absurd cc
in_front test (x ∷ xs) ys is = by_first (test x) refl is (in_front test xs ys)
  where
    by_first : (v : Bool) → test x ≡ v → (test x || list_any test xs) ≡ true → (list_any test xs ≡ true → list_any test (xs ++ ys) ≡ true) → (test x || list_any test (xs ++ ys)) ≡ true
    by_first true e or rest = ap (λ (v : Bool). v || list_any test (xs ++ ys)) e
    by_first false e or rest = ap (λ (v : Bool). v || list_any test (xs ++ ys)) e ∙ rest (sym (ap (λ (v : Bool). v || list_any test xs) e) ∙ or)

in_back : (test : Block → Bool) (xs ys : List Block) → list_any test ys ≡ true → list_any test (xs ++ ys) ≡ true
in_back test [] ys is = is
in_back test (x ∷ xs) ys is = behind_of test x (xs ++ ys) (in_back test xs ys is)

in_range : (test : Block → Bool) (make : ℕ → Block) (from count i : ℕ) (c : Block) → i < count → c ≡ make (from + i) → test c ≡ true → list_any test (map make (range_with_len from count)) ≡ true
in_range test make from count i c lt same is =
    list_any_at test (map make (range_with_len from count)) i c (subst (λ (n : ℕ). i < n) (sym (length-map-range_with_len make from count)) lt)
    (ap test (get_or-map-range_with_len make from count i (from + i) c lt refl ∙ sym same) ∙ is)

as_block : (kind : BlockKind) (m n : ℕ) → m ≡ n → ◌≡◌ {A = Block} (record { first = m; kind = kind }) (record { first = n; kind = kind })
as_block kind m n is = ap (λ (k : ℕ). record { first = k; kind = kind }) is

-- two blocks that share a sector
sharing : (bf bn cf cn : ℕ) → (nat_lt bf (cf + cn) && nat_lt cf (bf + bn)) ≡ true → (bf < cf + cn) × (cf < bf + bn)
sharing bf bn cf cn is = (ltb-true bf (cf + cn) (and_left (nat_lt bf (cf + cn)) (nat_lt cf (bf + bn)) is), ltb-true cf (bf + bn) (and_right (nat_lt bf (cf + cn)) (nat_lt cf (bf + bn)) is))

by_kinds : (bf : ℕ) (bk : BlockKind) (cf : ℕ) (ck : BlockKind) (test : Block → Bool) → are_rivals (record { first = bf; kind = bk }) (record { first = cf; kind = ck }) ≡ true → may_begin bk bf ≡ true → may_begin ck cf ≡ true
    → test (record { first = cf; kind = ck }) ≡ true → list_any test (rivals_of (record { first = bf; kind = bk })) ≡ true
by_kinds bf Plain cf Plain test rival grid grid' is = true≢false (sym rival)
by_kinds bf FileRec cf FileRec test rival grid grid' is = true≢false (sym rival)
by_kinds bf Index cf Index test rival grid grid' is = true≢false (sym rival)
by_kinds bf Plain cf FileRec test rival grid grid' is =
    let x = sharing bf 1 cf 2 rival in
    first_of test (record_at (bf / 2)) _ (index_at (bf / 8) ∷ []) (as_block FileRec cf (2 * (bf / 2)) (omega (arith, x.0, x.1, eqb-true (cf % 2) 0 grid'))) is
by_kinds bf Plain cf Index test rival grid grid' is =
    let x = sharing bf 1 cf 8 rival in
    behind_of test (record_at (bf / 2)) (index_at (bf / 8) ∷ []) (first_of test (index_at (bf / 8)) _ [] (as_block Index cf (8 * (bf / 8)) (omega (arith, x.0, x.1, eqb-true (cf % 8) 0 grid'))) is)
by_kinds bf FileRec cf Plain test rival grid grid' is =
    let x = sharing bf 2 cf 1 rival in
    elim (cases_lt bf cf) [
      | inl after ↦ behind_of test (plain_at bf) (plain_at (bf + 1) ∷ index_at (bf / 8) ∷ []) (first_of test (plain_at (bf + 1)) _ (index_at (bf / 8) ∷ []) (as_block Plain cf (bf + 1) (omega (arith, after, x.1))) is)
      | inr same ↦ first_of test (plain_at bf) _ (plain_at (bf + 1) ∷ index_at (bf / 8) ∷ []) (as_block Plain cf bf (omega (arith, same, x.0))) is
    ]
by_kinds bf FileRec cf Index test rival grid grid' is =
    let x = sharing bf 2 cf 8 rival in
    behind_of test (plain_at bf) (plain_at (bf + 1) ∷ index_at (bf / 8) ∷ []) (behind_of test (plain_at (bf + 1)) (index_at (bf / 8) ∷ [])
    (first_of test (index_at (bf / 8)) _ [] (as_block Index cf (8 * (bf / 8)) (omega (arith, x.0, x.1, eqb-true (bf % 2) 0 grid, eqb-true (cf % 8) 0 grid'))) is))
by_kinds bf Index cf Plain test rival grid grid' is =
    let x = sharing bf 8 cf 1 rival in
    in_front test (map plain_at (range_with_len bf 8)) (map record_at (range_with_len (bf / 2) 4))
    (in_range test plain_at bf 8 (cf - bf) _ (omega (arith, x.0, x.1)) (as_block Plain cf (bf + (cf - bf)) (omega (arith, x.0))) is)
by_kinds bf Index cf FileRec test rival grid grid' is =
    let x = sharing bf 8 cf 2 rival in
    in_back test (map plain_at (range_with_len bf 8)) (map record_at (range_with_len (bf / 2) 4))
    (in_range test record_at (bf / 2) 4 ((cf - bf) / 2) _ (omega (arith, x.0, x.1, eqb-true (bf % 8) 0 grid, eqb-true (cf % 2) 0 grid'))
    (as_block FileRec cf (2 * (bf / 2 + (cf - bf) / 2)) (omega (arith, x.0, x.1, eqb-true (bf % 8) 0 grid, eqb-true (cf % 2) 0 grid'))) is)

-- where a rival that may begin where it does passes a test, one of these does
pub among_rivals : (b c : Block) (test : Block → Bool) → are_rivals b c ≡ true → is_in_grid b ≡ true → is_in_grid c ≡ true → test c ≡ true → list_any test (rivals_of b) ≡ true
among_rivals b c test rival grid grid' is = by_kinds b.first b.kind c.first c.kind test rival grid grid' is

-- ---- and each of these is a rival

abbrev AreEach : (Block → Type 0) → List Block → Type 0
AreEach P [] = Unit {0}
AreEach P (x ∷ xs) = P x × AreEach P xs

both_lt : (a b c d : ℕ) → a < b → c < d → (nat_lt a b && nat_lt c d) ≡ true
both_lt a b c d first second = ap (λ (t : Bool). t && nat_lt c d) (lt-ltb a b first) ∙ lt-ltb c d second

plains_meet : (f from count : ℕ) → f ≤ from → from + count ≤ f + 8 → AreEach (λ x. are_rivals (record { first = f; kind = Index }) x ≡ true) (map plain_at (range_with_len from count))
plains_meet f from zero low high = tt
plains_meet f from (suc n) low high = (both_lt f (from + 1) from (f + 8) (omega (arith, low, high)) (omega (arith, low, high)), plains_meet f (from + 1) n (omega (arith, low, high)) (omega (arith, low, high)))

records_meet : (f from count : ℕ) → f ≤ 2 * from → 2 * from + 2 * count ≤ f + 8 → AreEach (λ x. are_rivals (record { first = f; kind = Index }) x ≡ true) (map record_at (range_with_len from count))
records_meet f from zero low high = tt
records_meet f from (suc n) low high = (both_lt f (2 * from + 2) (2 * from) (f + 8) (omega (arith, low, high)) (omega (arith, low, high)), records_meet f (from + 1) n (omega (arith, low, high)) (omega (arith, low, high)))

joined_all : (P : Block → Type 0) (xs ys : List Block) → AreEach P xs → AreEach P ys → AreEach P (xs ++ ys)
joined_all P [] ys here there = there
joined_all P (x ∷ xs) ys here there = (here.0, joined_all P xs ys here.1 there)

all_rivals : (kind : BlockKind) (f : ℕ) → may_begin kind f ≡ true → AreEach (λ x. are_rivals (record { first = f; kind = kind }) x ≡ true) (rivals_of (record { first = f; kind = kind }))
all_rivals Plain f grid = (both_lt f (2 * (f / 2) + 2) (2 * (f / 2)) (f + 1) (omega arith) (omega arith), (both_lt f (8 * (f / 8) + 8) (8 * (f / 8)) (f + 1) (omega arith) (omega arith), tt))
all_rivals FileRec f grid = (
  both_lt f (f + 1) f (f + 2) (omega arith) (omega arith),
  (both_lt f (f + 1 + 1) (f + 1) (f + 2) (omega arith) (omega arith), (both_lt f (8 * (f / 8) + 8) (8 * (f / 8)) (f + 2) (omega arith) (omega arith), tt)),
)
all_rivals Index f grid =
    joined_all (λ x. are_rivals (record { first = f; kind = Index }) x ≡ true) (map plain_at (range_with_len f 8)) (map record_at (range_with_len (f / 2) 4)) (plains_meet f f 8 (omega arith) (omega arith))
    (records_meet f (f / 2) 4 (omega (arith, eqb-true (f % 8) 0 grid)) (omega (arith, eqb-true (f % 8) 0 grid)))

found_in : (P : Block → Type 0) (c : Block) (xs : List Block) → AreEach P xs → list_any (same_block c) xs ≡ true → P c
found_in P c [] all is = true≢false (sym is)
found_in P c (x ∷ xs) all is = by_first (same_block c x) refl is (found_in P c xs all.1)
  where
    by_first : (t : Bool) → same_block c x ≡ t → (t || list_any (same_block c) xs) ≡ true → (list_any (same_block c) xs ≡ true → P c) → P c
    by_first true e or rest = subst P (sym (same_block-is c x e)) all.0
    by_first false e or rest = rest or

pub same_self : (c : Block) → same_block c c ≡ true
same_self c = sym (order_equal c c) ∙ unsigned_tied (block_number c) (block_number c) ∙ grind (arith, nat_tests)

-- of two blocks that begin where their kinds may: whether the one is among these of the other, and whether they are rivals
pub among_is : (b c : Block) → is_in_grid b ≡ true → is_in_grid c ≡ true → list_any (same_block c) (rivals_of b) ≡ are_rivals b c
among_is b c grid grid' =
    both_ways (list_any (same_block c) (rivals_of b)) (are_rivals b c) (found_in (λ x. are_rivals b x ≡ true) c (rivals_of b) (all_rivals b.kind b.first grid))
    (λ rival. among_rivals b c (same_block c) rival grid grid' (same_self c))
