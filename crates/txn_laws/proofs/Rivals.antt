-- The rivals of a block that begin where their kind may are among a few.
use Rattle.std.proofs.Common.{◌≡◌, subst, ℕ, ◌+◌, ◌-◌, ◌*◌, ◌/◌, ◌%◌, ◌<◌, Bool, true, false, List, [], ◌∷◌, ◌++◌, map, refl, sym, ap, ◌∙◌, inl, inr, arith}
use Rattle.std.specs.Prelude.{◌&&◌, ◌||◌, nat_lt}
use Rattle.std.specs.List.{list_any, range_with_len}
use Rattle.std.proofs.lemmas.Bool.{cases_lt, eqb-true, ltb-true}
use Rattle.std.proofs.lemmas.List.Folds.{list_any_at}
use Rattle.std.proofs.lemmas.List.FromFn.{length-map-range_with_len, get_or-map-range_with_len}
use Rattle.area_laws.specs.disk_model.declared.block.Block.{Block}
use Rattle.area_laws.specs.disk_model.declared.block.BlockKind.{BlockKind}
use Rattle.area_laws.specs.disk_model.declared.block.BlockKind.TheVariants.{Plain, FileRec, Index}
use Rattle.area_laws.specs.disk_model.Sectors.{are_rivals}
use Rattle.area_laws.specs.log_model.Logs.{may_begin, is_in_grid}
use Rattle.store_claims.proofs.store_model.Told.{true≢false}
use Rattle.txn_model.specs.Calls.{plain_at, record_at, index_at, rivals_of}
use Rattle.txn_laws.proofs.Syncs.{and_left, and_right}

-- one of a few blocks passes the test
first_of : (test : Block → Bool) (b c : Block) (bs : List Block) → c ≡ b → test c ≡ true → list_any test (b ∷ bs) ≡ true
first_of test b c bs same is = ap (λ (v : Bool). v || list_any test bs) (ap test (sym same) ∙ is)

behind_of : (test : Block → Bool) (b : Block) (bs : List Block) → list_any test bs ≡ true → list_any test (b ∷ bs) ≡ true
behind_of test b bs is = or_true (test b) (list_any test bs) is
  where
    or_true : (u v : Bool) → v ≡ true → (u || v) ≡ true
    or_true true v is = refl
    or_true false v is = is

in_front : (test : Block → Bool) (xs ys : List Block) → list_any test xs ≡ true → list_any test (xs ++ ys) ≡ true
in_front test [] ys is = absurd cc
in_front test (x ∷ xs) ys is = by_first (test x) refl is (in_front test xs ys)
  where
    by_first : (v : Bool) → test x ≡ v → (test x || list_any test xs) ≡ true → (list_any test xs ≡ true → list_any test (xs ++ ys) ≡ true) → (test x || list_any test (xs ++ ys)) ≡ true
    by_first true e or rest = ap (λ (v : Bool). v || list_any test (xs ++ ys)) e
    by_first false e or rest = ap (λ (v : Bool). v || list_any test (xs ++ ys)) e ∙ rest (sym (ap (λ (v : Bool). v || list_any test xs) e) ∙ or)

in_back : (test : Block → Bool) (xs ys : List Block) → list_any test ys ≡ true → list_any test (xs ++ ys) ≡ true
in_back test [] ys is = is
in_back test (x ∷ xs) ys is = behind_of test x (xs ++ ys) (in_back test xs ys is)

in_range : (test : Block → Bool) (make : ℕ → Block) (from count i : ℕ) (c : Block) → i < count → c ≡ make (from + i) → test c ≡ true → list_any test (map make (range_with_len from count)) ≡ true
in_range test make from count i c lt same is =
    list_any_at test (map make (range_with_len from count)) i c (subst (λ (n : ℕ). i < n) (sym (length-map-range_with_len make from count)) lt)
    (ap test (get_or-map-range_with_len make from count i (from + i) c lt refl ∙ sym same) ∙ is)

as_block : (kind : BlockKind) (m n : ℕ) → m ≡ n → ◌≡◌ {A = Block} (record { first = m; kind = kind }) (record { first = n; kind = kind })
as_block kind m n is = ap (λ (k : ℕ). record { first = k; kind = kind }) is

-- two blocks that share a sector
sharing : (bf bn cf cn : ℕ) → (nat_lt bf (cf + cn) && nat_lt cf (bf + bn)) ≡ true → (bf < cf + cn) × (cf < bf + bn)
sharing bf bn cf cn is = (ltb-true bf (cf + cn) (and_left (nat_lt bf (cf + cn)) (nat_lt cf (bf + bn)) is), ltb-true cf (bf + bn) (and_right (nat_lt bf (cf + cn)) (nat_lt cf (bf + bn)) is))

by_kinds : (bf : ℕ) (bk : BlockKind) (cf : ℕ) (ck : BlockKind) (test : Block → Bool) → are_rivals (record { first = bf; kind = bk }) (record { first = cf; kind = ck }) ≡ true → may_begin bk bf ≡ true → may_begin ck cf ≡ true
    → test (record { first = cf; kind = ck }) ≡ true → list_any test (rivals_of (record { first = bf; kind = bk })) ≡ true
by_kinds bf Plain cf Plain test rival grid grid' is = absurd (true≢false (sym rival))
by_kinds bf FileRec cf FileRec test rival grid grid' is = absurd (true≢false (sym rival))
by_kinds bf Index cf Index test rival grid grid' is = absurd (true≢false (sym rival))
by_kinds bf Plain cf FileRec test rival grid grid' is =
    let x = sharing bf 1 cf 2 rival in
    first_of test (record_at (bf / 2)) _ (index_at (bf / 8) ∷ []) (as_block FileRec cf (2 * (bf / 2)) (omega (arith, x.0, x.1, eqb-true (cf % 2) 0 grid'))) is
by_kinds bf Plain cf Index test rival grid grid' is =
    let x = sharing bf 1 cf 8 rival in
    behind_of test (record_at (bf / 2)) (index_at (bf / 8) ∷ []) (first_of test (index_at (bf / 8)) _ [] (as_block Index cf (8 * (bf / 8)) (omega (arith, x.0, x.1, eqb-true (cf % 8) 0 grid'))) is)
by_kinds bf FileRec cf Plain test rival grid grid' is =
    let x = sharing bf 2 cf 1 rival in
    elim (cases_lt bf cf) [
      | inl after ↦ behind_of test (plain_at bf) (plain_at (bf + 1) ∷ index_at (bf / 8) ∷ []) (first_of test (plain_at (bf + 1)) _ (index_at (bf / 8) ∷ []) (as_block Plain cf (bf + 1) (omega (arith, after, x.1))) is)
      | inr same ↦ first_of test (plain_at bf) _ (plain_at (bf + 1) ∷ index_at (bf / 8) ∷ []) (as_block Plain cf bf (omega (arith, same, x.0))) is
    ]
by_kinds bf FileRec cf Index test rival grid grid' is =
    let x = sharing bf 2 cf 8 rival in
    behind_of test (plain_at bf) (plain_at (bf + 1) ∷ index_at (bf / 8) ∷ []) (behind_of test (plain_at (bf + 1)) (index_at (bf / 8) ∷ [])
    (first_of test (index_at (bf / 8)) _ [] (as_block Index cf (8 * (bf / 8)) (omega (arith, x.0, x.1, eqb-true (bf % 2) 0 grid, eqb-true (cf % 8) 0 grid'))) is))
by_kinds bf Index cf Plain test rival grid grid' is =
    let x = sharing bf 8 cf 1 rival in
    in_front test (map plain_at (range_with_len bf 8)) (map record_at (range_with_len (bf / 2) 4))
    (in_range test plain_at bf 8 (cf - bf) _ (omega (arith, x.0, x.1)) (as_block Plain cf (bf + (cf - bf)) (omega (arith, x.0))) is)
by_kinds bf Index cf FileRec test rival grid grid' is =
    let x = sharing bf 8 cf 2 rival in
    in_back test (map plain_at (range_with_len bf 8)) (map record_at (range_with_len (bf / 2) 4))
    (in_range test record_at (bf / 2) 4 ((cf - bf) / 2) _ (omega (arith, x.0, x.1, eqb-true (bf % 8) 0 grid, eqb-true (cf % 2) 0 grid'))
    (as_block FileRec cf (2 * (bf / 2 + (cf - bf) / 2)) (omega (arith, x.0, x.1, eqb-true (bf % 8) 0 grid, eqb-true (cf % 2) 0 grid'))) is)

-- where a rival that may begin where it does passes a test, one of these does
pub among_rivals : (b c : Block) (test : Block → Bool) → are_rivals b c ≡ true → is_in_grid b ≡ true → is_in_grid c ≡ true → test c ≡ true → list_any test (rivals_of b) ≡ true
among_rivals b c test rival grid grid' is = by_kinds b.first b.kind c.first c.kind test rival grid grid' is
