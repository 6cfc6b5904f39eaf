-- Pages that are counted entry by entry.
use Rattle.std.proofs.Common.{◌≡◌, ℕ, zero, suc, ◌+◌, ◌-◌, ◌^◌, ◌<◌, ◌≤◌, min, cond, List, [], ◌∷◌, ◌++◌, map, refl, sym, ap, ap₂, ◌∙◌, inl, inr, arith}
use Rattle.std.proofs.lemmas.Bool.{cases_lt}
use Rattle.store_pools.specs.log_model.Entries.{update_size}
use Rattle.store_pools.specs.txn_model.Pieces.{Piece, cut}
use Rattle.txn_log.specs.Counts.{begins_page, free_after, pages_of, piece_size, capped}
use Rattle.txn_log.specs.Counting.{counted}
use Rattle.txn_log.proofs.Cuts.{cut_first, cut_none}

-- the sizes of pieces are those of pieces elsewhere
pub sizes_moved : (most at at' n : ℕ) → map piece_size (cut most at n) ≡ map piece_size (cut most at' n)
sizes_moved zero at at' n = refl
sizes_moved (suc most) at at' n =
    let rest : map piece_size (cut most (at + min 1900 n) (n - min 1900 n)) ≡ map piece_size (cut most (at' + min 1900 n) (n - min 1900 n)) = sizes_moved most (at + min 1900 n) (at' + min 1900 n) (n - min 1900 n) in
    elim (cases_lt 0 n) [
      | inl some ↦ ap (λ (ps : List Piece). map piece_size ps) (cut_first most at n some) ∙ ap (λ (xs : List ℕ). update_size (min 1900 n) ∷ xs) rest ∙ sym (ap (λ (ps : List Piece). map piece_size ps) (cut_first most at' n some))
      | inr none ↦ ap (λ (ps : List Piece). map piece_size ps) (cut_none (suc most) at n (omega (arith, none)) ∙ sym (cut_none (suc most) at' n (omega (arith, none))))
    ]

-- an entry more was put
pub put_more : (pages free pages' free' bytes : ℕ) → free' ≡ free_after free bytes → pages' ≡ capped (pages + cond (begins_page free bytes) 1 0) → (sizes : List ℕ) → counted pages' free' sizes ≡ counted pages free (bytes ∷ sizes)
put_more pages free pages' free' bytes free_is pages_is sizes = ap₂ (λ (p f : ℕ). counted p f sizes) pages_is free_is

-- the update of a piece more was put
pub piece_more : (pages free pages' free' bytes most rest left left' count : ℕ) → most ≡ suc rest → 0 < left → count ≡ min 1900 left → left' ≡ left - count → bytes ≡ update_size count
    → free' ≡ free_after free bytes → pages' ≡ capped (pages + cond (begins_page free bytes) 1 0)
    → (sizes : List ℕ) → counted pages' free' (map piece_size (cut rest 0 left') ++ sizes) ≡ counted pages free (map piece_size (cut most 0 left) ++ sizes)
piece_more pages free pages' free' bytes most rest left left' count fuel some count_is left_is bytes_is free_is pages_is sizes =
    put_more pages free pages' free' bytes free_is pages_is (map piece_size (cut rest 0 left') ++ sizes)
    ∙ ap (λ (b : ℕ). counted pages free (b ∷ (map piece_size (cut rest 0 left') ++ sizes))) (bytes_is ∙ ap update_size count_is)
    ∙ ap (λ (n : ℕ). counted pages free (update_size (min 1900 left) ∷ (map piece_size (cut rest 0 n) ++ sizes))) (left_is ∙ ap (λ (n : ℕ). left - n) count_is)
    ∙ ap (λ (xs : List ℕ). counted pages free (update_size (min 1900 left) ∷ (xs ++ sizes))) (sizes_moved rest 0 (0 + min 1900 left) (left - min 1900 left))
    ∙ sym (ap (λ (ps : List Piece). counted pages free (map piece_size ps ++ sizes)) (ap (λ (k : ℕ). cut k 0 left) fuel ∙ cut_first rest 0 left some))

-- none is left
pub no_piece : (pages free pages' free' most rest left left' : ℕ) → left ≡ 0 → left' ≡ left → free' ≡ free → pages' ≡ pages
    → (sizes : List ℕ) → counted pages' free' (map piece_size (cut rest 0 left') ++ sizes) ≡ counted pages free (map piece_size (cut most 0 left) ++ sizes)
no_piece pages free pages' free' most rest left left' none left_is free_is pages_is sizes =
    ap₂ (λ (p f : ℕ). counted p f (map piece_size (cut rest 0 left') ++ sizes)) pages_is free_is
    ∙ ap (λ (ps : List Piece). counted pages free (map piece_size ps ++ sizes)) (cut_none rest 0 left' (left_is ∙ none) ∙ sym (cut_none most 0 left none))

-- a count that stays at an end
min_more : (a b c most : ℕ) → min (min (a + b) most + c) most ≡ min (a + (b + c)) most
min_more a b c most = omega arith

counted_up : (pages free : ℕ) (sizes : List ℕ) → pages ≤ 2 ^ 64 - 1 → counted pages free sizes ≡ capped (pages + pages_of free sizes)
counted_up pages free [] small = omega (arith, small)
counted_up pages free (bytes ∷ sizes) small =
    counted_up (capped (pages + cond (begins_page free bytes) 1 0)) (free_after free bytes) sizes (omega arith)
    ∙ min_more pages (cond (begins_page free bytes) 1 0) (pages_of (free_after free bytes) sizes) (2 ^ 64 - 1)

-- from none on
pub counted_all : (free : ℕ) (sizes : List ℕ) → counted 0 free sizes ≡ capped (pages_of free sizes)
counted_all free sizes = counted_up 0 free sizes (omega arith) ∙ ap capped (omega arith)
