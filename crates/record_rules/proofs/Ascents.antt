-- Lists over the numbers of records, and the directory of each.
use Rattle.std.proofs.Common.{◌≡◌, ℕ, zero, suc, ◌+◌, ◌<◌, ◌≤◌, List, [], ◌∷◌, ◌++◌, Option, None, length, get_or, sym, ◌∙◌, ap, arith}
use Rattle.std.specs.Prelude.{map}
use Rattle.std.specs.List.{range_with_len, flat_map}
use Rattle.std.proofs.lemmas.List.{append-nil, get_or_past}
use Rattle.std.proofs.lemmas.List.Concat.{flat_map-append}
use Rattle.std.proofs.lemmas.List.FromFn.{map-range_with_len_more, get_or-map-range_with_len, length-map-range_with_len}
use Rattle.state_model.specs.record_model.Records.{Record}
use Rattle.state_model.specs.Files.{file_at, links_at, only_base, file_links}
use Rattle.state_model.specs.Trees.{parent_at, first_parent}
use Rattle.state_model.specs.Loads.{table_in}

pub range_more : (a n : ℕ) → range_with_len a (n + 1) ≡ range_with_len a n ++ (a + n) ∷ []
range_more a zero = let e : a ≡ a + 0 = omega arith in ap (λ (k : ℕ). k ∷ []) e
range_more a (suc n) =
    let e : suc n + 1 ≡ suc (n + 1) = omega arith in
    let f : (a + 1) + n ≡ a + suc n = omega arith in
    ap (range_with_len a) e ∙ ap (λ (ks : List ℕ). a ∷ ks) (range_more (a + 1) n ∙ ap (λ (k : ℕ). range_with_len (a + 1) n ++ k ∷ []) f)

pub flat_map_more : {X : Type 0} (f : ℕ → List X) (n : ℕ) → flat_map f (range_with_len 0 (n + 1)) ≡ flat_map f (range_with_len 0 n) ++ f n
flat_map_more f n =
    let e : 0 + n ≡ n = omega arith in
    ap (flat_map f) (range_more 0 n) ∙ flat_map-append f (range_with_len 0 n) ((0 + n) ∷ []) ∙ ap (λ xs. flat_map f (range_with_len 0 n) ++ xs) (append-nil (f (0 + n)) ∙ ap f e)

pub map_more : {X : Type 0} (f : ℕ → X) (n : ℕ) → map f (range_with_len 0 (n + 1)) ≡ map f (range_with_len 0 n) ++ f n ∷ []
map_more f n = map-range_with_len_more f 0 n n (omega arith)

-- the element of a list made from a function
pub made_here : {X : Type 0} (f : ℕ → X) (n i : ℕ) (x : X) (xs : List X) → xs ≡ map f (range_with_len 0 n) → i < length xs → x ≡ get_or xs i x → x ≡ f i
made_here f n i x xs is lt at =
    let size = ap length is ∙ length-map-range_with_len f 0 n in
    at ∙ ap (λ ys. get_or ys i x) is ∙ get_or-map-range_with_len f 0 n i i x (omega (arith, size)) (omega arith)

pub parent_here : (records : List (Option Record)) (parents : List (Option ℕ)) (i : ℕ) (o : Option ℕ) → parents ≡ map (parent_at (table_in records)) (range_with_len 0 (length records)) → i < length parents → o ≡ get_or parents i o → o ≡ parent_at (table_in records) i
parent_here records parents i o is lt at = made_here (parent_at (table_in records)) (length records) i o parents is lt at

-- a number past the last has no file
pub none_past : (records : List (Option Record)) (i : ℕ) → length records ≤ i → file_at (table_in records) i ≡ None
unfolding file_at
none_past records i past = ap only_base (get_or_past records i None past)

pub no_parent : (records : List (Option Record)) (i : ℕ) → length records ≤ i → parent_at (table_in records) i ≡ None
unfolding parent_at links_at
no_parent records i past = ap (λ o. first_parent (file_links i o)) (none_past records i past)

pub parent_past : (records : List (Option Record)) (parents : List (Option ℕ)) (i : ℕ) → parents ≡ map (parent_at (table_in records)) (range_with_len 0 (length records)) → length parents ≤ i → None ≡ parent_at (table_in records) i
parent_past records parents i is past =
    let size = ap length is ∙ length-map-range_with_len (parent_at (table_in records)) 0 (length records) in
    sym (no_parent records i (omega (arith, size)))
