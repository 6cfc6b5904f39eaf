-- The values of a function at the numbers from one on.
use Rattle.std.proofs.Common.{◌≡◌, ℕ, zero, suc, ◌+◌, ◌-◌, ◌<◌, ◌≤◌, List, ◌∷◌, ◌++◌, map, drop, refl, ap, ◌∙◌, arith}
use Rattle.std.specs.List.{range_with_len}
use Rattle.std.proofs.lemmas.List.{drop-map}
use Rattle.disk_model.specs.Bytes.{zeros}

pub range-split : (f : ℕ → ℕ) (a n m all : ℕ) → n + m ≡ all → map f (range_with_len a all) ≡ map f (range_with_len a n) ++ map f (range_with_len (a + n) m)
range-split f a zero m all is =
    let same : all ≡ m = omega arith in
    let here : a ≡ a + zero = omega arith in
    ap (λ (k : ℕ). map f (range_with_len a k)) same ∙ ap (λ (k : ℕ). map f (range_with_len k m)) here
range-split f a (suc n) m all is =
    let next : all ≡ suc (n + m) = omega arith in
    let behind : (a + 1) + n ≡ a + suc n = omega arith in
    ap (λ (k : ℕ). map f (range_with_len a k)) next
    ∙ ap (λ (l : List ℕ). f a ∷ l) (range-split f (a + 1) n m (n + m) refl)
    ∙ ap (λ (k : ℕ). (f a ∷ map f (range_with_len (a + 1) n)) ++ map f (range_with_len k m)) behind

pub same_map : (f g : ℕ → ℕ) (a n : ℕ) → ((i : ℕ) → a ≤ i → i < a + n → f i ≡ g i) → map f (range_with_len a n) ≡ map g (range_with_len a n)
same_map f g a zero each = refl
same_map f g a (suc n) each =
    ap (λ (x : ℕ). x ∷ map f (range_with_len (a + 1) n)) (each a (omega arith) (omega arith))
    ∙ ap (λ (l : List ℕ). g a ∷ l) (same_map f g (a + 1) n (λ i low high. each i (omega arith) (omega arith)))

pub zero_map : (f : ℕ → ℕ) (a n : ℕ) → ((i : ℕ) → a ≤ i → i < a + n → f i ≡ 0) → map f (range_with_len a n) ≡ zeros n
unfolding zeros
zero_map f a zero each = refl
zero_map f a (suc n) each =
    ap (λ (x : ℕ). x ∷ map f (range_with_len (a + 1) n)) (each a (omega arith) (omega arith))
    ∙ ap (λ (l : List ℕ). 0 ∷ l) (zero_map f (a + 1) n (λ i low high. each i (omega arith) (omega arith)))

drop-range : (k a n : ℕ) → drop k (range_with_len a n) ≡ range_with_len (a + k) (n - k)
drop-range zero a n =
    let here : a ≡ a + zero = omega arith in
    let count : n ≡ n - zero = omega arith in
    ap (λ (b : ℕ). range_with_len b n) here ∙ ap (range_with_len (a + zero)) count
drop-range (suc k) a zero =
    let none : zero ≡ zero - suc k = omega arith in
    ap (range_with_len (a + suc k)) none
drop-range (suc k) a (suc n) =
    let here : (a + 1) + k ≡ a + suc k = omega arith in
    let count : n - k ≡ suc n - suc k = omega arith in
    drop-range k (a + 1) n ∙ ap (λ (b : ℕ). range_with_len b (n - k)) here ∙ ap (range_with_len (a + suc k)) count

pub drop-map-range : (f : ℕ → ℕ) (k n : ℕ) → drop k (map f (range_with_len 0 n)) ≡ map f (range_with_len k (n - k))
drop-map-range f k n =
    let here : zero + k ≡ k = omega arith in
    drop-map f k (range_with_len 0 n) ∙ ap (map f) (drop-range k 0 n ∙ ap (λ (b : ℕ). range_with_len b (n - k)) here)
