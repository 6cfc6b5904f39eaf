-- Elements that stand by a rising number, some of which say nothing.
use Rattle.std.proofs.Common.{◌≡◌, ℕ, zero, suc, ◌-◌, ◌<◌, ◌≤◌, List, [], ◌∷◌, length, get_or, take, drop, Option, None, refl, sym, ap, ◌∙◌, arith}
use Rattle.std.proofs.lemmas.List.{take_all}
use Rattle.volume_shadows.specs.Least.{lesser, least_of}

-- the first so many say nothing
pub least_dropped : {A : Type 0} (f : A → Option ℕ) (n : ℕ) (xs : List A) → n ≤ length xs → ((k : ℕ) (d : A) → k < n → f (get_or xs k d) ≡ None) → least_of f (drop n xs) ≡ least_of f xs
least_dropped f zero xs le none = refl
least_dropped f (suc n) [] le none = refl
least_dropped f (suc n) (x ∷ xs) le none =
    least_dropped f n xs (omega (arith, le)) (λ k d lt. none (suc k) d (omega (arith, lt)))
    ∙ sym (ap (λ (o : Option ℕ). lesser o (least_of f xs)) (none 0 x (omega arith)))

-- what a slice to the end has
pub least_rest : {A : Type 0} (f : A → Option ℕ) (n : ℕ) (xs : List A) → n ≤ length xs → least_of f (take (length xs - n) (drop n xs)) ≡ least_of f (drop n xs)
least_rest {A = A} f zero xs le = ap (λ (ys : List A). least_of f ys) (take_all (length xs - 0) xs (omega arith))
least_rest f (suc n) [] le = absurd (omega (arith, le))
least_rest f (suc n) (x ∷ xs) le =
    let same : length (x ∷ xs) - suc n ≡ length xs - n = omega arith in
    ap (λ (k : ℕ). least_of f (take k (drop n xs))) same ∙ least_rest f n xs (omega (arith, le))

all_silent : {A : Type 0} (f : A → Option ℕ) (xs : List A) → ((k : ℕ) (d : A) → k < length xs → f (get_or xs k d) ≡ None) → least_of f xs ≡ None
all_silent f [] none = refl
all_silent f (x ∷ xs) none = ap (λ (o : Option ℕ). lesser o (least_of f xs)) (none 0 x (omega arith)) ∙ all_silent f xs (λ k d lt. none (suc k) d (omega (arith, lt)))

-- those behind the first so many say nothing
pub least_taken : {A : Type 0} (f : A → Option ℕ) (n : ℕ) (xs : List A) → ((k : ℕ) (d : A) → n ≤ k → k < length xs → f (get_or xs k d) ≡ None) → least_of f (take n xs) ≡ least_of f xs
least_taken f zero xs none = sym (all_silent f xs (λ k d lt. none k d (omega arith) lt))
least_taken f (suc n) [] none = refl
least_taken f (suc n) (x ∷ xs) none = ap (λ (o : Option ℕ). lesser (f x) o) (least_taken f n xs (λ k d le lt. none (suc k) d (omega (arith, le)) (omega (arith, lt))))
