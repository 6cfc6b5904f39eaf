-- Lists that are cut and filled.
use Rattle.std.proofs.Common.{◌≡◌, ℕ, zero, suc, ◌+◌, ◌-◌, ◌<◌, min, Bool, true, ◌&&◌, List, [], ◌∷◌, ◌++◌, length, get_or, replicate, take, Option, None, refl, sym, ap, ◌∙◌, arith}
use Rattle.std.specs.List.{list_all}
use Rattle.std.proofs.lemmas.Bool.{and_parts}
use Rattle.std.proofs.lemmas.List.{length-append, length-replicate, append_assoc}
use Rattle.volume_map.specs.record_model.Records.{Record}
use Rattle.map_change.specs.Plain.{is_plain}
use Rattle.map_change.specs.Applying.{resized}

length_cut : {A : Type 0} (n : ℕ) (xs : List A) → length (take n xs) ≡ min n (length xs)
length_cut zero xs = omega arith
length_cut (suc n) [] = omega arith
length_cut (suc n) (x ∷ xs) = let rest = length_cut n xs in omega (arith, rest)

-- what is cut to so many and then filled up to as many
pub cut_filled : {A : Type 0} (n : ℕ) (a : A) (xs : List A) → take n xs ++ replicate (n - length (take n xs)) a ≡ resized n a xs
cut_filled n a xs = ap (λ (k : ℕ). take n xs ++ replicate k a) (omega (arith, length_cut n xs))

all_none : (k : ℕ) → list_all is_plain (replicate k None) ≡ true
all_none zero = refl
all_none (suc k) = all_none k

all_joined : (files others : List (Option Record)) → list_all is_plain files ≡ true → list_all is_plain others ≡ true → list_all is_plain (files ++ others) ≡ true
all_joined [] others all more = more
all_joined (f ∷ files) others all more =
    let parts = and_parts (is_plain f) (list_all is_plain files) all in
    ap (λ (t : Bool). t && list_all is_plain (files ++ others)) parts.0 ∙ all_joined files others parts.1 more

all_cut : (n : ℕ) (files : List (Option Record)) → list_all is_plain files ≡ true → list_all is_plain (take n files) ≡ true
all_cut zero files all = refl
all_cut (suc n) [] all = refl
all_cut (suc n) (f ∷ files) all =
    let parts = and_parts (is_plain f) (list_all is_plain files) all in
    ap (λ (t : Bool). t && list_all is_plain (take n files)) parts.0 ∙ all_cut n files parts.1

-- with no file put behind them files have no attribute list as before
pub all_resized : (n : ℕ) (files : List (Option Record)) → list_all is_plain files ≡ true → list_all is_plain (resized n None files) ≡ true
all_resized n files all = all_joined (take n files) (replicate (n - length files) None) (all_cut n files all) (all_none (n - length files))

pub length_resized : {A : Type 0} (n : ℕ) (a : A) (xs : List A) → length (resized n a xs) ≡ n
length_resized n a xs = omega (arith, length-append (take n xs) (replicate (n - length xs) a), length_cut n xs, length-replicate (n - length xs) a)

filled_at : {A : Type 0} (k : ℕ) (a : A) (m : ℕ) → get_or (replicate k a) m a ≡ a
filled_at zero a m = refl
filled_at (suc k) a zero = refl
filled_at (suc k) a (suc m) = filled_at k a m

cut_at : {A : Type 0} (n k : ℕ) (a : A) (xs : List A) (m : ℕ) → m < n → get_or (take n xs ++ replicate k a) m a ≡ get_or xs m a
cut_at zero k a xs m below = absurd (omega (arith, below))
cut_at (suc n) k a [] m below = filled_at k a m
cut_at (suc n) k a (x ∷ xs) zero below = refl
cut_at (suc n) k a (x ∷ xs) (suc m) below = cut_at n k a xs m (omega (arith, below))

-- one of the first so many elements
pub get_resized : {A : Type 0} (n : ℕ) (a : A) (xs : List A) (m : ℕ) → m < n → get_or (resized n a xs) m a ≡ get_or xs m a
get_resized n a xs m below = cut_at n (n - length xs) a xs m below

-- one more of those that are lacking
pub filled_more : (xs ys start : List (Option Record)) (n : ℕ) → length xs < n → ys ≡ xs ++ None ∷ [] → xs ++ replicate (n - length xs) None ≡ start → ys ++ replicate (n - length ys) None ≡ start
filled_more xs ys start n less pushed before =
    let size : length ys ≡ length xs + 1 = ap length pushed ∙ length-append xs (None ∷ []) in
    let left : n - length xs ≡ suc (n - length ys) = omega (arith, less, size) in
    ap (λ (l : List (Option Record)). l ++ replicate (n - length ys) None) pushed
    ∙ append_assoc xs (None ∷ []) (replicate (n - length ys) None)
    ∙ ap (λ (l : List (Option Record)). xs ++ l) (sym (ap (λ (k : ℕ). replicate k None) left))
    ∙ before
