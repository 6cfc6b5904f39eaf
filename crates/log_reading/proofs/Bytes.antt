-- A sector all of whose bytes are initialised.
use Rattle.std.proofs.Common.{◌≡◌, ℕ, zero, suc, ◌-◌, ◌≤◌, List, [], ◌∷◌, take, replicate, refl, ap, ◌∙◌, drop, arith}
use Rattle.std.proofs.lemmas.List.{drop-replicate}
use Rattle.disk_model.specs.Bytes.{written, zeros}
use Rattle.log_reading.specs.LogPages.{initialised_bytes}

nothing_put : (at : ℕ) (bytes : List ℕ) → written at [] bytes ≡ bytes
nothing_put zero [] = refl
nothing_put zero (b ∷ bytes) = refl
nothing_put (suc at) [] = refl
nothing_put (suc at) (b ∷ bytes) = ap (λ (xs : List ℕ). b ∷ xs) (nothing_put at bytes)

pub all_initialised : (valid : ℕ) (bytes : List ℕ) → 512 ≤ valid → initialised_bytes valid bytes ≡ bytes
unfolding initialised_bytes zeros
all_initialised valid bytes le =
    let none : 512 - valid ≡ 0 = omega arith in
    ap (λ (k : ℕ). written valid (replicate k 0) bytes) none ∙ nothing_put valid bytes

take-replicate : (n b : ℕ) → take n (replicate n b) ≡ replicate n b
take-replicate zero b = refl
take-replicate (suc n) b = ap (λ (xs : List ℕ). b ∷ xs) (take-replicate n b)

pub rest_put : (valid : ℕ) (new bytes : List ℕ) → new ≡ take (512 - valid) (drop valid (replicate 512 0)) → written valid new bytes ≡ initialised_bytes valid bytes
unfolding initialised_bytes zeros
rest_put valid new bytes is =
    let all : take (512 - valid) (replicate (512 - valid) 0) ≡ replicate (512 - valid) 0 = take-replicate (512 - valid) 0 in
    ap (λ (xs : List ℕ). written valid xs bytes) (is ∙ ap (take (512 - valid)) (drop-replicate valid 512 0) ∙ all)
