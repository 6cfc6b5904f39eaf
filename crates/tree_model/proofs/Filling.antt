-- Bytes with zeros behind them, and bytes put at a place.
use Rattle.std.proofs.Common.{◌≡◌, ℕ, ◌≤◌, ◌<◌, Bool, true, false, List, length, drop, refl, sym, ap, ◌∙◌, arith}
use Rattle.std.specs.Prelude.{min, nat_le}
use Rattle.std.proofs.lemmas.Bool.Decides.{nat_tests}
use Rattle.std.proofs.lemmas.List.{drop_all}

drop_by : (b : Bool) (n : ℕ) (xs : List ℕ) → nat_le n (length xs) ≡ b → drop (min n (length xs)) xs ≡ drop n xs
drop_by true n xs is =
    let le : n ≤ length xs = grind (arith, nat_tests, is) in
    let e : min n (length xs) ≡ n = omega (arith, le) in
    ap (λ (k : ℕ). drop k xs) e
drop_by false n xs is =
    let lt : length xs < n = grind (arith, nat_tests, is) in
    let e : min n (length xs) ≡ length xs = omega (arith, lt) in
    ap (λ (k : ℕ). drop k xs) e ∙ drop_all (length xs) xs (omega arith) ∙ sym (drop_all n xs (omega (arith, lt)))

pub drop_min : (n : ℕ) (xs : List ℕ) → drop (min n (length xs)) xs ≡ drop n xs
drop_min n xs = drop_by (nat_le n (length xs)) n xs refl
