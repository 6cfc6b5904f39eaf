-- The numbers from one on, gone through in order, over a content that may be known.
use Rattle.std.proofs.Common.{◌≡◌, ℕ, suc, ◌+◌, ◌-◌, ◌<◌, ◌∷◌, Bool, Option, Some, None, not, true, false, cond, find, sym, ◌∙◌, ap, arith}
use Rattle.std.specs.Prelude.{◌||◌, IfSome}
use Rattle.std.specs.List.{list_any, range_with_len}
use Rattle.host_base.proofs.Known.{both, one}
use Rattle.disk_model.specs.Content.{Content}

first_number : (n count : ℕ) → n < count → range_with_len n (count - n) ≡ n ∷ range_with_len (n + 1) (count - (n + 1))
first_number n count lt = let e : count - n ≡ suc (count - (n + 1)) = omega arith in ap (range_with_len n) e

-- ---- whether a test holds of some number

abbrev pub any_from : (ℕ → Bool) → ℕ → ℕ → Bool
any_from test n count = list_any test (range_with_len n (count - n))

any_here : (test : ℕ → Bool) (n count : ℕ) (here : Bool) → n < count → here ≡ test n → any_from test n count ≡ (here || any_from test (n + 1) count)
any_here test n count here lt is = ap (list_any test) (first_number n count lt) ∙ ap (λ (b : Bool). b || any_from test (n + 1) count) (sym is)

-- it holds of this one
pub any_found : (known : Option Content) (test : Content → ℕ → Bool) (n count : ℕ) (here : Bool) → n < count → here ≡ true → IfSome known (λ c. list_any (test c) (range_with_len 0 count) ≡ any_from (test c) n count) → IfSome known (λ c. here ≡ test c n) → IfSome known (λ c. true ≡ list_any (test c) (range_with_len 0 count))
any_found known test n count here lt is left at =
    both known (λ c. list_any (test c) (range_with_len 0 count) ≡ any_from (test c) n count) (λ c. here ≡ test c n) (λ c. true ≡ list_any (test c) (range_with_len 0 count)) (λ c e h. sym (e ∙ any_here (test c) n count here lt h ∙ ap (λ (b : Bool). b || any_from (test c) (n + 1) count) is)) left at

-- it doesn't
pub any_passed : (known : Option Content) (test : Content → ℕ → Bool) (n count : ℕ) (here : Bool) → n < count → here ≡ false → IfSome known (λ c. list_any (test c) (range_with_len 0 count) ≡ any_from (test c) n count) → IfSome known (λ c. here ≡ test c n) → IfSome known (λ c. list_any (test c) (range_with_len 0 count) ≡ any_from (test c) (n + 1) count)
any_passed known test n count here lt is left at =
    both known (λ c. list_any (test c) (range_with_len 0 count) ≡ any_from (test c) n count) (λ c. here ≡ test c n) (λ c. list_any (test c) (range_with_len 0 count) ≡ any_from (test c) (n + 1) count) (λ c e h. e ∙ any_here (test c) n count here lt h ∙ ap (λ (b : Bool). b || any_from (test c) (n + 1) count) is) left at

-- ---- the first number at which a test fails

abbrev pub failing_from : (ℕ → Bool) → ℕ → ℕ → Option ℕ
failing_from test n count = find (λ k. not (test k)) (range_with_len n (count - n))

failing_here : (test : ℕ → Bool) (n count : ℕ) (here : Bool) → n < count → here ≡ test n → failing_from test n count ≡ cond (not here) (Some n) (failing_from test (n + 1) count)
failing_here test n count here lt is = ap (find (λ k. not (test k))) (first_number n count lt) ∙ ap (λ (b : Bool). cond (not b) (Some n) (failing_from test (n + 1) count)) (sym is)

failing_past : (test : ℕ → Bool) (n count : ℕ) → count ≡ n → failing_from test n count ≡ None
failing_past test n count e = let none : count - n ≡ 0 = omega arith in ap (λ (k : ℕ). find (λ m. not (test m)) (range_with_len n k)) none

-- it fails here
pub failing_found : (known : Option Content) (test : Content → ℕ → Bool) (n count : ℕ) (here : Bool) → n < count → here ≡ false → IfSome known (λ c. find (λ k. not (test c k)) (range_with_len 0 count) ≡ failing_from (test c) n count) → IfSome known (λ c. here ≡ test c n) → IfSome known (λ c. find (λ k. not (test c k)) (range_with_len 0 count) ≡ Some n)
failing_found known test n count here lt is left at =
    both known (λ c. find (λ k. not (test c k)) (range_with_len 0 count) ≡ failing_from (test c) n count) (λ c. here ≡ test c n) (λ c. find (λ k. not (test c k)) (range_with_len 0 count) ≡ Some n) (λ c e h. e ∙ failing_here (test c) n count here lt h ∙ ap (λ (b : Bool). cond (not b) (Some n) (failing_from (test c) (n + 1) count)) is) left at

-- it holds here
pub failing_passed : (known : Option Content) (test : Content → ℕ → Bool) (n count : ℕ) (here : Bool) → n < count → here ≡ true → IfSome known (λ c. find (λ k. not (test c k)) (range_with_len 0 count) ≡ failing_from (test c) n count) → IfSome known (λ c. here ≡ test c n) → IfSome known (λ c. find (λ k. not (test c k)) (range_with_len 0 count) ≡ failing_from (test c) (n + 1) count)
failing_passed known test n count here lt is left at =
    both known (λ c. find (λ k. not (test c k)) (range_with_len 0 count) ≡ failing_from (test c) n count) (λ c. here ≡ test c n) (λ c. find (λ k. not (test c k)) (range_with_len 0 count) ≡ failing_from (test c) (n + 1) count) (λ c e h. e ∙ failing_here (test c) n count here lt h ∙ ap (λ (b : Bool). cond (not b) (Some n) (failing_from (test c) (n + 1) count)) is) left at

-- it fails nowhere
pub failing_nowhere : (known : Option Content) (test : Content → ℕ → Bool) (n count : ℕ) → count ≡ n → IfSome known (λ c. find (λ k. not (test c k)) (range_with_len 0 count) ≡ failing_from (test c) n count) → IfSome known (λ c. find (λ k. not (test c k)) (range_with_len 0 count) ≡ None)
failing_nowhere known test n count e left =
    one known (λ c. find (λ k. not (test c k)) (range_with_len 0 count) ≡ failing_from (test c) n count) (λ c. find (λ k. not (test c k)) (range_with_len 0 count) ≡ None) (λ c h. h ∙ failing_past (test c) n count e) left
