-- The members of a bitmap.
use Rattle.std.proofs.Common.{◌≡◌, ℕ, zero, suc, ◌+◌, ◌<◌, ◌≤◌, ◌⊎◌, Bool, true, false, cond, not, ◌&&◌, ◌||◌, List, ◌∷◌, length, refl, sym, ap, ◌∙◌, inl, inr, arith}
use Rattle.std.specs.Prelude.{nat_eq, nat_le, nat_lt, filter}
use Rattle.std.specs.List.{range_with_len, list_any}
use Rattle.std.specs.Ordering.{nat_cmp}
use Rattle.std.specs.FinSet.{FinSet, contains, union, difference, contains-from_list_nat, contains-union, contains-difference, same_set, nat_cmp-IsAntisymmetric}
use Rattle.std.specs.Cmp.{nat_cmp_total}
use Rattle.std.proofs.lemmas.Bool.{cases_lt}
use Rattle.std.proofs.lemmas.Bool.Decides.{nat_tests}
use Rattle.std.proofs.lemmas.List.{get_or_past, ext_get_or}
use Rattle.bit_set.specs.Bits.{bit, PutsRun}
use Rattle.bit_set.specs.Sets.{members, run_members}

there : (b : Bool) (n q : ℕ) → q < n → (nat_le 0 q && nat_lt q (0 + n) && b) ≡ b
there b n q lt = grind (arith, nat_tests)

nowhere : (a : Bool) → (a && false) ≡ false
nowhere true = refl
nowhere false = refl

list_any-kept : (t : ℕ → Bool) (b : Bool) (x : ℕ) (xs : List ℕ) → list_any t (cond b (x ∷ xs) xs) ≡ ((b && t x) || list_any t xs)
list_any-kept t true x xs = refl
list_any-kept t false x xs = refl

one_more : (here there : Bool) (a n q : ℕ) → (a ≡ q → here ≡ there) → ((here && nat_eq a q) || (nat_le (a + 1) q && nat_lt q (a + 1 + n) && there)) ≡ (nat_le a q && nat_lt q (a + suc n) && there)
one_more true true a n q same = grind (arith, nat_tests)
one_more true false a n q same = grind (arith, nat_tests)
one_more false true a n q same = grind (arith, nat_tests)
one_more false false a n q same = grind (arith, nat_tests)

-- the numbers that pass are found where they lie
any_filtered : (p : ℕ → Bool) (a n q : ℕ) → list_any (λ y. nat_eq y q) (filter p (range_with_len a n)) ≡ (nat_le a q && nat_lt q (a + n) && p q)
any_filtered p a zero q = grind (arith, nat_tests)
any_filtered p a (suc n) q =
    list_any-kept (λ y. nat_eq y q) (p a) a (filter p (range_with_len (a + 1) n))
    ∙ ap (λ (b : Bool). (p a && nat_eq a q) || b) (any_filtered p (a + 1) n q)
    ∙ one_more (p a) (p q) a n q (λ e. ap p e)

any_in_range : (a n q : ℕ) → list_any (λ y. nat_eq y q) (range_with_len a n) ≡ (nat_le a q && nat_lt q (a + n))
any_in_range a zero q = grind (arith, nat_tests)
any_in_range a (suc n) q = ap (λ (b : Bool). nat_eq a q || b) (any_in_range (a + 1) n q) ∙ (grind (arith, nat_tests))

pub contains-members : (bits : List Bool) (q : ℕ) → contains (members bits) q ≡ bit bits q
unfolding members
contains-members bits q =
    contains-from_list_nat (filter (bit bits) (range_with_len 0 (length bits))) q
    ∙ any_filtered (bit bits) 0 (length bits) q
    ∙ elim (cases_lt q (length bits)) [
      | inl lt ↦ there (bit bits q) (length bits) q lt
      | inr past ↦ ap (λ (b : Bool). nat_le 0 q && nat_lt q (0 + length bits) && b) (get_or_past bits q false past) ∙ nowhere _ ∙ sym (get_or_past bits q false past)
    ]

pub same_members : (a b : List Bool) → length a ≡ length b → members a ≡ members b → a ≡ b
same_members a b same_count same =
    ext_get_or false a b same_count (λ i lt. sym (contains-members a i) ∙ ap (λ (s : FinSet nat_cmp). contains s i) same ∙ contains-members b i)

contains-run : (first len q : ℕ) → contains (run_members first len) q ≡ (nat_le first q && nat_lt q (first + len))
unfolding run_members
contains-run first len q = contains-from_list_nat (range_with_len first len) q ∙ any_in_range first len q

run_inside : (first len q : ℕ) → first ≤ q → q < first + len → contains (run_members first len) q ≡ true
run_inside first len q le lt = contains-run first len q ∙ (grind (arith, nat_tests))

run_outside : (first len q : ℕ) → (q < first) ⊎ (first + len ≤ q) → contains (run_members first len) q ≡ false
run_outside first len q (inl below) = contains-run first len q ∙ (grind (arith, nat_tests))
run_outside first len q (inr past) = contains-run first len q ∙ (grind (arith, nat_tests))

place : (first len q : ℕ) → ((first ≤ q) × (q < first + len)) ⊎ ((q < first) ⊎ (first + len ≤ q))
place first len q =
    elim (cases_lt q first) [
      | inl below ↦ inr (inl below)
      | inr from ↦ elim (cases_lt q (first + len)) [ inl inside ↦ inl (from, inside) | inr past ↦ inr (inr past) ]
    ]

or-true : (a : Bool) → (a || true) ≡ true
or-true true = refl
or-true false = refl

or-false : (a : Bool) → (a || false) ≡ a
or-false true = refl
or-false false = refl

and-true : (a : Bool) → (a && true) ≡ a
and-true true = refl
and-true false = refl

-- the bit of each number after a run was set, and after it was cleared
bit_set_to : (old new : List Bool) (first len q : ℕ) → PutsRun old new first len true → bit new q ≡ (contains (members old) q || contains (run_members first len) q)
bit_set_to old new first len q puts =
    elim (place first len q) [
      | inl (le, lt) ↦ puts.inside q le lt ∙ sym (ap (λ (b : Bool). contains (members old) q || b) (run_inside first len q le lt) ∙ or-true _)
      | inr out ↦ puts.others q out ∙ sym (contains-members old q) ∙ sym (ap (λ (b : Bool). contains (members old) q || b) (run_outside first len q out) ∙ or-false _)
    ]

bit_cleared_to : (old new : List Bool) (first len q : ℕ) → PutsRun old new first len false → bit new q ≡ (contains (members old) q && not (contains (run_members first len) q))
bit_cleared_to old new first len q puts =
    elim (place first len q) [
      | inl (le, lt) ↦ puts.inside q le lt ∙ sym (ap (λ (b : Bool). contains (members old) q && not b) (run_inside first len q le lt) ∙ nowhere _)
      | inr out ↦ puts.others q out ∙ sym (contains-members old q) ∙ sym (ap (λ (b : Bool). contains (members old) q && not b) (run_outside first len q out) ∙ and-true _)
    ]

pub setting : (old new : List Bool) (first len : ℕ) → PutsRun old new first len true → members new ≡ union (members old) (run_members first len)
setting old new first len puts =
    same_set nat_cmp_total nat_cmp-IsAntisymmetric (members new) (union (members old) (run_members first len)) (λ q. contains-members new q ∙ bit_set_to old new first len q puts ∙ sym (contains-union nat_cmp_total (members old) (run_members first len) q))

pub clearing : (old new : List Bool) (first len : ℕ) → PutsRun old new first len false → members new ≡ difference (members old) (run_members first len)
clearing old new first len puts =
    same_set nat_cmp_total nat_cmp-IsAntisymmetric (members new) (difference (members old) (run_members first len)) (λ q. contains-members new q ∙ bit_cleared_to old new first len q puts ∙ sym (contains-difference nat_cmp_total (members old) (run_members first len) q))
