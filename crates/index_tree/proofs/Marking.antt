-- The marks of blocks that were met.
use Rattle.std.proofs.Common.{◌≡◌, ℕ, zero, suc, ◌+◌, ◌<◌, ◌≤◌, Bool, true, false, not, cond, ◌&&◌, nat_lt, List, [], ◌∷◌, map, length, get_or, set, replicate, refl, sym, ap, ◌∙◌, inl, inr, arith}
use Rattle.std.specs.List.{range_with_len}
use Rattle.std.specs.Ordering.{nat_cmp, eq_by_cmp}
use Rattle.std.specs.BTreeSet.{BTreeSet, contains}
use Rattle.std.proofs.Common.{length-set, get_or-set_same, get_or-set_other}
use Rattle.std.proofs.lemmas.Bool.{cases_eq, cases_lt}
use Rattle.std.proofs.lemmas.Bool.Decides.{nat_tests}
use Rattle.std.proofs.lemmas.List.{get_or_past}
use Rattle.std.proofs.lemmas.List.FromFn.{length-map-range_with_len, get_or-map-range_with_len, fill_by_all}
use Rattle.index_tree.specs.Marks.{marks_of}

-- a test that no number passes
none_pass : (f : ℕ → Bool) → ((k : ℕ) → f k ≡ false) → (a n : ℕ) → map f (range_with_len a n) ≡ replicate n false
none_pass f none a zero = refl
none_pass f none a (suc n) = ap (λ (b : Bool). b ∷ map f (range_with_len (a + 1) n)) (none a) ∙ ap (λ (bs : List Bool). false ∷ bs) (none_pass f none (a + 1) n)

none_held : (numbers : BTreeSet ℕ) → numbers.keys ≡ [] → (k : ℕ) → contains nat_cmp numbers k ≡ false
none_held numbers e k = grind (arith, e)

pub no_marks : (numbers : BTreeSet ℕ) (count : ℕ) → numbers.keys ≡ [] → marks_of numbers count ≡ replicate count false
no_marks numbers count e = none_pass (contains nat_cmp numbers) (none_held numbers e) 0 count

length-marks : (numbers : BTreeSet ℕ) (count : ℕ) → length (marks_of numbers count) ≡ count
length-marks numbers count = length-map-range_with_len (contains nat_cmp numbers) 0 count

-- the mark of a block, and true from the end on
mark_by : (count n : ℕ) (held mark : Bool) → (n < count → mark ≡ held) → (count ≤ n → mark ≡ true) → (nat_lt n count && not held) ≡ not mark
mark_by count n held mark below behind = elim (cases_lt n count) [
  | inl lt ↦ (let e : mark ≡ held = below lt in grind (arith, nat_tests))
  | inr le ↦ (let e : mark ≡ true = behind le in grind (arith, nat_tests))
]

pub mark_at : (numbers : BTreeSet ℕ) (count n : ℕ) → (nat_lt n count && not (contains nat_cmp numbers n)) ≡ not (get_or (marks_of numbers count) n true)
mark_at numbers count n =
    let size : length (marks_of numbers count) ≡ count = length-marks numbers count in
    mark_by count n (contains nat_cmp numbers n) (get_or (marks_of numbers count) n true)
    (λ lt. get_or-map-range_with_len (contains nat_cmp numbers) 0 count n n true lt (omega arith))
    (λ le. get_or_past (marks_of numbers count) n true (omega (arith, size, le)))

same_number : (x y : ℕ) → x ≡ y → eq_by_cmp nat_cmp x y ≡ true
same_number x y e = grind (arith, nat_tests)

other_number : (x y : ℕ) → (y ≡ x → ⊥) → eq_by_cmp nat_cmp x y ≡ false
other_number x y ne = grind (arith, nat_tests)

-- one number more
pub one_marked : (old new : BTreeSet ℕ) (number : ℕ) → ((q : ℕ) → contains nat_cmp new q ≡ cond (eq_by_cmp nat_cmp number q) true (contains nat_cmp old q)) → (count : ℕ) → marks_of new count ≡ set (marks_of old count) number true
one_marked old new number put count =
    let size : length (marks_of old count) ≡ count = length-marks old count in
    let put_size : length (set (marks_of old count) number true) ≡ count = length-set (marks_of old count) number true ∙ size in
    sym (fill_by_all (contains nat_cmp new) (set (marks_of old count) number true) count true put_size (λ k lt. elim (cases_eq k number) [
      | inl e ↦ ap (λ (i : ℕ). get_or (set (marks_of old count) number true) i true) e ∙ get_or-set_same (marks_of old count) number true true (omega (arith, e, lt, size)) ∙ sym (put k ∙ ap (λ (t : Bool). cond t true (contains nat_cmp old k)) (same_number number k (sym e)))
      | inr ne ↦ get_or-set_other (marks_of old count) number k true true ne ∙ get_or-map-range_with_len (contains nat_cmp old) 0 count k k true lt (omega arith) ∙ sym (put k ∙ ap (λ (t : Bool). cond t true (contains nat_cmp old k)) (other_number number k ne))
    ]))
