-- The number that a new file gets, by the least spare one and the count alone.
use Rattle.std.proofs.Common.{◌≡◌, ℕ, zero, suc, ◌+◌, ◌-◌, Bool, true, false, List, [], ◌∷◌, length, Option, Some, None, refl, sym, ap, ◌∙◌, arith}
use Rattle.std.specs.Prelude.{max, map, ◌==◌, nat_lt, if◌then◌else◌}
use Rattle.std.specs.List.{range_with_len, cons_option}
use Rattle.std.proofs.lemmas.Bool.Decides.{nat_tests}
use Rattle.host_base.specs.declared.file_ref.FileRef.{FileRef}
use Rattle.tree_lookup.specs.file_tree.declared.tree.Tree.{Tree}
use Rattle.tree_lookup.specs.tree_model.Effects.{new_numbers, numbers_to_take, least_ref, lesser_ref}
use Rattle.change_lookup.specs.Counts.{counts_of}

abbrev numbered : ℕ → FileRef
numbered number = record { number = number; seq = 1 }

not_less : (n : ℕ) → nat_lt (n + 1) n ≡ false
not_less n = grind (arith, nat_tests)

before : (first : ℕ) → lesser_ref (numbered first) (Some (numbered (first + 1))) ≡ numbered first
before first = rw (not_less first) refl

-- of numbers that rise the first is the least
least_from : (first n : ℕ) → least_ref (map numbered (range_with_len first (suc n))) ≡ Some (numbered first)
unfolding least_ref
least_from first zero = refl
least_from first (suc n) = ap (λ (o : Option FileRef). Some (lesser_ref (numbered first) o)) (least_from (first + 1) n) ∙ ap (λ (r : FileRef). Some r) (before first)

least_new_by : (count n : ℕ) → count + 256 - max 24 count ≡ suc n → least_ref (new_numbers count) ≡ Some (numbered (max 24 count))
unfolding new_numbers
least_new_by count n is = ap (λ k. least_ref (map numbered (range_with_len (max 24 count) k))) is ∙ least_from (max 24 count) n

-- the least of the numbers that come
least_new : (count : ℕ) → least_ref (new_numbers count) ≡ Some (numbered (max 24 count))
least_new count = least_new_by count (count + 255 - max 24 count) (omega arith)

pub new_taken : (room count number : ℕ) → number ≡ max 24 count → least_ref (numbers_to_take (counts_of room count None)) ≡ Some (record { number = number; seq = 1 })
new_taken room count number is = least_new count ∙ ap (λ n. Some (numbered n)) (sym is)

pub spare_taken : (room count : ℕ) (ref : FileRef) → least_ref (numbers_to_take (counts_of room count (Some ref))) ≡ Some ref
unfolding least_ref
spare_taken room count ref = refl

-- ---- the same of a whole tree

some_refs : (n : ℕ) → (suc n == 0) ≡ false
some_refs n = grind (arith, nat_tests)

-- whether a number is spare, by the least one
spare_by : (spare : List FileRef) (least : Option FileRef) → least_ref spare ≡ least → (length spare == 0) ≡ (length (cons_option least []) == 0)
unfolding least_ref
spare_by [] None is = refl
spare_by [] (Some ref) is = absurd cc
spare_by (ref ∷ refs) None is = absurd cc
spare_by (ref ∷ refs) (Some r) is = some_refs (length refs)

pub is_spare : (t : Tree) (room count : ℕ) (least : Option FileRef) → least_ref t.spare ≡ least → (length t.spare == 0) ≡ (length (counts_of room count least).spare == 0)
is_spare t room count least is = spare_by t.spare least is

taken_by : (spare : List FileRef) (count : ℕ) (least : Option FileRef) → least_ref spare ≡ least
    → least_ref (if length spare == 0 then new_numbers count else spare) ≡ least_ref (if length (cons_option least []) == 0 then new_numbers count else cons_option least [])
unfolding least_ref
taken_by [] count None is = refl
taken_by [] count (Some ref) is = absurd cc
taken_by (ref ∷ refs) count None is = absurd cc
taken_by (ref ∷ refs) count (Some r) is = rw (some_refs (length refs)) is

-- the least number that can be taken, by the least spare one
pub taken_same : (t : Tree) (room count : ℕ) (least : Option FileRef) → least_ref t.spare ≡ least → count ≡ t.count → least_ref (numbers_to_take t) ≡ least_ref (numbers_to_take (counts_of room count least))
taken_same t room count least is counted = rw counted (taken_by t.spare t.count least is)
