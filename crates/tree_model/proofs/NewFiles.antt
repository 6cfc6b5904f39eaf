-- What a new file takes: its number, its name and its link.
use Rattle.std.proofs.Common.{◌≡◌, ℕ, ◌+◌, ◌-◌, ◌<◌, Bool, true, false, List, [], ◌∷◌, ◌++◌, length, Option, Some, None, refl, sym, ap, subst, ◌∙◌, arith}
use Rattle.std.specs.Prelude.{max, map, ◌==◌, is_some, if◌then◌else◌, ◌≢◌, Ok}
use Rattle.std.specs.List.{list_any, range_with_len}
use Rattle.std.specs.List.Sorted.{IsPermutation}
use Rattle.std.proofs.lemmas.Bool.Decides.{nat_tests}
use Rattle.std.proofs.lemmas.List.FromFn.{map-range_with_len_more, length-map-range_with_len}
use Rattle.std.proofs.lemmas.List.Folds.{list_any_at}
use Rattle.std.proofs.lemmas.List.Sorted.{IsPermutation-append_comm}
use Rattle.file_tree.specs.host_base.declared.file_ref.FileRef.{FileRef}
use Rattle.file_tree.specs.host_base.Answers.{Explains}
use Rattle.file_tree.specs.utf16_name.declared.name.NameFault.{NameFault}
use Rattle.file_tree.specs.utf16_name.declared.name.NameFault.TheVariants as fault
use Rattle.file_tree.specs.utf16_name.Names.{name_fault, name_of, ok_unless, name_cause}
use Rattle.file_tree.specs.declared.link.Link.{Link}
use Rattle.file_tree.specs.declared.tree.Tree.{Tree}
use Rattle.file_tree.specs.Walks.{is_bad_part, has_bad_part}
use Rattle.tree_model.specs.Refusals.{new_name}
use Rattle.tree_model.specs.Effects.{new_numbers, numbers_to_take, least_ref}

-- ---- its name

none_of : (o : Option NameFault) → is_some o ≡ false → o ≡ None
none_of None is = refl
none_of (Some f) is = absurd cc

lawful_by : (b : Bool) (path : List (List ℕ)) → is_bad_part (new_name path) ≡ b → 0 < length path → list_any is_bad_part path ≡ false → is_bad_part (new_name path) ≡ false
lawful_by false path is some none = is
lawful_by true path is some none =
    let there : list_any is_bad_part path ≡ true = list_any_at is_bad_part path (length path - 1) [] (omega (arith, some)) is in
    absurd (cc (there, none))

-- the last part of a path without a part that is no name
pub lawful_name : (path : List (List ℕ)) → 0 < length path → has_bad_part path ≡ false → name_fault (new_name path) ≡ None
unfolding has_bad_part
lawful_name path some none = none_of (name_fault (new_name path)) (lawful_by (is_bad_part (new_name path)) path refl some none)

named : (name : List ℕ) → name_fault name ≡ None → name_of name ≡ Ok name
named name none = ap (λ o. ok_unless o name) none

-- no other error comes
pub is_no_fault : (f : NameFault) (name : List ℕ) → name_fault name ≡ None → Explains (name_cause f) (name_of name) → f ≢ fault.Memory → ⊥
is_no_fault (fault.BadUnit at) name none explained other = absurd (cc (named name none, explained))
is_no_fault (fault.Length len) name none explained other = absurd (cc (named name none, explained))
is_no_fault (fault.Text at) name none explained other = absurd (cc (named name none, explained))
is_no_fault fault.Memory name none explained other = absurd (other refl)

-- ---- its link

pub one_more : (links list : List Link) (link : Link) → list ≡ links ++ link ∷ [] → IsPermutation (link ∷ links) list
one_more links list link is = subst (IsPermutation (link ∷ links)) (sym is) (IsPermutation-append_comm (link ∷ []) links)

-- ---- its number

least_by : (refs : List FileRef) → least_ref refs ≡ None → length refs ≡ 0
unfolding least_ref
least_by [] is = refl
least_by (ref ∷ refs) is = absurd cc

abbrev numbered : ℕ → FileRef
numbered number = record { number = number; seq = 1 }

-- one number more
pub one_number : (first i : ℕ) (old new : List FileRef) → old ≡ map (λ number. record { number = number; seq = 1 }) (range_with_len first i) → new ≡ old ++ record { number = first + i; seq = 1 } ∷ []
    → new ≡ map (λ number. record { number = number; seq = 1 }) (range_with_len first (i + 1))
one_number first i old new was is = is ∙ ap (λ (l : List FileRef). l ++ numbered (first + i) ∷ []) was ∙ sym (map-range_with_len_more numbered first i (first + i) refl)

length_new : (count : ℕ) → 0 < length (new_numbers count)
unfolding new_numbers
length_new count =
    let e : length (new_numbers count) ≡ count + 256 - max 24 count = length-map-range_with_len numbered (max 24 count) (count + 256 - max 24 count) in
    omega (arith, e)

numbers_by : (b : Bool) (t : Tree) → (length t.spare == 0) ≡ b → 0 < length (if b then new_numbers t.count else t.spare)
numbers_by true t is = length_new t.count
numbers_by false t is = grind (arith, nat_tests, is)

-- some number can be taken
pub some_number : (t : Tree) → least_ref (numbers_to_take t) ≡ None → ⊥
some_number t none =
    let zero : length (numbers_to_take t) ≡ 0 = least_by (numbers_to_take t) none in
    let some : 0 < length (numbers_to_take t) = numbers_by (length t.spare == 0) t refl in
    absurd (omega (arith, zero, some))
