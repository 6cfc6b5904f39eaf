-- The way up from a directory, a step at a time.
use Rattle.std.proofs.Common.{◌≡◌, ℕ, zero, suc, ◌-◌, ◌<◌, ◌≤◌, true, false, List, refl, ◌∙◌, arith}
use Rattle.std.specs.Prelude.{◌&&◌, ◌||◌, ◌==◌, not, nat_lt}
use Rattle.file_tree.specs.declared.link.Link.{Link}
use Rattle.file_tree.specs.Walks.{root, first_user_record, at_some, passes_system}
use Rattle.tree_model.specs.Refusals.{parent_of, is_in_system}

pub one_up : (links : List Link) (left number : ℕ) → 0 < left → is_in_system links left number ≡ (not (number == root) && (nat_lt number first_user_record || at_some (is_in_system links (left - 1)) (parent_of links number)))
unfolding passes_system
one_up links zero number lt = absurd (omega arith)
one_up links (suc left) number lt = let e : suc left - 1 ≡ left = omega arith in rw e refl

pub at_root : (links : List Link) (left number : ℕ) → 0 < left → (number == root) ≡ true → is_in_system links left number ≡ false
at_root links left number lt is = one_up links left number lt ∙ rw is refl

pub at_system : (links : List Link) (left number : ℕ) → 0 < left → (number == root) ≡ false → nat_lt number first_user_record ≡ true → is_in_system links left number ≡ true
at_system links left number lt is low = one_up links left number lt ∙ rw (is, low) refl

pub above_is : (links : List Link) (left number : ℕ) → 0 < left → (number == root) ≡ false → nat_lt number first_user_record ≡ false → is_in_system links left number ≡ at_some (is_in_system links (left - 1)) (parent_of links number)
above_is links left number lt is low = one_up links left number lt ∙ rw (is, low) refl

pub no_more : (links : List Link) (left number : ℕ) → left ≤ 0 → is_in_system links left number ≡ false
unfolding passes_system
no_more links zero number le = refl
no_more links (suc left) number le = absurd (omega arith)
