-- The root, the way up to it, and what a part of a path names.
use Rattle.std.specs.Prelude.{ℕ, zero, suc, Bool, false, not, ◌&&◌, ◌||◌, ◌==◌, nat_lt, is_some, List, Option, Some, None}
use Rattle.std.specs.List.{list_any}
use Rattle.std.specs.Option.{option_map}
use Rattle.utf16_name.specs.Names.{name_fault}
use Rattle.file_tree.specs.declared.link.Link.{Link}
use Rattle.file_tree.specs.Trees.{look_up}

-- the root's number
abbrev pub root : ℕ
root = 5

-- files below this number are those of the volume itself
abbrev pub first_user_record : ℕ
first_user_record = 24

-- ---- the way up

abbrev pub at_some : (ℕ → Bool) → Option ℕ → Bool
at_some test None = false
at_some test (Some n) = test n

-- On the way up from a directory, of at most so many steps, stands one of the volume itself, other than the root. The function gives the
-- number of the directory that a number stands in, if it stands in one.
unfoldable pub passes_system : (ℕ → Option ℕ) → ℕ → ℕ → Bool
passes_system parent zero n = false
passes_system parent (suc most) n = not (n == root) && (nat_lt n first_user_record || at_some (passes_system parent most) (parent n))

-- ---- parts of a path

-- the number of the file that a part names in a directory
unfoldable pub child_in : List ℕ → List Link → ℕ → List ℕ → Option ℕ
child_in upper links directory part = option_map (λ (l : Link). l.child.number) (look_up upper links directory part)

-- a part that no name is
abbrev pub is_bad_part : List ℕ → Bool
is_bad_part part = is_some (name_fault part)

unfoldable pub has_bad_part : List (List ℕ) → Bool
has_bad_part path = list_any is_bad_part path
