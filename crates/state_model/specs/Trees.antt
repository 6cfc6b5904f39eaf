-- The tree that a file table stands for.
use Rattle.std.specs.Prelude.{ℕ, zero, suc, Bool, ◌&&◌, ◌||◌, ◌==◌, nat_lt, List, [], ◌∷◌, length, Option, Some, None}
use Rattle.std.specs.List.{range_with_len, list_any, flat_map}
use Rattle.record_model.specs.Records.{Record}
use Rattle.file_tree.specs.declared.link.Link.{Link}
use Rattle.file_tree.specs.Walks.{root, first_user_record, at_some, passes_system}
use Rattle.state_model.specs.Files.{Table, links_at, record_links}

-- ---- the way up

abbrev pub first_parent : List Link → Option ℕ
first_parent [] = None
first_parent (l ∷ links) = Some l.parent.number

-- the directory of a file's first name; all names of a directory have the same
unfoldable pub parent_at : Table → ℕ → Option ℕ
parent_at p n = first_parent (links_at p n)

-- the way up from a directory, of at most so many steps, reaches the root
unfoldable pub leads : Table → ℕ → ℕ → Bool
leads p zero n = n == root
leads p (suc most) n = n == root || at_some (leads p most) (parent_at p n)

-- on the way up, of at most so many steps, stands a directory of the volume itself, other than the root
abbrev pub is_in_system : Table → ℕ → ℕ → Bool
is_in_system p = passes_system (parent_at p)

-- ---- nodes

-- a file of the volume itself, or below a directory of it other than the root
unfoldable pub is_system : Table → ℕ → ℕ → List Link → Bool
is_system p count n links = nat_lt n first_user_record || list_any (λ (l : Link). is_in_system p count l.parent.number) links

-- a record of the volume itself that has no name is no node
abbrev pub is_nameless : ℕ → Record → Bool
is_nameless n r = nat_lt n first_user_record && length (record_links n r) == 0

-- ---- the tree

unfoldable pub all_links : Table → ℕ → List Link
all_links p count = flat_map (links_at p) (range_with_len 0 count)
