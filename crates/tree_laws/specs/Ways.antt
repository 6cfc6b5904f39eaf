-- The way up from files, where each file on it keeps its names.
use Rattle.std.specs.Prelude.{◌≡◌, ◌≢◌, ℕ, ◌≤◌, Bool, true, ◌||◌, nat_lt, List, length, Option, Some}
use Rattle.std.specs.List.{AllByRecursion}
use Rattle.volume_state.specs.record_model.Records.{Record}
use Rattle.volume_state.specs.file_tree.declared.link.Link.{Link}
use Rattle.volume_state.specs.file_tree.Walks.{root, first_user_record}
use Rattle.volume_state.specs.state_model.Files.{Table, file_at, links_at}
use Rattle.volume_state.specs.state_model.Loads.{table_in}
use Rattle.volume_state.specs.state_model.Rules.{keeps_8}
use Rattle.volume_state.specs.state_model.Trees.{parent_at, leads, is_in_system, is_system}

-- no name among these stands in this directory
abbrev pub IsOutside : ℕ → List Link → Type 0
IsOutside directory links = AllByRecursion (λ l. l.parent.number ≢ directory) links

-- these numbers keep their names, and the directory of each is one of them
pub record KeepsWays (inside : ℕ → Bool) (p q : Table) : Type 0 where
  pub names : (m : ℕ) → inside m ≡ true → links_at q m ≡ links_at p m
  pub up : (m k : ℕ) → inside m ≡ true → parent_at p m ≡ Some k → inside k ≡ true

-- Then the way up from each of them stays, what it says of a file whose names stand in them, and rule 8 at each file that stays.
-- A file's names name it.
pub record WaysKept : Type 0 where
  pub way_up : (inside : ℕ → Bool) (p q : Table) (most m : ℕ) → KeepsWays inside p q → inside m ≡ true → leads q most m ≡ leads p most m
  pub in_system : (inside : ℕ → Bool) (p q : Table) (most m : ℕ) → KeepsWays inside p q → inside m ≡ true → is_in_system q most m ≡ is_in_system p most m
  pub of_system : (inside : ℕ → Bool) (p q : Table) (count m : ℕ) (links : List Link) → KeepsWays inside p q → AllByRecursion (λ l. inside l.parent.number ≡ true) links → is_system q count m links ≡ is_system p count m links
  pub rule_8 : (inside : ℕ → Bool) (p q : Table) (count m : ℕ) → KeepsWays inside p q → inside m ≡ true → file_at q m ≡ file_at p m → keeps_8 q count m ≡ keeps_8 p count m
  pub own : (p : Table) (m : ℕ) → AllByRecursion (λ l. l.child.number ≡ m) (links_at p m)

-- A way up passes no file twice: one that reaches the root reaches it within as many steps as there are files. So a file leads to
-- the root where the directory of its first name does. More steps don't change whether it stands in a directory of the volume
-- itself, which is what its first name's directory says.
pub record WaysAreShort : Type 0 where
  pub short : (files : List (Option Record)) (most m : ℕ) → leads (table_in files) most m ≡ true → leads (table_in files) (length files) m ≡ true
  pub below : (files : List (Option Record)) (most m d : ℕ) → parent_at (table_in files) m ≡ Some d → leads (table_in files) most d ≡ true → leads (table_in files) (length files) m ≡ true
  pub rule_8 : (p : Table) (count m : ℕ) → leads p count m ≡ true → keeps_8 p count m ≡ true
  pub steady : (p : Table) (most more m : ℕ) → most ≤ more → leads p most m ≡ true → is_in_system p more m ≡ is_in_system p most m
  pub in_system_by : (p : Table) (most m d : ℕ) → m ≢ root → parent_at p m ≡ Some d → leads p most m ≡ true → is_in_system p most m ≡ (nat_lt m first_user_record || is_in_system p most d)
