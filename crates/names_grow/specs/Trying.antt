-- What is tried of records before and after one more file has a name.
use Rattle.std.specs.Prelude.{◌≡◌, ◌≢◌, ℕ, ◌<◌, ◌≤◌, true, List, [], ◌∷◌, length, find, Option, Some, None}
use Rattle.same_names.specs.map_change.record_model.Records.{Record}
use Rattle.tree_laws.specs.file_tree.declared.link.Link.{Link}
use Rattle.tree_laws.specs.file_tree.Walks.{first_user_record}
use Rattle.tree_laws.specs.state_model.Files.{file_at, record_links}
use Rattle.tree_laws.specs.state_model.Loads.{table_in}
use Rattle.tree_laws.specs.state_model.Trees.{leads}
use Rattle.record_rules.specs.Counts.{has_reference}
use Rattle.same_names.specs.map_change.declared.change.RecordChange.{RecordChange}
use Rattle.same_names.specs.Names.{IsNamedAlike}
use Rattle.same_names.specs.Keeping.{is_of, LeavesNamed}

-- No file has this number of a user's, and the directory of this name is there, and leads to the root.
pub record BeginsFile (n : ℕ) (l : Link) (records : List (Option Record)) : Type 0 where
  pub user : first_user_record ≤ n
  pub none : file_at (table_in records) n ≡ None
  pub there : has_reference (table_in records) l.parent ≡ true
  pub leads : leads (table_in records) (length records) l.parent.number ≡ true

-- there is a file, and it has this one name
abbrev pub HasOneName : ℕ → Link → Option Record → Type 0
HasOneName n l None = ⊥
HasOneName n l (Some r) = record_links n r ≡ l ∷ []

-- at this number, unless it is the other one, the files have the same names
abbrev pub StaysAt : ℕ → List (Option Record) → List (Option Record) → ℕ → Type 0
StaysAt n records others k = k ≢ n → IsNamedAlike k (file_at (table_in records) k) (file_at (table_in others) k)

-- at each number they do
abbrev pub StayElsewhere : ℕ → List (Option Record) → List (Option Record) → Type 0
StayElsewhere n records others = (k : ℕ) → StaysAt n records others k

-- The second list of records isn't shorter, it has a file with this one name at this number, and the other files have the names that they had.
pub record GoesOnWith (n : ℕ) (l : Link) (records others : List (Option Record)) : Type 0 where
  pub longer : length records ≤ length others
  pub within : n < length others
  pub named : HasOneName n l (file_at (table_in others) n)
  pub elsewhere : StayElsewhere n records others

-- at each other number below this count the first change of that record leaves the file its names
abbrev pub LeaveOthers : ℕ → ℕ → List (Option Record) → List RecordChange → Type 0
LeaveOthers n count records xs = (k : ℕ) → k ≢ n → k < count → LeavesNamed k (file_at (table_in records) k) (find (is_of k) xs)
