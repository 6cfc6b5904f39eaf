-- Two lists of records of which the files have the same names.
use Rattle.std.specs.Prelude.{◌≡◌, ⊤, ℕ, List, length, Option, Some, None}
use Rattle.map_change.specs.record_model.Records.{Record}
use Rattle.record_rules.specs.state_model.Files.{file_at, record_links}
use Rattle.record_rules.specs.state_model.Loads.{table_in}
use Rattle.record_rules.specs.state_model.Trees.{parent_at, leads, is_in_system}
use Rattle.record_rules.specs.Counts.{names_at}
use Rattle.record_rules.specs.Links.{links_in}
use Rattle.record_rules.specs.Ways.{AreWaysOf}
use Rattle.record_rules.specs.declared.climbing.Ways.{Ways}

-- no file in both, or in both one with the same sequence number and the same names, in their order
abbrev pub IsNamedAlike : ℕ → Option Record → Option Record → Type 0
IsNamedAlike n None None = ⊤
IsNamedAlike n None (Some s) = ⊥
IsNamedAlike n (Some r) None = ⊥
IsNamedAlike n (Some r) (Some s) = (s.head.seq ≡ r.head.seq) × (record_links n s ≡ record_links n r)

-- as many records, and so the file at each number
pub record SameNames (records others : List (Option Record)) : Type 0 where
  pub count : length others ≡ length records
  pub each : (n : ℕ) → IsNamedAlike n (file_at (table_in records) n) (file_at (table_in others) n)

-- Then the names of each file are the same, how many names stand in each, the directory of each file's first name, and what each way up says; and what was
-- found of the ways up holds on.
pub record NamesTellSame : Type 0 where
  pub links : (records others : List (Option Record)) → SameNames records others → links_in others ≡ links_in records
  pub counts : (records others : List (Option Record)) (n : ℕ) → SameNames records others → names_at (table_in others) n (length others) ≡ names_at (table_in records) n (length records)
  pub parents : (records others : List (Option Record)) → SameNames records others → parent_at (table_in others) ≡ parent_at (table_in records)
  pub rooted : (records others : List (Option Record)) → SameNames records others → leads (table_in others) (length others) ≡ leads (table_in records) (length records)
  pub in_system : (records others : List (Option Record)) → SameNames records others → is_in_system (table_in others) (length others) ≡ is_in_system (table_in records) (length records)
  pub ways : (ways : Ways) (records others : List (Option Record)) → SameNames records others → AreWaysOf ways records → AreWaysOf ways others
