-- Changes of records by which the files of a list of records keep their names.
use Rattle.std.specs.Prelude.{ℕ, ◌<◌, Bool, ◌==◌, List, length, find, Option, Some, None, ⊤}
use Rattle.map_change.specs.record_model.Records.{Record}
use Rattle.record_rules.specs.state_model.Files.{only_base, file_at}
use Rattle.record_rules.specs.state_model.Loads.{table_in}
use Rattle.map_change.specs.declared.change.RecordChange.{RecordChange}
use Rattle.same_names.specs.Names.{IsNamedAlike}

-- the change is of the record with this number
abbrev pub is_of : ℕ → RecordChange → Bool
is_of n x = x.number == n

-- the change, if there is one, puts a file in this one's place that has its names
abbrev pub LeavesNamed : ℕ → Option Record → Option RecordChange → Type 0
LeavesNamed n o None = ⊤
LeavesNamed n o (Some x) = IsNamedAlike n o (only_base x.file)

-- at each number the first change of that record does
abbrev pub LeaveNamed : List (Option Record) → List RecordChange → Type 0
LeaveNamed records xs = (n : ℕ) → n < length records → LeavesNamed n (file_at (table_in records) n) (find (is_of n) xs)
