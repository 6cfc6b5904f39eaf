-- How many names stand in each directory, by the directory's number.
use Rattle.std.specs.Prelude.{ℕ, Bool, false, ◌==◌, List, Option, Some, None}
use Rattle.file_record.specs.host_base.declared.file_ref.FileRef.{FileRef}
use Rattle.state_model.specs.file_tree.declared.link.Link.{Link}
use Rattle.state_model.specs.record_model.Records.{Record}
use Rattle.state_model.specs.Files.{Table, file_at, reference}
use Rattle.state_model.specs.Rules.{count_in, names_in}

-- how many of these names stand in this file, if there is one
abbrev pub count_for : ℕ → Option Record → List Link → ℕ
count_for n None links = 0
count_for n (Some r) links = count_in (reference n r) links

-- how many of these names stand in the file with this number
unfoldable pub count_at : Table → ℕ → List Link → ℕ
count_at p n links = count_for n (file_at p n) links

abbrev pub names_for : Table → ℕ → Option Record → ℕ → ℕ
names_for p n None count = 0
names_for p n (Some r) count = names_in p (reference n r) count

-- how many names of the first records stand in the file with this number
unfoldable pub names_at : Table → ℕ → ℕ → ℕ
names_at p n count = names_for p n (file_at p n) count

abbrev pub has_sequence : ℕ → Option Record → Bool
has_sequence seq None = false
has_sequence seq (Some r) = seq == r.head.seq

-- the file with this number has this sequence
unfoldable pub has_reference : Table → FileRef → Bool
has_reference p file = has_sequence file.seq (file_at p file.number)
