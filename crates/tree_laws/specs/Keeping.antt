-- What a file keeps where it is replaced, and lists in which one part is replaced.
use Rattle.std.specs.Prelude.{◌≡◌, ℕ, Bool, false, List, ◌++◌, Option, Some, None}
use Rattle.volume_state.specs.record_model.Records.{Record}
use Rattle.volume_state.specs.state_model.Files.{Table, file_at, links_at, is_directory_record}
use Rattle.volume_state.specs.state_model.Rules.{is_directory_with}

-- one part of a list is replaced; what stands before and behind it stays
pub record PartReplaced {X : Type 0} (part new_part old new : List X) : Type 0 where
  pub front : List X
  pub behind : List X
  pub was : old ≡ front ++ (part ++ behind)
  pub is : new ≡ front ++ (new_part ++ behind)

-- the file with this number has the same names in both tables
abbrev pub KeepsNames : ℕ → Table → Table → Type 0
KeepsNames n p q = links_at q n ≡ links_at p n

-- a reference to this number is one of a directory in both tables, or in neither
abbrev pub KeepsDirectory : ℕ → Table → Table → Type 0
KeepsDirectory n p q = (seq : ℕ) → is_directory_with seq (file_at q n) ≡ is_directory_with seq (file_at p n)

abbrev pub is_directory_file : Option Record → Bool
is_directory_file None = false
is_directory_file (Some r) = is_directory_record r
