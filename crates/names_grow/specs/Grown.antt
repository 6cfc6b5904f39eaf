-- The names of a volume's files once one more has a name, also where there have come to be more places for files.
use Rattle.std.specs.Prelude.{◌≡◌, ℕ, ◌-◌, ◌≤◌, List, [], ◌∷◌, ◌++◌, length, replicate, Option, Some, None}
use Rattle.same_names.specs.map_change.record_model.Records.{Record}
use Rattle.tree_laws.specs.file_tree.declared.link.Link.{Link}
use Rattle.tree_laws.specs.state_model.Files.{file_at}
use Rattle.tree_laws.specs.state_model.Loads.{table_in}
use Rattle.tree_laws.specs.Leaves.{IsLeaf}
use Rattle.volume_tree.specs.declared.names.Names.{Names}
use Rattle.volume_tree.specs.Named.{AreNamesOf}
use Rattle.made_names.specs.declared.naming.NewName.{NewName}
use Rattle.made_names.specs.Made.{MakesName, with_file, stands_in_system, PutsName}
use Rattle.same_names.specs.Names.{SameNames}

-- the records, and behind them places in which no file is, up to so many
abbrev pub filled_up : ℕ → List (Option Record) → List (Option Record)
filled_up count records = records ++ replicate (count - length records) None

-- The second list of records has one file more than the first, at this number and with this one name; the files of the first have the names that they had. It may have more places, in which
-- no other file is.
pub record HasFileMore (n : ℕ) (l : Link) (records others : List (Option Record)) : Type 0 where
  pub file : Record
  pub there : file_at (table_in others) n ≡ Some file
  pub makes : MakesName (filled_up (length others) records) n file l
  pub names : SameNames (with_file n file (filled_up (length others) records)) others

-- these are the names of the records, of which none stands in a file with this number
pub record KnowsNames (n : ℕ) (names : Names) (records : List (Option Record)) : Type 0 where
  pub named : AreNamesOf names records
  pub leaf : IsLeaf n (table_in records)

-- Where the name of the file that is more is put with those of the first list, filled up, they are the names of the second.
abbrev pub GrownNamesTell : Type 0
GrownNamesTell = (records others : List (Option Record)) (n : ℕ) (l : Link) (old new : Names) → HasFileMore n l records others → AreNamesOf old (filled_up (length others) records) → PutsName n (l ∷ []) l.parent.number (stands_in_system (filled_up (length others) records) l) old new → AreNamesOf new others

-- the name of the file at this number that is more than these records, and what is said of it
pub record IsNameOfMore (name : NewName) (l : Link) (records : List (Option Record)) : Type 0 where
  pub links : name.links ≡ l ∷ []
  pub parent : name.parent ≡ l.parent.number
  pub in_system : name.in_system ≡ stands_in_system records l

-- Names of the first records, filled up, are those of the second ones behind it.
abbrev pub PutsFileMore : NewName → (old new : Names) → Type 0
PutsFileMore name old new = (records others : List (Option Record)) (l : Link) → HasFileMore name.number l records others → IsNameOfMore name l (filled_up (length others) records) → AreNamesOf old (filled_up (length others) records) → AreNamesOf new others

-- Where a file can be made with this one name, and the files of the records with it have the names of the second ones, these have one file more; and records of which there aren't fewer
-- aren't filled up.
pub record MoreIsTold : Type 0 where
  pub more : (records others : List (Option Record)) (n : ℕ) (f : Record) (l : Link) → MakesName (filled_up (length others) records) n f l → SameNames (with_file n f (filled_up (length others) records)) others → HasFileMore n l records others
  pub itself : (count : ℕ) (records : List (Option Record)) → count ≤ length records → filled_up count records ≡ records
