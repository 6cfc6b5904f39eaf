-- What is held in memory of the names of records is that of others with the same names.
use Rattle.std.specs.Prelude.{List, Option}
use Rattle.record_model.specs.Records.{Record}
use Rattle.volume_tree.specs.declared.names.Names.{Names}
use Rattle.volume_tree.specs.Named.{AreNamesOf}
use Rattle.same_names.specs.Names.{SameNames}

-- The names of records, how many stand in each, and the ways up are those of other records of which the files have the same names.
abbrev pub NamesStay : Type 0
NamesStay = (names : Names) (records others : List (Option Record)) → AreNamesOf names records → SameNames records others → AreNamesOf names others
