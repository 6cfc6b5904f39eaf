-- The names of a volume's files, by number.
use Rattle.std.specs.Prelude.{◌≡◌, ℕ, ◌<◌, List, Option, length, slice_index}
use Rattle.volume_map.specs.record_model.Records.{Record}
use Rattle.state_model.specs.Loads.{table_in}
use Rattle.record_rules.specs.Links.{links_in}
use Rattle.record_rules.specs.Counts.{names_at}
use Rattle.record_rules.specs.Ways.{AreWaysOf}
use Rattle.volume_tree.specs.declared.names.Names.{Names}

-- These are the names of these records: those of each file, how many stand in each, and the ways up from them.
pub record AreNamesOf (names : Names) (records : List (Option Record)) : Type 0 where
  pub links : names.links.items ≡ links_in records
  pub sized : length names.counts.items ≡ length records
  pub counted : (n : ℕ) → n < length records → slice_index names.counts.items n ≡ names_at (table_in records) n (length records)
  pub ways : AreWaysOf names.ways records
