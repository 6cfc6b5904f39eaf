-- What the ways up from the files of a volume say.
use Rattle.std.specs.Prelude.{◌≡◌, List, Option, length, map}
use Rattle.std.specs.List.{range_with_len}
use Rattle.state_model.specs.record_model.Records.{Record}
use Rattle.state_model.specs.Trees.{parent_at, leads, is_in_system}
use Rattle.state_model.specs.Loads.{table_in}
use Rattle.record_rules.specs.declared.climbing.Ways.{Ways}

-- these are the ways up from these records, by number
pub record AreWaysOf (ways : Ways) (records : List (Option Record)) : Type 0 where
  pub parents : ways.parents.items ≡ map (parent_at (table_in records)) (range_with_len 0 (length records))
  pub rooted : ways.rooted.items ≡ map (leads (table_in records) (length records)) (range_with_len 0 (length records))
  pub in_system : ways.in_system.items ≡ map (is_in_system (table_in records) (length records)) (range_with_len 0 (length records))
