-- The names of records that are held in memory.
use Rattle.std.specs.Prelude.{List, Option, length, map}
use Rattle.std.specs.List.{range_with_len}
use Rattle.state_model.specs.record_model.Records.{Record}
use Rattle.state_model.specs.file_tree.declared.link.Link.{Link}
use Rattle.state_model.specs.Files.{links_at}
use Rattle.state_model.specs.Loads.{table_in}

-- the names of each file, by its number
unfoldable pub links_in : List (Option Record) → List (List Link)
links_in records = map (links_at (table_in records)) (range_with_len 0 (length records))
