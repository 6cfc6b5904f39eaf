-- The long names of files.
use Rattle.std.specs.Prelude.{ℕ, List, length, Option, Result, Ok}
use Rattle.std.specs.List.{filter}
use Rattle.host_base.specs.Answers.{◌>>=◌}
use Rattle.disk_model.specs.Content.{Content}
use Rattle.record_model.specs.Records.{Record}
use Rattle.file_tree.specs.declared.link.Link.{Link}
use Rattle.file_tree.specs.Trees.{is_long}
use Rattle.state_model.specs.declared.geometry.Geometry.{Geometry}
use Rattle.state_model.specs.declared.geometry.MapRefusal.{MapRefusal}
use Rattle.state_model.specs.declared.stream.Extents.{Extents}
use Rattle.state_model.specs.Trees.{all_links}
use Rattle.state_model.specs.Loads.{table_in, files_in, loaded}

-- the long names of files, by the files' numbers
unfoldable pub long_links : List (Option Record) → List Link
long_links files = filter is_long (all_links (table_in files) (length files))

-- those of the files of a table with these clusters, or what refuses it
unfoldable pub links_in : Content → ℕ → Extents → Result (List Link) MapRefusal
links_in c per e = files_in c per e >>= λ files. Ok (long_links files)

-- those of a volume's files, or the first refusal that applies
unfoldable pub loaded_links : Content → Geometry → Result (List Link) MapRefusal
loaded_links c g = loaded c g >>= λ files. Ok (long_links files)
