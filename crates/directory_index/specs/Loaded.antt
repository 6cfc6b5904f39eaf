-- A volume of which the files alone are known.
use Rattle.std.specs.Prelude.{ℕ, List, if◌then◌else◌, Option, Some, None}
use Rattle.state_model.specs.record_model.Records.{Record}
use Rattle.state_model.specs.Files.{Table, file_at, is_directory_record}
use Rattle.state_model.specs.Loads.{no_extents}
use Rattle.volume_model.specs.Volumes.{Volume}

-- so many sectors a cluster, and these files; no clusters and no table, which no index asks for
abbrev pub volume_with : ℕ → List (Option Record) → Volume
volume_with per files = record { per = per; clusters = 0; mft = 0; table = no_extents; files = files }

abbrev pub only_directory : Option Record → Option Record
only_directory None = None
only_directory (Some r) = if is_directory_record r then Some r else None

-- the directory with this number
unfoldable pub directory_at : Table → ℕ → Option Record
directory_at p n = only_directory (file_at p n)
