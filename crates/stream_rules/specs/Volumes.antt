-- A volume by its parts.
use Rattle.std.specs.Prelude.{ℕ, List, Option}
use Rattle.stream_map.specs.record_model.Records.{Record}
use Rattle.state_model.specs.declared.stream.Extents.{Extents}
use Rattle.volume_model.specs.Volumes.{Volume}

-- the cluster of a file table by the boot sector, and its clusters and sizes by its own record
pub record TablePlace : Type 0 where
  pub mft : ℕ
  pub table : Extents

-- the volume with so many sectors a cluster, so many clusters, its file table here and these files
abbrev pub volume_with : ℕ → ℕ → TablePlace → List (Option Record) → Volume
volume_with per clusters place files = record { per = per; clusters = clusters; mft = place.mft; table = place.table; files = files }
