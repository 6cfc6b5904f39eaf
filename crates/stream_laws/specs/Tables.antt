-- The file table as a stream of its volume.
use Rattle.std.specs.Prelude.{◌≡◌, ◌≢◌, ℕ, [], Some, Ok}
use Rattle.volume_model.specs.disk_model.declared.block.BlockKind.TheVariants.{FileRec}
use Rattle.volume_model.specs.disk_model.Content.{Content}
use Rattle.volume_model.specs.record_model.Records.{Record}
use Rattle.volume_model.specs.record_model.Constants.{data_type}
use Rattle.volume_model.specs.state_model.declared.geometry.Geometry.{Geometry}
use Rattle.volume_model.specs.state_model.Streams.{block_at}
use Rattle.volume_model.specs.state_model.Loads.{boot_block, extents_or}
use Rattle.volume_model.specs.Volumes.{Volume, volume_of, file_in, table_file}
use Rattle.volume_model.specs.Owners.{volume_runs}
use Rattle.stream_laws.specs.Places.{AreOnce, AreApart}
use Rattle.stream_laws.specs.Sharing.{StreamKey, stream_at, runs_in}

-- the unnamed data of $MFT
abbrev pub table_key : StreamKey
table_key = record { file = table_file; kind = data_type; name = [] }

-- the volume was loaded, has a file 0, and the first record of its table is the one at which the boot sector says that it begins
pub record BeginsAtBoot (c : Content) (g : Geometry) (clusters : ℕ) (v : Volume) : Type 0 where
  pub loaded : volume_of c g clusters ≡ Ok v
  pub first : block_at v.per v.table.runs FileRec 0 ≡ Some (boot_block g 0)
  pub file : Record
  pub is_file : file_in v table_file ≡ Some file

-- Then the clusters of the file table are those of a stream of the volume. So where no cluster lies twice in the volume, none
-- lies twice in the table, nor in the table and in another stream.
pub record TableIsStream : Type 0 where
  pub extents : (c : Content) (g : Geometry) (clusters : ℕ) (v : Volume) → BeginsAtBoot c g clusters v → extents_or (stream_at v table_key) ≡ v.table
  pub once : (c : Content) (g : Geometry) (clusters : ℕ) (v : Volume) → BeginsAtBoot c g clusters v → AreOnce (volume_runs v.files) → AreOnce v.table.runs
  pub apart : (c : Content) (g : Geometry) (clusters : ℕ) (v : Volume) (s : StreamKey) → BeginsAtBoot c g clusters v → AreOnce (volume_runs v.files) → table_key ≢ s → AreApart v.table.runs (runs_in (stream_at v s))
