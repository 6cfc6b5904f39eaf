-- The volume that is loaded of a new volume: its 64 records, of which the first 16 are in use.
use Rattle.std.specs.Prelude.{◌≡◌, ℕ, ◌*◌, ◌<◌, ◌^◌, nat_lt, if◌then◌else◌, List, map, Option, Some, None, Ok}
use Rattle.std.specs.List.{range_with_len}
use Rattle.disk_model.specs.Content.{Content}
use Rattle.record_model.specs.Records.{Record}
use Rattle.file_tree.specs.declared.link.Link.{Link}
use Rattle.state_model.specs.declared.geometry.Geometry.{Geometry}
use Rattle.state_model.specs.declared.stream.Extents.{Extents}
use Rattle.volume_model.specs.Volumes.{Volume, volume_of}
use Rattle.format_blocks.specs.volume_format.declared.layout.Layout.{Layout}
use Rattle.format_blocks.specs.volume_format.Layouts.{IsLayout, table_first}
use Rattle.format_blocks.specs.volume_format.Files.{one_run, record_of, reference, system_name}
use Rattle.format_blocks.specs.Blocks.{HasBlocks}

-- clusters of eight sectors, and the file table at cluster 4
abbrev pub new_geometry : Geometry
new_geometry = record { per_cluster = 8; mft = table_first }

-- so many clusters from one on, with so many bytes
abbrev pub extents_at : ℕ → ℕ → ℕ → Extents
extents_at first clusters bytes = record { runs = one_run (Some first) clusters; allocated = 4096 * clusters; real = bytes; initialised = bytes }

-- the records in use of a new volume, each a file
unfoldable pub new_file : Layout → ℕ → ℕ → Option Record
new_file v time n = if nat_lt n 16 then Some (record_of v time n) else None

unfoldable pub new_files : Layout → ℕ → List (Option Record)
new_files v time = map (new_file v time) (range_with_len 0 64)

abbrev pub new_volume : Layout → ℕ → Volume
new_volume v time = record { per = 8; clusters = v.clusters; mft = table_first; table = extents_at table_first 16 65536; files = new_files v time }

-- the name of a system file, in the root
abbrev pub new_link : ℕ → Link
new_link n = record { parent = reference 5; name = system_name n; space = 3; child = reference n }

-- a content with the blocks of a new volume is loaded as its files
abbrev pub NewVolumeIsLoaded : Type 0
NewVolumeIsLoaded = (v : Layout) (seed time : ℕ) (c : Content) → IsLayout v → time < 2 ^ 64 → HasBlocks v seed time c → volume_of c new_geometry v.clusters ≡ Ok (new_volume v time)
