-- The long names of a volume, from the sectors of its device; or the first refusal that applies.
use Rattle.std.specs.Prelude.{ℕ, List, Option, Result, Ok}
use Rattle.host_base.specs.Answers.{◌>>=◌}
use Rattle.disk_model.specs.Content.{Content}
use Rattle.volume_links.specs.record_model.Records.{Record}
use Rattle.file_tree.specs.declared.link.Link.{Link}
use Rattle.image_open.specs.state_model.declared.geometry.Geometry.{Geometry}
use Rattle.image_open.specs.state_model.Loads.{loaded}
use Rattle.volume_links.specs.Names.{long_links}
use Rattle.image_open.specs.declared.refusal.Refusal.{Refusal}
use Rattle.image_open.specs.Errors.{map_refusal, refused_as}
use Rattle.image_open.specs.Volumes.{in_volume, on_disk}

-- ---- the files

unfoldable pub files_of : Content → Geometry → Result (List (Option Record)) Refusal
files_of c g = refused_as map_refusal (loaded c g)

-- the long names of files, by the files' numbers
unfoldable pub links_in : Content → Geometry → Result (List Link) Refusal
links_in c g = files_of c g >>= λ files. Ok (long_links files)

-- ---- the image

-- the links of a content on a device of so many sectors
unfoldable pub scan_in : Content → ℕ → Result (List Link) Refusal
scan_in c sectors = in_volume (λ content g _. links_in content g) c sectors

-- The long names of the volume on these sectors, by the numbers of their files and then as they stand in the records; or
-- the first refusal that applies: by the boot sector, by record 2 and the log, and by the records of the file table, which are
-- those of the recovered content.
unfoldable pub scan_of : List (List ℕ) → Result (List Link) Refusal
scan_of disk = on_disk scan_in disk
