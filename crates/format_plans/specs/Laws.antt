-- In a new volume a file can be made: the edit of a plan applies to it, and leads to a state with the file.
use Rattle.std.specs.Prelude.{ℕ, ◌<◌, ◌^◌, List, length}
use Rattle.disk_model.specs.Content.{Content, HasSizes, content_of}
use Rattle.disk_model.specs.Sectors.{sector_of}
use Rattle.file_tree.specs.Walks.{first_user_record}
use Rattle.volume_format.specs.declared.layout.Layout.{Layout}
use Rattle.volume_format.specs.Layouts.{IsLayout, layout_of}
use Rattle.volume_format.specs.Files.{system_record}
use Rattle.volume_format.specs.Images.{formatted}
use Rattle.format_rules.specs.format_blocks.Blocks.{HasBlocks}
use Rattle.format_rules.specs.format_blocks.Regions.{CanFormat}
use Rattle.format_rules.specs.format_files.Volumes.{new_geometry, new_volume}
use Rattle.plan_owners.specs.States.{Stands}
use Rattle.plan_bodies.specs.Bodies.{content_with}
use Rattle.plan_model.specs.Edits.{edited}
use Rattle.plan_model.specs.Made.{MakesFile, HasMade, made_edits}
use Rattle.format_plans.specs.Files.{title_link, first_record, changed_root, first_bodies}

-- The content of a new volume is a state. The file is made there with the first number for new files, in the root; and this leads
-- to a state whose tree has the file.
pub record TakesFirstFile (v : Layout) (time stamp : ℕ) (c : Content) : Type 0 where
  pub stands : Stands c new_geometry v.clusters (new_volume v time)
  pub makes : MakesFile c (new_volume v time) first_user_record 5 (first_record stamp) (system_record v time 5) (changed_root v time stamp) title_link (first_bodies v time stamp)
  pub leads : Stands (content_with c (first_bodies v time stamp)) new_geometry v.clusters (edited (new_volume v time) (made_edits first_user_record (first_record stamp) 5 (changed_root v time stamp)))
  pub made : HasMade c (new_volume v time) first_user_record 5 (first_record stamp) (changed_root v time stamp) title_link
      (content_with c (first_bodies v time stamp)) (edited (new_volume v time) (made_edits first_user_record (first_record stamp) 5 (changed_root v time stamp)))

abbrev pub NewVolumeTakesFile : Type 0
NewVolumeTakesFile = (v : Layout) (seed time stamp : ℕ) (c : Content) → IsLayout v → time < 2 ^ 64 → stamp < 2 ^ 64 → HasBlocks v seed time c → HasSizes c → TakesFirstFile v time stamp c

-- and so it is on each device that was formatted
abbrev pub NewImageTakesFile : Type 0
NewImageTakesFile = (old : List (List ℕ)) (seed time stamp : ℕ) → CanFormat old seed time → stamp < 2 ^ 64 → TakesFirstFile (layout_of (length old)) time stamp (content_of (sector_of (formatted old seed time)))
