-- What a start has in memory before a store is mounted.
use Rattle.std.specs.Prelude.{◌≡◌, ℕ, List, length, Ok}
use Rattle.disk_model.specs.Sectors.{sector_of}
use Rattle.disk_model.specs.Content.{content_of}
use Rattle.mounted_states.specs.map_change.Parts.{geometry_in}
use Rattle.mounted_states.specs.volume_map.Maps.{volume_in}
use Rattle.mounted_states.specs.volume_tree.Named.{AreNamesOf}
use Rattle.mounted_states.specs.image_open.Writing.{found_by}
use Rattle.mounted_states.specs.volume_mount.declared.mounted.Mounted.{Mounted}
use Rattle.mounted_states.specs.volume_mount.Mounts.{mounted_of}
use Rattle.mounted_states.specs.volume_mount.Answers.{MountsAs}
use Rattle.volume_start.specs.declared.plan.StartPlan.{StartPlan}
use Rattle.volume_start.specs.Fitting.{FitsStart}
use Rattle.volume_start.specs.Streams.{HasStreams}

-- It is of the mounted volume: of its log and its map, with the blocks by which the log is found, its table of upper-case units, its names and its streams, and room for a piece; and a mount of its log puts out each body that
-- recovery found.
pub record PlansFrom (mounted : Mounted) (plan : StartPlan) : Type 0 where
  pub place : plan.place ≡ mounted.opening.place
  pub kept : plan.kept.items ≡ found_by (geometry_in mounted.map)
  pub live : plan.live.map ≡ mounted.map
  pub upper : plan.upper ≡ mounted.upper
  pub streams : HasStreams (volume_in mounted.map) plan.streams
  pub out : length mounted.opening.found.written.items ≡ length mounted.opening.found.recovered.blocks.bodies.items

-- so it is of what these sectors are mounted as
pub record PlansOn (first : List (List ℕ)) (plan : StartPlan) : Type 0 where
  pub mounted : Mounted
  pub mounts : MountsAs (content_of (sector_of first)) (mounted_of first) (Ok mounted)
  pub of : PlansFrom mounted plan

-- On a device of so many sectors it fits, and has the names of its map's files.
pub record FitsPlan (count : ℕ) (plan : StartPlan) : Type 0 where
  pub fits : FitsStart count plan.place
  pub named : AreNamesOf plan.names plan.live.map.files.items
  pub room : length plan.room.items ≡ 65536
