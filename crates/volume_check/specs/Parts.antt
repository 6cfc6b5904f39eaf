-- What a check has in memory of a content: its map, and the table of upper-case units.
use Rattle.std.specs.Prelude.{◌≡◌, ℕ, List}
use Rattle.disk_model.specs.Content.{Content}
use Rattle.volume_model.specs.Volumes.{upper_of}
use Rattle.volume_tree.specs.volume_map.declared.map.VolumeMap.{VolumeMap}
use Rattle.volume_tree.specs.volume_map.Maps.{volume_in, IsMapOf}

-- the map is that of a content, and this is the volume's table of upper-case units
pub record AreParts (c : Content) (m : VolumeMap) (units : List ℕ) : Type 0 where
  pub map : IsMapOf c m
  pub upper : units ≡ upper_of c (volume_in m)
