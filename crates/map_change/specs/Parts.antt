-- What a map has, and the map of a content.
use Rattle.std.specs.Prelude.{ℕ, Bool, List, Result, Ok}
use Rattle.host_base.specs.Answers.{◌>>=◌}
use Rattle.disk_model.specs.Content.{Content}
use Rattle.volume_map.specs.state_model.declared.geometry.Geometry.{Geometry}
use Rattle.volume_map.specs.state_model.declared.geometry.MapRefusal.{MapRefusal}
use Rattle.volume_map.specs.volume_model.Volumes.{Volume, volume_of, record_bits, cluster_bits}
use Rattle.volume_map.specs.declared.head.Head.{Head}
use Rattle.volume_map.specs.declared.map.VolumeMap.{VolumeMap}
use Rattle.volume_map.specs.Heads.{heads_of}
use Rattle.volume_map.specs.Maps.{volume_in}
use Rattle.map_change.specs.declared.live.LiveMap.{LiveMap}

-- a volume, the heads of its records, and the bits of its records and of its clusters
pub record MapParts : Type 0 where
  pub volume : Volume
  pub heads : List Head
  pub records : List Bool
  pub clusters : List Bool

-- those of a content with this volume
abbrev pub parts_of : Content → Volume → MapParts
parts_of c v = record { volume = v; heads = heads_of c v; records = record_bits c v; clusters = cluster_bits c v }

-- the map of a content, or the first refusal of its volume
abbrev pub map_of : Content → Geometry → ℕ → Result MapParts MapRefusal
map_of c g clusters = volume_of c g clusters >>= λ v. Ok (parts_of c v)

-- the same of a map in memory
abbrev pub parts_in : VolumeMap → MapParts
parts_in m = record { volume = volume_in m; heads = m.heads.items; records = m.record_bits; clusters = m.cluster_bits }

abbrev pub live_parts : LiveMap → MapParts
live_parts l = parts_in l.map

-- where a map's file table is found
abbrev pub geometry_in : VolumeMap → Geometry
geometry_in m = record { per_cluster = m.per_cluster; mft = m.mft }
