-- A loaded volume, as definitions see it.
use Rattle.std.specs.Prelude.{◌≡◌}
use Rattle.stream_map.specs.disk_model.Content.{Content}
use Rattle.volume_model.specs.Volumes.{Volume, record_bits, cluster_bits}
use Rattle.volume_map.specs.declared.map.VolumeMap.{VolumeMap}
use Rattle.volume_map.specs.Heads.{heads_of}

abbrev pub volume_in : VolumeMap → Volume
volume_in m = record { per = m.per_cluster; clusters = m.clusters; mft = m.mft; table = m.table; files = m.files.items }

-- what holds of a volume that was loaded of this content: it has the heads of all records, and the bits of both bitmaps
pub record IsMapOf (c : Content) (m : VolumeMap) : Type 0 where
  pub heads : m.heads.items ≡ heads_of c (volume_in m)
  pub records : m.record_bits ≡ record_bits c (volume_in m)
  pub clusters : m.cluster_bits ≡ cluster_bits c (volume_in m)
