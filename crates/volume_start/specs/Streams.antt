-- The streams of a volume from which operations are planned.
use Rattle.std.specs.Prelude.{◌≡◌, ◌*◌, ◌≤◌, Option, Some, None}
use Rattle.record_model.specs.Pairs.{HasSpelling}
use Rattle.state_model.specs.declared.stream.Extents.{Extents}
use Rattle.state_model.specs.declared.stream.Stream.TheVariants.{Placed}
use Rattle.state_model.specs.Loads.{extents_or}
use Rattle.volume_model.specs.Volumes.{Volume}
use Rattle.stream_laws.specs.Sharing.{stream_at}
use Rattle.file_puts.specs.plan_edits.Edits.{bitmap_key, mirror_key}
use Rattle.file_puts.specs.declared.streams.VolumeStreams.{VolumeStreams}

-- The bits of the volume's clusters lie in these clusters, whose runs have a spelling; and each cluster has one below the initialised size.
pub record HasPlacedBits (v : Volume) (bitmap : Extents) : Type 0 where
  pub stream : stream_at v bitmap_key ≡ Some (Placed bitmap)
  pub spelled : HasSpelling 0 bitmap.runs
  pub all : v.clusters ≤ 8 * bitmap.initialised

-- they lie so, or they don't
abbrev pub IsFoundBits : Volume → Option Extents → Type 0
IsFoundBits v (Some bitmap) = HasPlacedBits v bitmap
IsFoundBits v None = (bitmap : Extents) → HasPlacedBits v bitmap → ⊥

-- The streams are the volume's: its file table, the table's mirror, and these bits.
pub record HasStreams (v : Volume) (s : VolumeStreams) : Type 0 where
  pub table : s.table ≡ v.table
  pub mirror : extents_or (stream_at v mirror_key) ≡ s.mirror
  pub bits : HasPlacedBits v s.bitmap

-- where the bits lie so
abbrev pub AreFoundStreams : Volume → Option VolumeStreams → Type 0
AreFoundStreams v (Some s) = HasStreams v s
AreFoundStreams v None = (bitmap : Extents) → HasPlacedBits v bitmap → ⊥
