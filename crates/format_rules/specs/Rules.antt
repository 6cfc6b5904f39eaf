-- The rules of streams, of indexes and of the journal, which a new volume keeps.
use Rattle.std.specs.Prelude.{◌≡◌, ℕ, ◌<◌, ◌^◌, None}
use Rattle.disk_model.specs.Content.{Content}
use Rattle.volume_state.specs.Rules.{broken_3, broken_4, broken_9}
use Rattle.format_files.specs.volume_format.declared.layout.Layout.{Layout}
use Rattle.format_files.specs.volume_format.Layouts.{IsLayout}
use Rattle.format_files.specs.format_blocks.Blocks.{HasBlocks}
use Rattle.format_files.specs.Volumes.{new_volume}

-- each directory's index holds its names in order, and there is no change journal
pub record KeepsIndexes (v : Layout) (time : ℕ) (c : Content) : Type 0 where
  pub indexes : broken_3 c (new_volume v time) ≡ None
  pub journal : broken_9 c (new_volume v time) ≡ None

abbrev pub NewVolumeKeepsIndexes : Type 0
NewVolumeKeepsIndexes = (v : Layout) (seed time : ℕ) (c : Content) → IsLayout v → time < 2 ^ 64 → HasBlocks v seed time c → KeepsIndexes v time c

-- the streams of files have every VCN, lie in the volume and have lawful sizes; and no file record of the table or its
-- mirror is torn, nor a block of an index
abbrev pub NewVolumeKeepsSizes : Type 0
NewVolumeKeepsSizes = (v : Layout) (seed time : ℕ) (c : Content) → IsLayout v → time < 2 ^ 64 → HasBlocks v seed time c → broken_4 c (new_volume v time) ≡ None
