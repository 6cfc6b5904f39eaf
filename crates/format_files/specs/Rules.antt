-- The rules that a new volume keeps.
use Rattle.std.specs.Prelude.{◌≡◌, ℕ, ◌<◌, ◌^◌, None}
use Rattle.disk_model.specs.Content.{Content}
use Rattle.volume_state.specs.Rules.{broken_1, broken_2, broken_5, broken_6, broken_7, broken_8}
use Rattle.format_blocks.specs.volume_format.declared.layout.Layout.{Layout}
use Rattle.format_blocks.specs.volume_format.Layouts.{IsLayout}
use Rattle.format_blocks.specs.Blocks.{HasBlocks}
use Rattle.format_files.specs.Volumes.{new_volume}

-- the names of files, the directory of each name and the way up of each directory are as they have to be
pub record KeepsNames (v : Layout) (time : ℕ) : Type 0 where
  pub names : broken_1 (new_volume v time) ≡ None
  pub directories : broken_2 (new_volume v time) ≡ None
  pub ways : broken_8 (new_volume v time) ≡ None

abbrev pub NewVolumeKeepsNames : Type 0
NewVolumeKeepsNames = (v : Layout) (time : ℕ) → IsLayout v → time < 2 ^ 64 → KeepsNames v time

-- no cluster is owned twice, and each that is owned is marked; each record in use is marked
pub record KeepsBits (v : Layout) (time : ℕ) (c : Content) : Type 0 where
  pub owners : broken_5 (new_volume v time) ≡ None
  pub clusters : broken_6 c (new_volume v time) ≡ None
  pub records : broken_7 c (new_volume v time) ≡ None

abbrev pub NewVolumeKeepsBits : Type 0
NewVolumeKeepsBits = (v : Layout) (seed time : ℕ) (c : Content) → IsLayout v → time < 2 ^ 64 → HasBlocks v seed time c → KeepsBits v time c
