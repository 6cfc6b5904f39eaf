-- The laws of blocks that are written.
use Rattle.std.specs.Prelude.{◌≡◌, ℕ, ◌-◌, ◌*◌, ◌^◌, ◌<◌, true, List, length}
use Rattle.disk_model.specs.declared.block.BlockKind.{BlockKind}
use Rattle.disk_model.specs.Sectors.{sector_of, sectors, raw_from, IsDisk}
use Rattle.fixup_record.specs.Spellings.{has_spelling, spelled}
use Rattle.log_area.specs.sector_device.Disks.{is_within}
use Rattle.log_area.specs.sector_device.Sectors.{sectors_of}
use Rattle.device_blocks.specs.Words.{stood_check, read_word, written_word}

-- The word that is known after a write that answered Ok is the one that stands there.
abbrev pub WrittenWordStands : Type 0
WrittenWordStands = (kind : BlockKind) (bytes : List ℕ) (check : ℕ) → length bytes ≡ 512 * sectors kind → has_spelling kind bytes ≡ true → check < 2 ^ 16
    → read_word (stood_check kind (spelled kind check bytes)) ≡ written_word kind bytes check

-- The spelling of a body has the sectors of its block.
abbrev pub SpelledHasSectors : Type 0
SpelledHasSectors = (kind : BlockKind) (bytes : List ℕ) (check : ℕ) → length bytes ≡ 512 * sectors kind → length (sectors_of (spelled kind check bytes)) ≡ sectors kind

-- The raw bytes of sectors have these sectors.
pub record RawHasSectors : Type 0 where
  pub counted : (at : ℕ → List ℕ) (first n : ℕ) → ((s : ℕ) → length (at s) ≡ 512) → length (sectors_of (raw_from at first n)) ≡ n
  pub each : (at : ℕ → List ℕ) (first n s : ℕ) → ((s : ℕ) → length (at s) ≡ 512) → is_within first n s ≡ true → sector_of (sectors_of (raw_from at first n)) (s - first) ≡ at s
