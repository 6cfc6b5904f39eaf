-- The laws of pages that are written: one that holds an old sector shows.
use Rattle.std.specs.Prelude.{◌≡◌, ◌⊎◌, ℕ, ◌/◌, ◌<◌, Bool, true, false, if◌then◌else◌, List, length, slice_index, is_ok}
use Rattle.disk_model.specs.Fixups.{last_word, fixup_of}
use Rattle.log_page.specs.CheckWords.{IsCheckWord}
use Rattle.log_page.specs.RecordPages.{is_whole_page}

-- A page was written over an old one by a check word that was picked for it, and what stands on the disk is sector by sector the new or the old one.
pub record IsPartWritten (old new raw : List ℕ) (check : ℕ) (is_new : ℕ → Bool) : Type 0 where
  pub old_size : length old ≡ 4096
  pub new_size : length new ≡ 4096
  pub size : length raw ≡ 4096
  pub picked : IsCheckWord old check
  pub ends : (sector : ℕ) → sector < 8 → last_word new sector ≡ check
  pub bytes : (i : ℕ) → i < 4096 → slice_index raw i ≡ (if is_new (i / 512) then slice_index new i else slice_index old i)

-- where the update sequence holds, the page is the new one or the old one
abbrev pub NewOrOld : Type 0
NewOrOld = (old new raw : List ℕ) (check : ℕ) (is_new : ℕ → Bool) → IsPartWritten old new raw check is_new → is_ok (fixup_of raw) ≡ true → (raw ≡ new) ⊎ (raw ≡ old)

-- a record page that holds an old sector isn't whole at its new LSN
abbrev pub OldSectorShows : Type 0
OldSectorShows = (pages lsn : ℕ) (old new raw : List ℕ) (check : ℕ) (is_new : ℕ → Bool)
    → IsPartWritten old new raw check is_new → is_whole_page pages old lsn ≡ false → is_whole_page pages raw lsn ≡ true → raw ≡ new

-- a page of another lap isn't whole
abbrev pub OtherLapShows : Type 0
OtherLapShows = (pages lsn other : ℕ) (raw : List ℕ) → is_whole_page pages raw lsn ≡ true → is_whole_page pages raw other ≡ true → lsn ≡ other

pub record WrittenPages : Type 0 where
  pub new_or_old : NewOrOld
  pub old_sector_shows : OldSectorShows
  pub other_lap_shows : OtherLapShows
