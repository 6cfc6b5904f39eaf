-- The laws of values: the table against the reader, and the written fields against both.
use Rattle.std.specs.Prelude.{◌≡◌, ◌≢◌, ◌↔◌, ◌⊎◌, ℕ, ◌+◌, ◌*◌, ◌<◌, ◌≤◌, true, List, length, is_ok, slice_index, Ok, Err}
use Rattle.disk_model.specs.Bytes.{AreBytes}
use Rattle.record_model.specs.declared.values.StdInfo.{StdInfo}
use Rattle.record_model.specs.declared.values.FileNameValue.{FileNameValue}
use Rattle.record_model.specs.declared.values.VolumeInfo.{VolumeInfo}
use Rattle.record_model.specs.declared.values.JournalMax.{JournalMax}
use Rattle.record_model.specs.declared.values.ValueFault.TheVariants.{Length, Shape}
use Rattle.record_model.specs.Values.{is_standard_information, has_name_length, is_file_name}
use Rattle.record_model.specs.StdValues.{std_info_of, IsStdInfo, std_info_over, FitsStdInfo, file_name_of, IsFileName, file_name_over, FitsFileName, volume_info_of, IsVolumeInfo, volume_info_over, FitsVolumeInfo, journal_max_of, IsJournalMax, journal_max_over, FitsJournalMax}

-- standard information is read exactly where the table holds, and refused for its length alone
pub record StdInfoIsTable : Type 0 where
  pub read : (value : List ℕ) (info : StdInfo) → (std_info_of value ≡ Ok info) ↔ IsStdInfo value info
  pub short : (value : List ℕ) → length value < 0x30 → std_info_of value ≡ Err (Length (length value))
  pub lawful : (value : List ℕ) → is_ok (std_info_of value) ≡ is_standard_information value

-- what was written is read again; bytes of no field stay, and there are as many as before
pub record StdInfoReadAgain : Type 0 where
  pub size : (info : StdInfo) (value : List ℕ) → length (std_info_over info value) ≡ length value
  pub spelled : (info : StdInfo) (value : List ℕ) → FitsStdInfo info → 0x30 ≤ length value → IsStdInfo (std_info_over info value) info
  pub read : (info : StdInfo) (value : List ℕ) → FitsStdInfo info → 0x30 ≤ length value → std_info_of (std_info_over info value) ≡ Ok info
  pub others : (info : StdInfo) (value : List ℕ) (i : ℕ) → 0x24 ≤ i → slice_index (std_info_over info value) i ≡ slice_index value i

-- a file name of bytes is read exactly where the table holds; the length is tried first
pub record FileNameIsTable : Type 0 where
  pub read : (value : List ℕ) (f : FileNameValue) → AreBytes value → (file_name_of value ≡ Ok f) ↔ IsFileName value f
  pub wrong_length : (value : List ℕ) (n : ℕ) → (file_name_of value ≡ Err (Length n)) ↔ ((n ≡ length value) × (has_name_length value ≢ true))
  pub wrong_shape : (value : List ℕ) → (file_name_of value ≡ Err Shape) ↔ ((has_name_length value ≡ true) × (is_file_name value ≢ true))
  pub lawful : (value : List ℕ) → is_ok (file_name_of value) ≡ is_file_name value

-- what was written is read again; the bytes from 0x3C to 0x40 stay, and there are as many as before
pub record FileNameReadAgain : Type 0 where
  pub size : (f : FileNameValue) (value : List ℕ) → length (file_name_over f value) ≡ length value
  pub spelled : (f : FileNameValue) (value : List ℕ) → FitsFileName f → length value ≡ 0x42 + 2 * length f.name → IsFileName (file_name_over f value) f
  pub read : (f : FileNameValue) (value : List ℕ) → FitsFileName f → length value ≡ 0x42 + 2 * length f.name → file_name_of (file_name_over f value) ≡ Ok f
  pub others : (f : FileNameValue) (value : List ℕ) (i : ℕ) → 0x3C ≤ i → i < 0x40 → slice_index (file_name_over f value) i ≡ slice_index value i

-- volume information is read exactly where the table holds, and refused for its length alone
pub record VolumeInfoIsTable : Type 0 where
  pub read : (value : List ℕ) (info : VolumeInfo) → (volume_info_of value ≡ Ok info) ↔ IsVolumeInfo value info
  pub short : (value : List ℕ) → length value < 0x0C → volume_info_of value ≡ Err (Length (length value))

-- what was written is read again; bytes of no field stay, and there are as many as before
pub record VolumeInfoReadAgain : Type 0 where
  pub size : (info : VolumeInfo) (value : List ℕ) → length (volume_info_over info value) ≡ length value
  pub spelled : (info : VolumeInfo) (value : List ℕ) → FitsVolumeInfo info → 0x0C ≤ length value → IsVolumeInfo (volume_info_over info value) info
  pub read : (info : VolumeInfo) (value : List ℕ) → FitsVolumeInfo info → 0x0C ≤ length value → volume_info_of (volume_info_over info value) ≡ Ok info
  pub others : (info : VolumeInfo) (value : List ℕ) (i : ℕ) → (i < 0x08) ⊎ (0x0C ≤ i) → slice_index (volume_info_over info value) i ≡ slice_index value i

-- the journal's limits are read exactly where the table holds, and refused for their length alone
pub record JournalMaxIsTable : Type 0 where
  pub read : (value : List ℕ) (limits : JournalMax) → (journal_max_of value ≡ Ok limits) ↔ IsJournalMax value limits
  pub short : (value : List ℕ) → length value < 0x20 → journal_max_of value ≡ Err (Length (length value))

-- what was written is read again; bytes of no field stay, and there are as many as before
pub record JournalMaxReadAgain : Type 0 where
  pub size : (limits : JournalMax) (value : List ℕ) → length (journal_max_over limits value) ≡ length value
  pub spelled : (limits : JournalMax) (value : List ℕ) → FitsJournalMax limits → 0x20 ≤ length value → IsJournalMax (journal_max_over limits value) limits
  pub read : (limits : JournalMax) (value : List ℕ) → FitsJournalMax limits → 0x20 ≤ length value → journal_max_of (journal_max_over limits value) ≡ Ok limits
  pub others : (limits : JournalMax) (value : List ℕ) (i : ℕ) → 0x20 ≤ i → slice_index (journal_max_over limits value) i ≡ slice_index value i
