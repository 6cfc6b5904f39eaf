-- The version of a volume.
use Rattle.std.specs.Prelude.{ℕ, Bool, ◌&&◌, ◌==◌, find, Option, Some, None, Result, Ok, Err}
use Rattle.journal_model.specs.record_model.declared.attribute.OwnForm.{OwnForm}
use Rattle.journal_model.specs.record_model.declared.attribute.OwnForm.TheVariants.{Resident, Mapped}
use Rattle.journal_model.specs.record_model.declared.attribute.Attr.{Attr}
use Rattle.journal_model.specs.record_model.declared.values.VolumeInfo.{VolumeInfo}
use Rattle.journal_model.specs.record_model.declared.values.ValueFault.{ValueFault}
use Rattle.journal_model.specs.record_model.StdValues.{volume_info_of}
use Rattle.journal_model.specs.record_model.Records.{Record}
use Rattle.journal_model.specs.record_model.Constants.{volume_information}
use Rattle.volume_model.specs.Volumes.{Volume, file_in}

abbrev pub volume_file : ℕ
volume_file = 3

-- a volume without volume information has version 0.0
abbrev pub no_version : VolumeInfo
no_version = record { major = 0; minor = 0; flags = 0 }

abbrev pub info_or_none : Result VolumeInfo ValueFault → VolumeInfo
info_or_none (Ok info) = info
info_or_none (Err fault) = no_version

abbrev pub form_info : OwnForm → VolumeInfo
form_info (Resident value indexed) = info_or_none (volume_info_of value)
form_info (Mapped sizes pairs) = no_version

abbrev pub attr_info : Option Attr → VolumeInfo
attr_info None = no_version
attr_info (Some a) = form_info a.form

abbrev pub file_info : Option Record → VolumeInfo
file_info None = no_version
file_info (Some r) = attr_info (find (λ (a : Attr). a.head.kind == volume_information) r.attrs)

-- the volume information of $Volume, where it is resident and long enough
unfoldable pub volume_info : Volume → VolumeInfo
volume_info v = file_info (file_in v volume_file)

-- the version that is read and written
abbrev pub is_known : VolumeInfo → Bool
is_known info = info.major == 3 && info.minor == 1
