-- The values of attributes field by field: reading one, its table, and the bytes of a value after its fields are written.
use Rattle.std.specs.Prelude.{◌≡◌, ℕ, ◌+◌, ◌*◌, ◌<◌, ◌≤◌, ◌^◌, List, length, nat_le, if◌then◌else◌, Result, Ok, Err}
use Rattle.disk_model.specs.host_base.Answers.{Cause, refused, no_memory}
use Rattle.disk_model.specs.host_base.FileRefs.{packed}
use Rattle.utf16_name.specs.Lawful.{IsName}
use Rattle.disk_model.specs.Numbers.{field, spell}
use Rattle.disk_model.specs.Bytes.{written}
use Rattle.record_model.specs.declared.values.StdInfo.{StdInfo}
use Rattle.record_model.specs.declared.values.FileNameValue.{FileNameValue}
use Rattle.record_model.specs.declared.values.VolumeInfo.{VolumeInfo}
use Rattle.record_model.specs.declared.values.JournalMax.{JournalMax}
use Rattle.record_model.specs.declared.values.ValueFault.{ValueFault}
use Rattle.record_model.specs.declared.values.ValueFault.TheVariants.{Length, Shape, Memory}
use Rattle.record_model.specs.Attributes.{unit_bytes}
use Rattle.record_model.specs.Values.{is_standard_information, parent_of, space_of, units_of, has_name_length, is_file_name}

-- where an error of a call comes from
abbrev pub value_cause : ValueFault → Cause ValueFault
value_cause (Length len) = refused (Length len)
value_cause Shape = refused Shape
value_cause Memory = no_memory

-- ---- standard information: 00 created, 08 modified, 10 changed, 18 read, 20 flags; at least 30 bytes

unfoldable pub std_info_fields : List ℕ → StdInfo
std_info_fields value = record { created = field 0x00 8 value; modified = field 0x08 8 value; changed = field 0x10 8 value; read_at = field 0x18 8 value; flags = field 0x20 4 value }

-- the standard information of these bytes, or what refuses them
unfoldable pub std_info_of : List ℕ → Result StdInfo ValueFault
std_info_of value = if is_standard_information value then Ok (std_info_fields value) else Err (Length (length value))

-- these bytes are a value with these fields
pub record IsStdInfo (value : List ℕ) (info : StdInfo) : Type 0 where
  pub size : 0x30 ≤ length value
  pub created : field 0x00 8 value ≡ info.created
  pub modified : field 0x08 8 value ≡ info.modified
  pub changed : field 0x10 8 value ≡ info.changed
  pub read_at : field 0x18 8 value ≡ info.read_at
  pub flags : field 0x20 4 value ≡ info.flags

-- the value after its fields are written
unfoldable pub std_info_over : StdInfo → List ℕ → List ℕ
std_info_over info value = written 0x20 (spell 4 info.flags) (written 0x18 (spell 8 info.read_at) (written 0x10 (spell 8 info.changed) (written 0x08 (spell 8 info.modified) (written 0x00 (spell 8 info.created) value))))

pub record FitsStdInfo (info : StdInfo) : Type 0 where
  pub created : info.created < 2 ^ 64
  pub modified : info.modified < 2 ^ 64
  pub changed : info.changed < 2 ^ 64
  pub read_at : info.read_at < 2 ^ 64
  pub flags : info.flags < 2 ^ 32

-- ---- file name: 00 parent, 08 created, 10 modified, 18 changed, 20 read, 28 allocated, 30 real, 38 flags, 40 length in units, 41 namespace, 42 units

unfoldable pub file_name_fields : List ℕ → FileNameValue
file_name_fields value = record { parent = parent_of value; created = field 0x08 8 value; modified = field 0x10 8 value; changed = field 0x18 8 value; read_at = field 0x20 8 value; allocated = field 0x28 8 value; real = field 0x30 8 value; flags = field 0x38 4 value; space = space_of value; name = units_of value }

-- the length comes before the shape
unfoldable pub file_name_fault : List ℕ → ValueFault
file_name_fault value = if has_name_length value then Shape else Length (length value)

-- the file name of these bytes, or what refuses them
unfoldable pub file_name_of : List ℕ → Result FileNameValue ValueFault
file_name_of value = if is_file_name value then Ok (file_name_fields value) else Err (file_name_fault value)

-- these bytes are a value with these fields
pub record IsFileName (value : List ℕ) (f : FileNameValue) : Type 0 where
  pub size : length value ≡ 0x42 + 2 * length f.name
  pub parent : parent_of value ≡ f.parent
  pub created : field 0x08 8 value ≡ f.created
  pub modified : field 0x10 8 value ≡ f.modified
  pub changed : field 0x18 8 value ≡ f.changed
  pub read_at : field 0x20 8 value ≡ f.read_at
  pub allocated : field 0x28 8 value ≡ f.allocated
  pub real : field 0x30 8 value ≡ f.real
  pub flags : field 0x38 4 value ≡ f.flags
  pub name_length : field 0x40 1 value ≡ length f.name
  pub space : space_of value ≡ f.space
  pub space_known : f.space ≤ 3
  pub name : units_of value ≡ f.name
  pub lawful : IsName f.name

-- the value after the fields before the name are written
unfoldable pub name_head_over : FileNameValue → List ℕ → List ℕ
name_head_over f value =
    written 0x38 (spell 4 f.flags) (written 0x30 (spell 8 f.real) (written 0x28 (spell 8 f.allocated)
    (written 0x20 (spell 8 f.read_at) (written 0x18 (spell 8 f.changed) (written 0x10 (spell 8 f.modified) (written 0x08 (spell 8 f.created)
    (written 0x00 (spell 8 (packed f.parent)) value)))))))

-- the value after its fields are written
unfoldable pub file_name_over : FileNameValue → List ℕ → List ℕ
file_name_over f value = written 0x42 (unit_bytes f.name) (written 0x41 (spell 1 f.space) (written 0x40 (spell 1 (length f.name)) (name_head_over f value)))

pub record FitsFileName (f : FileNameValue) : Type 0 where
  pub number : f.parent.number < 2 ^ 48
  pub seq : f.parent.seq < 2 ^ 16
  pub created : f.created < 2 ^ 64
  pub modified : f.modified < 2 ^ 64
  pub changed : f.changed < 2 ^ 64
  pub read_at : f.read_at < 2 ^ 64
  pub allocated : f.allocated < 2 ^ 64
  pub real : f.real < 2 ^ 64
  pub flags : f.flags < 2 ^ 32
  pub space : f.space ≤ 3
  pub name : IsName f.name

-- ---- volume information: 08 major, 09 minor, 0A flags; at least 0C bytes

unfoldable pub volume_info_fields : List ℕ → VolumeInfo
volume_info_fields value = record { major = field 0x08 1 value; minor = field 0x09 1 value; flags = field 0x0A 2 value }

-- the volume information of these bytes, or what refuses them
unfoldable pub volume_info_of : List ℕ → Result VolumeInfo ValueFault
volume_info_of value = if nat_le 0x0C (length value) then Ok (volume_info_fields value) else Err (Length (length value))

-- these bytes are a value with these fields
pub record IsVolumeInfo (value : List ℕ) (info : VolumeInfo) : Type 0 where
  pub size : 0x0C ≤ length value
  pub major : field 0x08 1 value ≡ info.major
  pub minor : field 0x09 1 value ≡ info.minor
  pub flags : field 0x0A 2 value ≡ info.flags

-- the value after its fields are written
unfoldable pub volume_info_over : VolumeInfo → List ℕ → List ℕ
volume_info_over info value = written 0x0A (spell 2 info.flags) (written 0x09 (spell 1 info.minor) (written 0x08 (spell 1 info.major) value))

pub record FitsVolumeInfo (info : VolumeInfo) : Type 0 where
  pub major : info.major < 2 ^ 8
  pub minor : info.minor < 2 ^ 8
  pub flags : info.flags < 2 ^ 16

-- ---- the journal's limits: 00 maximum size, 08 allocation delta, 10 journal id, 18 lowest valid USN; at least 20 bytes

unfoldable pub journal_max_fields : List ℕ → JournalMax
journal_max_fields value = record { max = field 0x00 8 value; delta = field 0x08 8 value; id = field 0x10 8 value; lowest = field 0x18 8 value }

-- the limits of these bytes, or what refuses them
unfoldable pub journal_max_of : List ℕ → Result JournalMax ValueFault
journal_max_of value = if nat_le 0x20 (length value) then Ok (journal_max_fields value) else Err (Length (length value))

-- these bytes are a value with these fields
pub record IsJournalMax (value : List ℕ) (limits : JournalMax) : Type 0 where
  pub size : 0x20 ≤ length value
  pub maximum : field 0x00 8 value ≡ limits.max
  pub delta : field 0x08 8 value ≡ limits.delta
  pub id : field 0x10 8 value ≡ limits.id
  pub lowest : field 0x18 8 value ≡ limits.lowest

-- the value after its fields are written
unfoldable pub journal_max_over : JournalMax → List ℕ → List ℕ
journal_max_over limits value = written 0x18 (spell 8 limits.lowest) (written 0x10 (spell 8 limits.id) (written 0x08 (spell 8 limits.delta) (written 0x00 (spell 8 limits.max) value)))

pub record FitsJournalMax (limits : JournalMax) : Type 0 where
  pub maximum : limits.max < 2 ^ 64
  pub delta : limits.delta < 2 ^ 64
  pub id : limits.id < 2 ^ 64
  pub lowest : limits.lowest < 2 ^ 64
