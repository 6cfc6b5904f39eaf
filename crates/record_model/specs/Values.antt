-- The values of attributes: standard information, file names.
use Rattle.std.specs.Prelude.{ℕ, ◌+◌, ◌*◌, ◌==◌, ◌&&◌, Bool, true, false, nat_le, List, length, is_ok, if◌then◌else◌}
use Rattle.disk_model.specs.host_base.declared.file_ref.FileRef.{FileRef}
use Rattle.disk_model.specs.host_base.FileRefs.{unpacked}
use Rattle.utf16_name.specs.Names.{name_of}
use Rattle.disk_model.specs.Numbers.{field}
use Rattle.record_model.specs.declared.attribute.OwnForm.{OwnForm}
use Rattle.record_model.specs.declared.attribute.OwnForm.TheVariants.{Resident, Mapped}
use Rattle.record_model.specs.declared.attribute.Attr.{Attr}
use Rattle.record_model.specs.Attributes.{units_at}
use Rattle.record_model.specs.Constants.{standard_information, file_name}

-- standard information has its first 0x30 bytes
unfoldable pub is_standard_information : List ℕ → Bool
is_standard_information value = nat_le 0x30 (length value)

-- the parent directory of a file-name value, its namespace and its units
unfoldable pub parent_of : List ℕ → FileRef
parent_of value = unpacked (field 0x00 8 value)

unfoldable pub space_of : List ℕ → ℕ
space_of value = field 0x41 1 value

unfoldable pub units_of : List ℕ → List ℕ
units_of value = units_at 0x42 (field 0x40 1 value) value

-- a file-name value has 0x42 bytes and its units
abbrev pub has_name_length : List ℕ → Bool
has_name_length value = nat_le 0x42 (length value) && length value == 0x42 + 2 * field 0x40 1 value

-- a file-name value: its length, a namespace of 0 to 3, and a lawful name
unfoldable pub is_file_name : List ℕ → Bool
is_file_name value = has_name_length value && nat_le (space_of value) 3 && is_ok (name_of (units_of value))

-- the value is resident and passes the test
abbrev pub is_resident_and : (List ℕ → Bool) → OwnForm → Bool
is_resident_and test (Resident value indexed) = test value
is_resident_and test (Mapped sizes pairs) = false

-- standard information and file names are resident and in shape; other attributes are free
unfoldable pub has_lawful_value : Attr → Bool
has_lawful_value a =
    if a.head.kind == standard_information then is_resident_and is_standard_information a.form
    else if a.head.kind == file_name then is_resident_and is_file_name a.form
    else true
