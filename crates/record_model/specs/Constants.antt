-- Words of the format: the types of attributes, the end mark, and the name of a directory's index (Linux-NTFS documentation,
-- "Attributes", "FILE Record" and "$INDEX_ROOT").
use Rattle.std.specs.Prelude.{ℕ, List, codes}

-- ---- the types of attributes

abbrev pub standard_information : ℕ
standard_information = 0x10

abbrev pub attribute_list : ℕ
attribute_list = 0x20

abbrev pub file_name : ℕ
file_name = 0x30

abbrev pub object_id : ℕ
object_id = 0x40

abbrev pub volume_name : ℕ
volume_name = 0x60

abbrev pub volume_information : ℕ
volume_information = 0x70

abbrev pub data_type : ℕ
data_type = 0x80

abbrev pub index_root : ℕ
index_root = 0x90

abbrev pub index_allocation : ℕ
index_allocation = 0xA0

abbrev pub bitmap_type : ℕ
bitmap_type = 0xB0

abbrev pub reparse_point : ℕ
reparse_point = 0xC0

-- ---- words beside them

-- what stands behind the last attribute of a record, in place of a type
abbrev pub end_mark : ℕ
end_mark = 0xFFFFFFFF

-- the name of the attributes of a directory's index
abbrev pub names_index : List ℕ
names_index = codes "$I30"
