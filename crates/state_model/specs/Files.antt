-- What each record in use of a file table stands for by itself: a file, its names, its standard information.
use Rattle.std.specs.Prelude.{ℕ, ◌/◌, ◌%◌, Bool, ◌&&◌, ◌==◌, if◌then◌else◌, List, [], find, Option, Some, None, Result, Ok, Err}
use Rattle.std.specs.List.{list_any, filter_map}
use Rattle.record_model.specs.host_base.declared.file_ref.FileRef.{FileRef}
use Rattle.record_model.specs.declared.attribute.OwnForm.{OwnForm}
use Rattle.record_model.specs.declared.attribute.OwnForm.TheVariants.{Resident, Mapped}
use Rattle.record_model.specs.declared.attribute.Attr.{Attr}
use Rattle.record_model.specs.declared.values.StdInfo.{StdInfo}
use Rattle.record_model.specs.declared.values.FileNameValue.{FileNameValue}
use Rattle.record_model.specs.declared.values.ValueFault.{ValueFault}
use Rattle.record_model.specs.StdValues.{std_info_of, file_name_of}
use Rattle.record_model.specs.Records.{Record}
use Rattle.record_model.specs.Constants.{standard_information, file_name}
use Rattle.file_tree.specs.declared.link.Link.{Link}
use Rattle.file_tree.specs.declared.node.Why.{Why}
use Rattle.file_tree.specs.declared.node.Why.TheVariants.{List as has_list, Reparse, Encrypted, Compressed, Sparse}

-- the record in use of each number, if there is one
abbrev pub Table : Type 0
Table = ℕ → Option Record

-- a base record's base reference is zero
abbrev pub is_base_record : Record → Bool
is_base_record r = r.head.base.number == 0 && r.head.base.seq == 0

abbrev pub only_base : Option Record → Option Record
only_base None = None
only_base (Some r) = if is_base_record r then Some r else None

-- the file with this number: a base record in use
unfoldable pub file_at : Table → ℕ → Option Record
file_at p n = only_base (p n)

abbrev pub reference : ℕ → Record → FileRef
reference n r = record { number = n; seq = r.head.seq }

-- the flag 2
abbrev pub is_directory_record : Record → Bool
is_directory_record r = r.head.flags / 2 % 2 == 1

-- ---- names

-- the link of a file by what was read of a name's value
abbrev pub named : FileRef → Result FileNameValue ValueFault → Option Link
named child (Ok f) = Some (record { parent = f.parent; name = f.name; space = f.space; child = child })
named child (Err fault) = None

abbrev pub form_link : FileRef → OwnForm → Option Link
form_link child (Resident value indexed) = named child (file_name_of value)
form_link child (Mapped sizes pairs) = None

-- the link of an attribute, if it is a file name
unfoldable pub attr_link : FileRef → Attr → Option Link
attr_link child a = if a.head.kind == file_name then form_link child a.form else None

-- the names of a record, in its order
unfoldable pub record_links : ℕ → Record → List Link
record_links n r = filter_map (attr_link (reference n r)) r.attrs

abbrev pub file_links : ℕ → Option Record → List Link
file_links n None = []
file_links n (Some r) = record_links n r

-- the names of a file
unfoldable pub links_at : Table → ℕ → List Link
links_at p n = file_links n (file_at p n)

-- ---- attributes

unfoldable pub has_type : ℕ → Record → Bool
has_type kind r = list_any (λ (a : Attr). a.head.kind == kind) r.attrs

abbrev pub no_info : StdInfo
no_info = record { created = 0; modified = 0; changed = 0; read_at = 0; flags = 0 }

abbrev pub info_or : Result StdInfo ValueFault → StdInfo
info_or (Ok info) = info
info_or (Err fault) = no_info

abbrev pub form_info : OwnForm → StdInfo
form_info (Resident value indexed) = info_or (std_info_of value)
form_info (Mapped sizes pairs) = no_info

abbrev pub attr_info : Option Attr → StdInfo
attr_info None = no_info
attr_info (Some a) = form_info a.form

-- the standard information of a record; one without it has no flags and times of zero
unfoldable pub info_of : Record → StdInfo
info_of r = attr_info (find (λ (a : Attr). a.head.kind == standard_information) r.attrs)

-- ---- what keeps a file from being read or changed

-- the flags of the unnamed data: 4000 encrypted, 0001 compressed, 8000 sparse
abbrev pub is_encrypted : ℕ → Bool
is_encrypted flags = flags / 0x4000 % 2 == 1

abbrev pub is_compressed : ℕ → Bool
is_compressed flags = flags % 2 == 1

abbrev pub is_sparse : ℕ → Bool
is_sparse flags = flags / 0x8000 % 2 == 1

-- the first that applies, by these tests of an attribute list, a reparse point and the flags
unfoldable pub why_by : Bool → Bool → ℕ → Option Why
why_by listed reparse flags =
    if listed then Some has_list else if reparse then Some Reparse else if is_encrypted flags then Some Encrypted else if is_compressed flags then Some Compressed else if is_sparse flags then Some Sparse else None
