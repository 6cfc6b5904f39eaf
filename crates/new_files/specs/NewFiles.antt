-- The record of a new file without bytes, and the key by which its directory's index has it.
use Rattle.std.specs.Prelude.{ℕ, ◌+◌, ◌*◌, List, [], ◌∷◌, length}
use Rattle.host_base.specs.declared.file_ref.FileRef.{FileRef}
use Rattle.disk_model.specs.Bytes.{zeros}
use Rattle.record_model.specs.declared.attribute.Attr.{Attr}
use Rattle.record_model.specs.declared.attribute.OwnForm.TheVariants.{Resident}
use Rattle.record_model.specs.declared.record.RecHead.{RecHead}
use Rattle.record_model.specs.declared.values.StdInfo.{StdInfo}
use Rattle.record_model.specs.declared.values.FileNameValue.{FileNameValue}
use Rattle.record_model.specs.Constants.{standard_information, file_name, data_type}
use Rattle.record_model.specs.Nodes.{no_file}
use Rattle.record_model.specs.Records.{Record}
use Rattle.record_model.specs.StdValues.{std_info_over, file_name_over}
use Rattle.file_tree.specs.declared.link.Link.{Link}
use Rattle.index_model.specs.declared.key.Key.{Key}

-- the flag of an archive, which a new file has alone
abbrev pub archive : ℕ
archive = 0x20

-- all four times are the stamp
abbrev pub new_info : ℕ → StdInfo
new_info stamp = record { created = stamp; modified = stamp; changed = stamp; read_at = stamp; flags = archive }

-- standard information of 72 bytes; those of no field are zeros
unfoldable pub new_info_value : ℕ → List ℕ
new_info_value stamp = std_info_over (new_info stamp) (zeros 0x48)

-- the file's one name, of POSIX, by the reference of its directory; sizes of a new file are 0
abbrev pub new_name : FileRef → List ℕ → ℕ → FileNameValue
new_name parent name stamp = record { parent = parent; created = stamp; modified = stamp; changed = stamp; read_at = stamp; allocated = 0; real = 0; flags = archive; space = 0; name = name }

unfoldable pub new_name_value : FileRef → List ℕ → ℕ → List ℕ
new_name_value parent name stamp = file_name_over (new_name parent name stamp) (zeros (0x42 + 2 * length name))

-- an attribute without a name, with its value in the record
abbrev pub unnamed : ℕ → ℕ → ℕ → List ℕ → Attr
unnamed id kind indexed value = record { head = record { kind = kind; flags = 0; id = id }; name = []; form = Resident value indexed }

-- standard information, the name, which an index lists, and data without bytes
unfoldable pub new_attrs : FileRef → List ℕ → ℕ → List Attr
new_attrs parent name stamp = unnamed 0 standard_information 0 (new_info_value stamp) ∷ unnamed 1 file_name 1 (new_name_value parent name stamp) ∷ unnamed 2 data_type 0 [] ∷ []

-- a base record in use with one name, and the LSN that its block had
abbrev pub new_head : ℕ → FileRef → RecHead
new_head lsn file = record { lsn = lsn; seq = file.seq; links = 1; flags = 1; base = no_file; next_id = 3; number = file.number }

-- the record of a new file with this reference, named so in this directory
unfoldable pub new_record : ℕ → FileRef → FileRef → List ℕ → ℕ → Record
new_record lsn file parent name stamp = record { head = new_head lsn file; attrs = new_attrs parent name stamp }

-- the entry's key has the bytes of the name's value
abbrev pub new_key : FileRef → FileRef → List ℕ → ℕ → Key
new_key file parent name stamp = record { child = file; value = new_name_value parent name stamp }

-- the file's link
abbrev pub link_in : FileRef → List ℕ → FileRef → Link
link_in parent name file = record { parent = parent; name = name; space = 0; child = file }
