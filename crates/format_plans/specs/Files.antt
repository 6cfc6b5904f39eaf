-- A file that is made in the root of a new volume, with the first number for new files: its record, the root's, and the bodies that are put.
use Rattle.std.specs.Prelude.{ℕ, ◌+◌, ◌*◌, List, [], ◌∷◌, ◌++◌, map, length, None, codes}
use Rattle.disk_model.specs.Bytes.{zeros}
use Rattle.disk_model.specs.declared.block.BlockKind.TheVariants.{Plain, FileRec, Index}
use Rattle.record_model.specs.declared.attribute.OwnForm.TheVariants.{Resident}
use Rattle.record_model.specs.declared.attribute.Attr.{Attr}
use Rattle.record_model.specs.declared.entry.Entry.{Entry}
use Rattle.record_model.specs.declared.values.StdInfo.{StdInfo}
use Rattle.record_model.specs.declared.values.FileNameValue.{FileNameValue}
use Rattle.record_model.specs.Constants.{standard_information, file_name, data_type}
use Rattle.record_model.specs.Nodes.{Node, node_spelling, last_entry}
use Rattle.record_model.specs.Records.{Record, record_spelling}
use Rattle.record_model.specs.StdValues.{std_info_over, file_name_over}
use Rattle.file_tree.specs.declared.link.Link.{Link}
use Rattle.file_tree.specs.Walks.{first_user_record}
use Rattle.volume_format.specs.declared.layout.Layout.{Layout}
use Rattle.volume_format.specs.Layouts.{record_bits_first, table_first, block_first}
use Rattle.volume_format.specs.Files.{reference, resident, name_attribute, head_of, root_streams, system_attrs}
use Rattle.volume_format.specs.Indexes.{in_order, entry_of}
use Rattle.format_rules.specs.format_blocks.Blocks.{block}
use Rattle.plan_bodies.specs.Bodies.{NewBody}

-- ---- the file

abbrev pub title : List ℕ
title = codes "a"

abbrev pub title_link : Link
title_link = record { parent = reference 5; name = title; space = 0; child = reference first_user_record }

-- the fields of its name; 0x20 is archive
abbrev pub title_fields : ℕ → FileNameValue
title_fields stamp = record { parent = reference 5; created = stamp; modified = stamp; changed = stamp; read_at = stamp; allocated = 0; real = 0; flags = 0x20; space = 0; name = title }

unfoldable pub title_value : ℕ → List ℕ
title_value stamp = file_name_over (title_fields stamp) (zeros (0x42 + 2 * length title))

unfoldable pub titled : ℕ → Attr
titled stamp = record { head = record { kind = file_name; flags = 0; id = 1 }; name = []; form = Resident (title_value stamp) 1 }

-- standard information of 0x48 bytes
unfoldable pub information : StdInfo → Attr
information info = resident 0 standard_information [] (std_info_over info (zeros 0x48))

abbrev pub stamped : ℕ → StdInfo
stamped stamp = record { created = stamp; modified = stamp; changed = stamp; read_at = stamp; flags = 0x20 }

-- its record: an empty file
abbrev pub first_record : ℕ → Record
first_record stamp = record { head = head_of first_user_record 1 1 3; attrs = information (stamped stamp) ∷ titled stamp ∷ resident 2 data_type [] [] ∷ [] }

-- ---- the root

-- what it holds changed at this time
abbrev pub root_info : ℕ → ℕ → StdInfo
root_info time stamp = record { created = time; modified = stamp; changed = stamp; read_at = time; flags = 6 }

abbrev pub changed_root : Layout → ℕ → ℕ → Record
changed_root v time stamp = record { head = head_of 5 1 3 (length (system_attrs v time 5)); attrs = information (root_info time stamp) ∷ name_attribute v time 5 ∷ root_streams v }

abbrev pub title_entry : ℕ → Entry
title_entry stamp = record { child = reference first_user_record; key = title_value stamp; down = None }

-- the name stands behind those of the system files
unfoldable pub entries_with : Layout → ℕ → ℕ → List Entry
entries_with v time stamp = map (entry_of v time) in_order ++ title_entry stamp ∷ last_entry None ∷ []

abbrev pub node_with : Layout → ℕ → ℕ → Node
node_with v time stamp = record { vcn = 0; lsn = 0; entries = entries_with v time stamp }

-- ---- the bodies

-- the first sector of the bitmap of the file table: the bits of records 0 to 24 are set
unfoldable pub bits_with : List ℕ
bits_with = 0xFF ∷ 0xFF ∷ 0xFF ∷ 1 ∷ zeros 508

abbrev pub first_bodies : Layout → ℕ → ℕ → List NewBody
first_bodies v time stamp =
    record { block = block (8 * table_first + 2 * first_user_record) FileRec; bytes = record_spelling (first_record stamp) }
    ∷ record { block = block (8 * table_first + 10) FileRec; bytes = record_spelling (changed_root v time stamp) }
    ∷ record { block = block (8 * block_first v) Index; bytes = node_spelling (node_with v time stamp) }
    ∷ record { block = block (8 * record_bits_first) Plain; bytes = bits_with }
    ∷ []
