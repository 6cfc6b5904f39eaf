-- The root's index of a new volume: the names of the system files in order, all in one block.
use Rattle.std.specs.Prelude.{ℕ, List, [], ◌∷◌, ◌++◌, map, None}
use Rattle.record_model.specs.declared.entry.Entry.{Entry}
use Rattle.record_model.specs.Nodes.{Node, node_spelling, last_entry}
use Rattle.fixup_record.specs.Protecting.{protected_bytes}
use Rattle.volume_format.specs.declared.layout.Layout.{Layout}
use Rattle.volume_format.specs.Files.{reference, name_value, first_check}

-- The system files in the order of their names: $AttrDef, $BadClus, $Bitmap, $Boot, $Extend, $LogFile, $MFT, $MFTMirr,
-- $Secure, $UpCase, $Volume and the root itself.
abbrev pub in_order : List ℕ
in_order = 4 ∷ 8 ∷ 6 ∷ 7 ∷ 11 ∷ 2 ∷ 0 ∷ 1 ∷ 9 ∷ 10 ∷ 3 ∷ 5 ∷ []

abbrev pub entry_of : Layout → ℕ → ℕ → Entry
entry_of v time n = record { child = reference n; key = name_value v time n; down = None }

unfoldable pub root_entries : Layout → ℕ → List Entry
root_entries v time = map (entry_of v time) in_order ++ last_entry None ∷ []

abbrev pub root_node : Layout → ℕ → Node
root_node v time = record { vcn = 0; lsn = 0; entries = root_entries v time }

-- the block on the disk
unfoldable pub block_bytes : Layout → ℕ → List ℕ
block_bytes v time = protected_bytes (node_spelling (root_node v time)) first_check
