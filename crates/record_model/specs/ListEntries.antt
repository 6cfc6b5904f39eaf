-- The entries of an attribute list (Linux-NTFS documentation, "$ATTRIBUTE_LIST"): 00 type, 04 length, 06 name length in units,
-- 07 name offset, 08 first VCN, 10 reference of the record that holds the attribute, 18 id.
use Rattle.std.specs.Prelude.{◌≡◌, ℕ, zero, suc, ◌+◌, ◌*◌, ◌==◌, ◌&&◌, nat_le, Bool, true, false, if◌then◌else◌, List, [], ◌∷◌, length, take, drop}
use Rattle.disk_model.specs.host_base.FileRefs.{unpacked}
use Rattle.disk_model.specs.Numbers.{field}
use Rattle.record_model.specs.declared.list_entry.ListEntry.{ListEntry}
use Rattle.record_model.specs.Attributes.{units_at}

-- where the name ends; one of no units has no place
abbrev pub name_end : List ℕ → ℕ
name_end bytes = if field 0x06 1 bytes == 0 then 0 else field 0x07 1 bytes + 2 * field 0x06 1 bytes

-- the entry at the front of these bytes has room for its first 0x1A bytes and its name, and stays inside them
unfoldable pub has_entry : List ℕ → Bool
has_entry bytes = nat_le 0x1A (field 0x04 2 bytes) && nat_le (name_end bytes) (field 0x04 2 bytes) && nat_le (field 0x04 2 bytes) (length bytes)

unfoldable pub entry_of : List ℕ → ListEntry
entry_of bytes = record {
  kind = field 0x00 4 bytes;
  name = units_at (field 0x07 1 bytes) (field 0x06 1 bytes) bytes;
  id = field 0x18 2 bytes;
  first = field 0x08 8 bytes;
  holder = unpacked (field 0x10 8 bytes);
}

-- the entries up to the first that is at fault, and whether there is none
pub record ReadEntries : Type 0 where
  pub entries : List ListEntry
  pub whole : Bool

abbrev pub with_entry : ListEntry → ReadEntries → ReadEntries
with_entry e read = record { entries = e ∷ read.entries; whole = read.whole }

-- of so many entries at most
unfoldable pub entries_from : ℕ → List ℕ → ReadEntries
entries_from zero bytes = record { entries = []; whole = true }
entries_from (suc most) bytes =
    elim (nat_le (length bytes) 0) [
      | true ↦ record { entries = []; whole = true }
      | false ↦ elim (has_entry bytes) [
        | true ↦ with_entry (entry_of (take (field 0x04 2 bytes) bytes)) (entries_from most (drop (field 0x04 2 bytes) bytes))
        | false ↦ record { entries = []; whole = false }
      ]
    ]

-- the entries of an attribute list; each has at least one byte
unfoldable pub list_entries : List ℕ → ReadEntries
list_entries bytes = entries_from (length bytes) bytes
