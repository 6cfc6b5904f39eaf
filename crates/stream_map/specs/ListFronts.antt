-- The front of the bytes that are left of an attribute list, and the entry that stands there.
use Rattle.std.specs.Prelude.{ℕ, ◌&&◌, nat_le, Bool, if◌then◌else◌, List, ◌++◌, take, Option, Some, None}
use Rattle.disk_model.specs.Numbers.{field}
use Rattle.disk_model.specs.Bytes.{zeros}
use Rattle.record_model.specs.ListEntries.{name_end, has_entry, entry_of}
use Rattle.stream_map.specs.declared.list_front.FirstEntry.{FirstEntry}

-- the first 0x300 bytes, filled up with zeros
unfoldable pub front_of : List ℕ → List ℕ
front_of bytes = take 0x300 (bytes ++ zeros 0x300)

-- a front begins with an entry of the bytes, where so many are left
unfoldable pub has_entry_in : List ℕ → ℕ → Bool
has_entry_in front left = nat_le 0x1A (field 0x04 2 front) && nat_le (name_end front) (field 0x04 2 front) && nat_le (field 0x04 2 front) left

-- the entry that these bytes begin with, and its length, if they begin with one
unfoldable pub first_entry : List ℕ → Option FirstEntry
first_entry bytes = if has_entry bytes then Some (record { entry = entry_of (take (field 0x04 2 bytes) bytes); length = field 0x04 2 bytes }) else None
