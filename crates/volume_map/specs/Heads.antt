-- The heads of the records of a file table, and what they say with the bits of the records.
use Rattle.std.specs.Prelude.{ℕ, ◌-◌, ◌*◌, nat_le, Bool, false, List, length, map, Option, Some, None, if◌then◌else◌, slice_index_or}
use Rattle.std.specs.List.{range_with_len, filter_map}
use Rattle.volume_model.specs.host_base.declared.file_ref.FileRef.{FileRef}
use Rattle.stream_map.specs.disk_model.Content.{Content}
use Rattle.stream_map.specs.disk_model.declared.block.BlockKind.TheVariants.{FileRec}
use Rattle.volume_model.specs.bit_set.Bits.{bit}
use Rattle.state_model.specs.declared.stream.Extents.{Extents}
use Rattle.state_model.specs.Streams.{block_at}
use Rattle.state_model.specs.file_tree.Walks.{first_user_record}
use Rattle.state_model.specs.Rules.{implies}
use Rattle.state_model.specs.Loads.{is_used}
use Rattle.volume_model.specs.Volumes.{Volume, block_bytes, count_of, record_bytes}
use Rattle.volume_model.specs.Nodes.{spare_sequence}
use Rattle.volume_map.specs.declared.head.Head.{Head}

-- the head of a record with these bytes
unfoldable pub head_of : List ℕ → Head
head_of bytes = record { in_use = is_used bytes; sequence = spare_sequence bytes }

unfoldable pub head_at : Content → Volume → ℕ → Head
head_at c v n = head_of (record_bytes c v n)

-- the heads of all records, by number
unfoldable pub heads_of : Content → Volume → List Head
heads_of c v = map (head_at c v) (range_with_len 0 (count_of v))

-- the same by the clusters of the table: there is no record wholly past its initialised size
unfoldable pub table_head : Content → ℕ → Extents → ℕ → Head
table_head c per e n = head_of (block_bytes c (if nat_le e.initialised (1024 * n) then None else block_at per e.runs FileRec n))

-- the heads of the first so many records
unfoldable pub table_heads : Content → ℕ → Extents → ℕ → List Head
table_heads c per e count = map (table_head c per e) (range_with_len 0 count)

-- ---- by heads and bits

-- the head of a record that isn't there
abbrev pub no_head : Head
no_head = record { in_use = false; sequence = 1 }

abbrev pub head_in : List Head → ℕ → Head
head_in heads n = slice_index_or heads n no_head

-- the record isn't in use, or its bit is set
unfoldable pub keeps_head : List Head → List Bool → ℕ → Bool
keeps_head heads bits n = implies (head_in heads n).in_use (bit bits n)

-- the number with its sequence, where its bit is clear
unfoldable pub spare_of : List Head → List Bool → ℕ → Option FileRef
spare_of heads bits n = if bit bits n then None else Some (record { number = n; seq = (head_in heads n).sequence })

-- the numbers of users' records whose bit is clear, in order
abbrev pub spares_of : List Head → List Bool → List FileRef
spares_of heads bits = filter_map (spare_of heads bits) (range_with_len first_user_record (length heads - first_user_record))
