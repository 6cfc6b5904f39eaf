-- The spelling of an index root's value that is written.
use Rattle.std.specs.Prelude.{ℕ, ◌+◌, List, ◌++◌}
use Rattle.std.specs.List.{flat_map}
use Rattle.disk_model.specs.Numbers.{spell}
use Rattle.disk_model.specs.Bytes.{zeros}
use Rattle.record_model.specs.declared.entry.Entry.{Entry}
use Rattle.record_model.specs.Nodes.{Node, entry_spelling, entries_length, children_of, FitsNode}

-- the bytes from a root's node header to the end of its entries
unfoldable pub root_used : List Entry → ℕ
root_used entries = 0x10 + entries_length entries

-- The first 0x20 bytes: file names by the collation of names, over blocks of 4,096 bytes of so many clusters; and
-- the node header, with the first entry at 10 and no free bytes behind the used ones.
unfoldable pub root_head : ℕ → ℕ → ℕ → List ℕ
root_head clusters used flag =
    spell 4 0x30 ++ spell 4 1 ++ spell 4 4096 ++ (spell 1 clusters ++ zeros 3) ++ spell 4 0x10 ++ spell 4 used ++ spell 4 used ++ (spell 1 flag ++ zeros 3)

unfoldable pub root_spelling : ℕ → List Entry → List ℕ
root_spelling clusters entries = root_head clusters (root_used entries) (children_of entries) ++ flat_map entry_spelling entries

-- a node of these entries in a block that was never written
abbrev pub new_node : ℕ → List Entry → Node
new_node vcn entries = record { vcn = vcn; lsn = 0; entries = entries }

-- entries that have a spelling, also as those of a block
abbrev pub HaveSpelling : List Entry → Type 0
HaveSpelling entries = FitsNode (new_node 0 entries)
