-- Edits of a node.
use Rattle.std.specs.Prelude.{ℕ, ◌+◌, List, [], ◌∷◌, ◌++◌, take, drop, insert, remove, slice_index_or, nat_le, Option, None, Result, Ok}
use Rattle.disk_model.specs.host_base.Answers.{◌>>=◌, needs}
use Rattle.record_model.specs.declared.entry.Entry.{Entry}
use Rattle.record_model.specs.Nodes.{Node, last_entry, node_used, node_room}

-- the node with other entries
abbrev pub with_entries : Node → List Entry → Node
with_entries n entries = record { vcn = n.vcn; lsn = n.lsn; entries = entries }

-- the node after an entry was put before the one at a place; refused with its used bytes where they are above the room
abbrev pub inserted : Node → ℕ → Entry → Result Node ℕ
inserted n at e =
    needs (nat_le (node_used (insert n.entries at e)) node_room) (node_used (insert n.entries at e))
    >>= λ _. Ok (with_entries n (insert n.entries at e))

-- the node without the entry at a place
abbrev pub without_entry : Node → ℕ → Node
without_entry n at = with_entries n (remove n.entries at)

-- the child before the entry at a place
abbrev pub down_at : List Entry → ℕ → Option ℕ
down_at entries at = (slice_index_or entries at (last_entry None)).down

-- the entries before a place, and then the child of the one there
abbrev pub left_entries : List Entry → ℕ → List Entry
left_entries entries at = take at entries ++ last_entry (down_at entries at) ∷ []

-- the left half of a node that is cut at an entry; it has no block yet
abbrev pub left_half : Node → ℕ → Node
left_half n at = record { vcn = 0; lsn = 0; entries = left_entries n.entries at }

-- the right half, which stays in the node's block: the entries behind the one that is cut at
abbrev pub right_half : Node → ℕ → Node
right_half n at = with_entries n (drop (at + 1) n.entries)
