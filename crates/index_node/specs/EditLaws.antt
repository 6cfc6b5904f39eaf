-- What an edit of a node that has a spelling leaves.
use Rattle.std.specs.Prelude.{◌≡◌, ℕ, ◌+◌, ◌<◌, ◌≤◌, length, insert}
use Rattle.record_model.specs.declared.entry.Entry.{Entry}
use Rattle.record_model.specs.Nodes.{Node, down_flag, children_of, node_used, node_room, FitsEntry, FitsNode}
use Rattle.index_node.specs.Edits.{with_entries, without_entry, left_half, right_half}

-- each edit of a node that has a spelling leaves one: an entry that fits and is put in before the last one, where there is
-- room; an entry before the last that is taken out; the halves of a node that is cut at such an entry
pub record EditsFit : Type 0 where
  pub put_in : (n : Node) (at : ℕ) (e : Entry) → FitsNode n → at < length n.entries → FitsEntry e → down_flag e.down ≡ children_of n.entries → node_used (insert n.entries at e) ≤ node_room → FitsNode (with_entries n (insert n.entries at e))
  pub taken_out : (n : Node) (at : ℕ) → FitsNode n → at + 1 < length n.entries → FitsNode (without_entry n at)
  pub left : (n : Node) (at : ℕ) → FitsNode n → at + 1 < length n.entries → FitsNode (left_half n at)
  pub right : (n : Node) (at : ℕ) → FitsNode n → at + 1 < length n.entries → FitsNode (right_half n at)
