-- Parts of the spelling of a node.
use Rattle.std.specs.Prelude.{ℕ, ◌+◌, List, ◌++◌, length}
use Rattle.disk_model.specs.host_base.FileRefs.{packed}
use Rattle.disk_model.specs.Numbers.{spell}
use Rattle.disk_model.specs.Bytes.{zeros}
use Rattle.record_model.specs.declared.entry.Entry.{Entry}
use Rattle.record_model.specs.Nodes.{down_flag, last_flag}

-- the first 0x10 bytes of an entry of this length
unfoldable pub entry_head : Entry → ℕ → List ℕ
entry_head e n = spell 8 (packed e.child) ++ spell 2 n ++ spell 2 (length e.key) ++ spell 2 (down_flag e.down + last_flag e.key) ++ zeros 2
