-- The laws of the spelling of an index root.
use Rattle.std.specs.Prelude.{◌≡◌, ℕ, ◌+◌, ◌<◌, ◌^◌, List, length, Ok}
use Rattle.record_model.specs.declared.entry.Entry.{Entry}
use Rattle.record_model.specs.Nodes.{entries_length, root_at, IsRoot, FitsNode}
use Rattle.index_node.specs.Roots.{root_spelling, HaveSpelling, new_node}

-- the written spelling of entries is the value of a root that spells them, and is read again
pub record RootReadAgain : Type 0 where
  pub size : (clusters : ℕ) (entries : List Entry) → HaveSpelling entries → length (root_spelling clusters entries) ≡ 0x20 + entries_length entries
  pub spelled : (clusters : ℕ) (entries : List Entry) → HaveSpelling entries → IsRoot (root_spelling clusters entries) entries
  pub read : (clusters : ℕ) (entries : List Entry) → HaveSpelling entries → root_at (root_spelling clusters entries) ≡ Ok entries

-- entries that have a spelling have one in each block
abbrev pub SpelledInEachBlock : Type 0
SpelledInEachBlock = (vcn : ℕ) (entries : List Entry) → vcn < 2 ^ 64 → HaveSpelling entries → FitsNode (new_node vcn entries)
