-- The root and the node of a level more, as they are written.
use Rattle.std.specs.Prelude.{◌≡◌, ℕ, ◌<◌, ◌^◌, false, List, [], ◌∷◌, length, Some, Ok}
use Rattle.record_model.specs.declared.entry.Entry.{Entry as Raw}
use Rattle.record_model.specs.Nodes.{last_entry, node_spelling}
use Rattle.index_model.specs.Indexes.{node_of_body}
use Rattle.index_node.specs.Roots.{root_spelling, new_node, HaveSpelling}

-- A node of entries that have a spelling, which is written at a VCN, is a whole block that is read there as these entries. One entry alone with a child
-- has a spelling; as the value of a root it has 56 bytes.
pub record LevelsAreRead : Type 0 where
  pub node : (f : ℕ) (entries : List Raw) → f < 2 ^ 64 → HaveSpelling entries → node_of_body f (record { bytes = node_spelling (new_node f entries); torn = false }) ≡ Ok entries
  pub long : (f : ℕ) (entries : List Raw) → f < 2 ^ 64 → HaveSpelling entries → length (node_spelling (new_node f entries)) ≡ 4096
  pub root : (f : ℕ) → f < 2 ^ 64 → HaveSpelling (last_entry (Some f) ∷ [])
  pub size : (clusters f : ℕ) → f < 2 ^ 64 → length (root_spelling clusters (last_entry (Some f) ∷ [])) ≡ 56
