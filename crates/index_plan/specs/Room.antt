-- Whether nodes have room in their blocks.
use Rattle.std.specs.Prelude.{ℕ, ◌+◌, ◌<◌, ◌≤◌, List, length, All, nat_lt, Bool, [], ◌∷◌}
use Rattle.record_model.specs.declared.entry.Entry.{Entry as Raw}
use Rattle.record_model.specs.Nodes.{entries_length, node_used, node_room}
use Rattle.index_model.specs.Trees.{one_if}
use Rattle.index_plan.specs.declared.write.Write.{Write}
use Rattle.index_plan.specs.Plans.{Spot}
use Rattle.index_plan.specs.Lists.{entry_at}

-- a key is at most as long as a file name's value may be
abbrev pub IsShort : Raw → Type 0
IsShort r = length r.key ≤ 576

-- each key is short, and each before the last is there
abbrev pub HasKeys : List Raw → Type 0
HasKeys raws = (i : ℕ) → i < length raws → IsShort (entry_at i raws) × (i + 1 < length raws → 0 < length (entry_at i raws).key)

-- The entries of a node that is read from a block: they have their keys, and all of them lie in the 4,072 bytes from the node
-- header on, which has 16 bytes of its own.
pub record Sized (raws : List Raw) : Type 0 where
  pub keys : HasKeys raws
  pub room : entries_length raws ≤ 4056

-- the entries of a root, which lies in a file record of 1,024 bytes
pub record RootSized (raws : List Raw) : Type 0 where
  pub keys : All IsShort raws
  pub room : entries_length raws ≤ 1024

-- each written node has room in its block
abbrev pub EachFits : List Write → Type 0
EachFits writes = All (λ w. node_used w.entries ≤ node_room) writes

abbrev pub EachSpotSized : List Spot → Type 0
EachSpotSized spots = All (λ s. Sized s.node) spots

abbrev pub EachNodeSized : List Write → Type 0
EachNodeSized nodes = All (λ w. Sized w.entries) nodes

-- whether a block with these entries has fewer than 600 free bytes
unfoldable pub is_tight : List Raw → Bool
is_tight raws = nat_lt node_room (node_used raws + 600)

-- how many nodes of a way have
abbrev pub tight_count : List Spot → ℕ
tight_count [] = 0
tight_count (s ∷ spots) = one_if (is_tight s.node) + tight_count spots
