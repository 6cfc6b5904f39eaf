-- What an index is: a tree of nodes over a content, whose keys stand in the order of names.
use Rattle.std.specs.Prelude.{◌≡◌, ℕ, ◌/◌, ◌%◌, ◌≤◌, Bool, true, not, ◌&&◌, ◌==◌, nat_lt, if◌then◌else◌, List, [], ◌∷◌, length, slice_get, Option, Some, None, Result, Ok, Err}
use Rattle.std.specs.List.{filter_map}
use Rattle.std.specs.Ordering.{is_gt}
use Rattle.state_model.specs.host_base.Answers.{◌>>=◌, needs}
use Rattle.state_model.specs.disk_model.declared.block.Block.{Block}
use Rattle.state_model.specs.disk_model.declared.block.BlockKind.TheVariants.{Index}
use Rattle.state_model.specs.disk_model.Numbers.{field}
use Rattle.state_model.specs.disk_model.Bodies.{BodyOf}
use Rattle.state_model.specs.disk_model.Content.{Content, is_signed}
use Rattle.state_model.specs.record_model.declared.entry.Entry.{Entry}
use Rattle.state_model.specs.record_model.StdValues.{file_name_of}
use Rattle.state_model.specs.record_model.Nodes.{Node, node_at}
use Rattle.state_model.specs.file_tree.declared.link.Link.{Link}
use Rattle.state_model.specs.file_tree.Names.{name_order}
use Rattle.state_model.specs.Files.{named}
use Rattle.index_model.specs.declared.key.Key.{Key}
use Rattle.index_model.specs.Trees.{Tree, walk, held, levels, raws_of, Stands}

-- ---- where the nodes lie

-- the blocks of an index in order; block i has the VCN i * step
pub record Place : Type 0 where
  pub blocks : List Block
  pub step : ℕ

-- the number of the block with this VCN
abbrev pub number_of : Place → ℕ → ℕ
number_of p v = if p.step == 0 then 0 else v / p.step

-- the block with this VCN; none where the VCN lies outside the allocation
unfoldable pub node_block : Place → ℕ → Option Block
node_block p v = if nat_lt 0 p.step && v % p.step == 0 then slice_get p.blocks (number_of p v) else None

abbrev pub entries_of_node : Result Node ℕ → Result (List Entry) ℕ
entries_of_node (Ok n) = Ok n.entries
entries_of_node (Err rule) = Err rule

abbrev pub is_index_body : BodyOf → Bool
is_index_body b = length b.bytes == 4096 && not b.torn && is_signed Index b.bytes

-- The entries of the node with this VCN in a block's body, or the first rule that it breaks: 1 where it is torn, isn't signed
-- or is no index block, 2 where it has another VCN, and then those of its entries.
unfoldable pub node_of_body : ℕ → BodyOf → Result (List Entry) ℕ
node_of_body v b =
    needs (is_index_body b) 1
    >>= λ _. needs (field 0x10 8 b.bytes == v) 2
    >>= λ _. entries_of_node (node_at b.bytes)

abbrev pub node_of_part : Content → ℕ → Option Block → Result (List Entry) ℕ
node_of_part c v None = Err 7
node_of_part c v (Some b) = node_of_body v (c b)

-- the entries of the node with this VCN in a content, or the first rule that it breaks; 7 outside the allocation
unfoldable pub node_of_block : Content → Place → ℕ → Result (List Entry) ℕ
node_of_block c p v = node_of_part c v (node_block p v)

abbrev pub some_entries : Result (List Entry) ℕ → Option (List Entry)
some_entries (Ok entries) = Some entries
some_entries (Err rule) = None

-- the nodes that lie in a content
abbrev pub nodes_of : (ℕ → Result (List Entry) ℕ) → ℕ → Option (List Entry)
nodes_of read v = some_entries (read v)

-- ---- the links of keys

-- the link that an entry holds; the last one holds none
unfoldable pub entry_link : Entry → Option Link
entry_link e = named e.child (file_name_of e.key)

-- the link that a key stands for
unfoldable pub key_link : Key → Option Link
key_link k = named k.child (file_name_of k.value)

-- the links of keys, in their order
abbrev pub links_of : List Key → List Link
links_of keys = filter_map key_link keys

-- ---- the order of keys

-- the first link doesn't stand behind the second one by the order of names
abbrev pub precedes : List ℕ → Link → Link → Bool
precedes upper l m = not (is_gt (name_order upper l.name m.name))

-- each link stands before the next one, or their names have equal units
abbrev pub rises : List ℕ → List Link → Bool
rises upper [] = true
rises upper (l ∷ []) = true
rises upper (l ∷ m ∷ links) = precedes upper l m && rises upper (m ∷ links)

-- ---- an index

-- the most nodes on a way from the root, the root counted
abbrev pub most_levels : ℕ
most_levels = 16

-- the nodes and the root stand for this tree, which is an index: no node hangs at two places, no way is too long, and the
-- keys stand in the order of names
pub record IsIndex (nodes : ℕ → Option (List Entry)) (root : List Entry) (upper : List ℕ) (t : Tree) : Type 0 where
  pub root_is : root ≡ raws_of t
  pub stands : Stands nodes t
  pub once : (v : ℕ) → held v t ≤ 1
  pub height : levels t ≤ most_levels
  pub ordered : rises upper (links_of (walk t)) ≡ true
