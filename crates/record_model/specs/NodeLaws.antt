-- The laws of index nodes: the table against the reader, and the written spelling against both.
use Rattle.std.specs.Prelude.{◌≡◌, ◌↔◌, ℕ, ◌-◌, ◌<◌, ◌≤◌, true, false, List, [], ◌∷◌, ◌++◌, length, take, drop, Ok, Err}
use Rattle.std.specs.List.{list_all, concat, AllByRecursion}
use Rattle.disk_model.specs.Numbers.{field}
use Rattle.disk_model.specs.Bytes.{AreBytes, part, zeros}
use Rattle.disk_model.specs.Content.{is_signed}
use Rattle.disk_model.specs.Fixups.{array_at, array_count}
use Rattle.disk_model.specs.declared.block.BlockKind.TheVariants.{Index}
use Rattle.record_model.specs.declared.entry.Entry.{Entry}
use Rattle.record_model.specs.Nodes.{Node, first_entry, used_end, children_flag, has_node_header, entry_bytes, is_last, has_entry, has_flag, node_entries, entries_length, node_used, node_room, node_at, root_at, IsNode, IsRoot, node_spelling, FitsNode}

-- a body is read as a node exactly where it spells that node
abbrev pub NodeIsTable : Type 0
NodeIsTable = (body : List ℕ) (n : Node) → (node_at body ≡ Ok n) ↔ IsNode body n

-- a root's value is read as entries exactly where it spells them
abbrev pub RootIsTable : Type 0
RootIsTable = (value : List ℕ) (entries : List Entry) → (root_at value ≡ Ok entries) ↔ IsRoot value entries

-- a body spells at most one node, and a root's value at most one list of entries
pub record SpellsOneNode : Type 0 where
  pub node : (body : List ℕ) (n m : Node) → IsNode body n → IsNode body m → n ≡ m
  pub root : (value : List ℕ) (entries others : List Entry) → IsRoot value entries → IsRoot value others → entries ≡ others

-- the written spelling of a node is a body that spells it, and is read again
pub record NodeReadAgain : Type 0 where
  pub size : (n : Node) → FitsNode n → length (node_spelling n) ≡ 4096
  pub spelled : (n : Node) → FitsNode n → IsNode (node_spelling n) n
  pub read : (n : Node) → FitsNode n → node_at (node_spelling n) ≡ Ok n

-- a node that is read of bytes has a spelling, where it has room for it
abbrev pub ReadNodeFits : Type 0
ReadNodeFits = (body : List ℕ) (n : Node) → AreBytes body → node_at body ≡ Ok n → node_used n.entries ≤ node_room → FitsNode n

-- what is read of a node takes no more bytes as it is written
abbrev pub WrittenNoLonger : Type 0
WrittenNoLonger = (node : List ℕ) (entries : List Entry) → node_entries node ≡ Ok entries → entries_length entries ≤ used_end node - first_entry node

-- the written spelling begins INDX, and has the update sequence's array of nine words at 0x28, as zeros
pub record NodeIsBody : Type 0 where
  pub signed : (n : Node) → is_signed Index (node_spelling n) ≡ true
  pub place : (n : Node) → array_at (node_spelling n) ≡ 0x28
  pub count : (n : Node) → array_count (node_spelling n) ≡ 9
  pub array : (n : Node) → part 0x28 18 (node_spelling n) ≡ zeros 18

-- ---- rules

-- the own bytes of an entry before the last
pub record IsInner (s : List ℕ) : Type 0 where
  pub lawful : has_entry s ≡ true
  pub own_length : field 0x08 2 s ≡ length s
  pub before_last : is_last s ≡ false

-- entries before the last stand in order, and behind them the rest
pub record EntriesBefore (rest : List ℕ) (pieces : List (List ℕ)) (bytes : List ℕ) : Type 0 where
  pub placed : bytes ≡ concat pieces ++ rest
  pub each : AllByRecursion IsInner pieces

-- behind them stands a last entry, or too little for an entry, or one with its length or key at fault
abbrev pub BeginsWithLast : List ℕ → Type 0
BeginsWithLast rest = (0x10 ≤ length rest) × (has_entry rest ≡ true) × (is_last rest ≡ true)

abbrev pub IsTooShort : List ℕ → Type 0
IsTooShort rest = length rest < 0x10

abbrev pub HasEntryFault : List ℕ → Type 0
HasEntryFault rest = (0x10 ≤ length rest) × (has_entry rest ≡ false)

-- the least rule that a node's bytes break
pub data LeastBrokenRule (node : List ℕ) : ℕ → Type 0 where
  wrong_header : has_node_header node ≡ false → LeastBrokenRule node 3
  wrong_entry : has_node_header node ≡ true → (pieces : List (List ℕ)) (rest : List ℕ) → EntriesBefore rest pieces (entry_bytes node) → HasEntryFault rest → LeastBrokenRule node 4
  no_last_entry : has_node_header node ≡ true → (pieces : List (List ℕ)) (rest : List ℕ) → EntriesBefore rest pieces (entry_bytes node) → IsTooShort rest → LeastBrokenRule node 5
  wrong_flag : has_node_header node ≡ true → (pieces : List (List ℕ)) (rest : List ℕ) → EntriesBefore rest pieces (entry_bytes node) → BeginsWithLast rest → list_all (has_flag (children_flag node)) (pieces ++ take (field 0x08 2 rest) rest ∷ []) ≡ false → LeastBrokenRule node 6

-- the value of an index root has at least 0x10 bytes, the type of file names, the collation of names and blocks
-- of 4,096 bytes
abbrev pub BeginsRoot : List ℕ → Type 0
BeginsRoot value = (0x10 ≤ length value) × (field 0x00 4 value ≡ 0x30) × (field 0x04 4 value ≡ 1) × (field 0x08 4 value ≡ 4096)

-- A refusal of a node's entries is the least rule that is broken. The signature of a block comes before it as rule 1, and
-- what an index root begins with as rule 3.
pub record NodeRuleIsLeast : Type 0 where
  pub entries : (node : List ℕ) (rule : ℕ) → (node_entries node ≡ Err rule) ↔ LeastBrokenRule node rule
  pub signature : (body : List ℕ) → is_signed Index body ≡ false → node_at body ≡ Err 1
  pub body : (body : List ℕ) (rule : ℕ) → is_signed Index body ≡ true → (node_at body ≡ Err rule) ↔ LeastBrokenRule (drop 0x18 body) rule
  pub root_header : (value : List ℕ) → (BeginsRoot value → ⊥) → root_at value ≡ Err 3
  pub root : (value : List ℕ) (rule : ℕ) → BeginsRoot value → (root_at value ≡ Err rule) ↔ LeastBrokenRule (drop 0x10 value) rule
