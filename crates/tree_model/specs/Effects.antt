-- What an operation on a file leaves of a tree, by look-up.
use Rattle.std.specs.Prelude.{◌≡◌, ℕ, ◌+◌, ◌-◌, ◌≤◌, max, min, Bool, true, false, nat_lt, ◌==◌, if◌then◌else◌, List, [], ◌∷◌, ◌++◌, length, take, drop, map, find, replicate, Option, Some, None}
use Rattle.std.specs.List.{range_with_len}
use Rattle.std.specs.List.Sorted.{IsPermutation}
use Rattle.file_tree.specs.host_base.declared.file_ref.FileRef.{FileRef}
use Rattle.file_tree.specs.declared.node.Kind.TheVariants.{File}
use Rattle.file_tree.specs.declared.node.Node.{Node}
use Rattle.file_tree.specs.declared.link.Link.{Link}
use Rattle.file_tree.specs.declared.tree.Tree.{Tree}
use Rattle.file_tree.specs.Trees.{node_at}
use Rattle.tree_model.specs.declared.script.Op.{Op}
use Rattle.tree_model.specs.declared.script.Op.TheVariants as op
use Rattle.tree_model.specs.Needs.{end_of, size_after, shrinks, clusters_for}
use Rattle.file_tree.specs.Walks.{first_user_record}
use Rattle.tree_model.specs.Refusals.{more_records}

-- ---- a tree, by look-up

abbrev pub has_ref_number : ℕ → FileRef → Bool
has_ref_number number ref = ref.number == number

-- the reference with this number, if there is one
unfoldable pub ref_at : List FileRef → ℕ → Option FileRef
ref_at refs number = find (has_ref_number number) refs

-- The tree has these nodes, spare numbers, names and count, and the journal that there was; its room has fallen by at most so many
-- clusters.
pub record IsTreeOf (nodes : ℕ → Option Node) (spares : ℕ → Option FileRef) (names : List Link) (records : ℕ) (old : Tree) (most : ℕ) (t : Tree) : Type 0 where
  pub node : (number : ℕ) → node_at t.nodes number ≡ nodes number
  pub spare : (number : ℕ) → ref_at t.spare number ≡ spares number
  pub links : IsPermutation names t.links
  pub count : t.count ≡ records
  pub journal : t.journal ≡ old.journal
  pub room : old.room ≤ t.room + most

-- the nodes with this one at its number
abbrev pub with_node : Node → (ℕ → Option Node) → ℕ → Option Node
with_node new nodes number = if number == new.number then Some new else nodes number

-- ---- nodes that change

-- a node with these bytes, of which so many are initialised, and this many clusters, changed at this time
unfoldable pub changed_node : Node → List ℕ → ℕ → ℕ → ℕ → ℕ → Node
changed_node node bytes size valid clusters stamp = record {
  number = node.number;
  seq = node.seq;
  kind = node.kind;
  why = node.why;
  held = node.held;
  size = size;
  valid = valid;
  clusters = clusters;
  bytes = bytes;
  flags = node.flags;
  created = node.created;
  modified = stamp;
  changed = stamp;
  read_at = node.read_at;
}

-- a directory whose names changed at this time
abbrev pub renewed : Node → ℕ → Node
renewed node stamp = changed_node node node.bytes node.size node.valid node.clusters stamp

-- a new file without bytes
unfoldable pub new_file : FileRef → ℕ → Node
new_file ref stamp = record {
  number = ref.number;
  seq = ref.seq;
  kind = File;
  why = None;
  held = false;
  size = 0;
  valid = 0;
  clusters = 0;
  bytes = [];
  flags = 0x20;
  created = stamp;
  modified = stamp;
  changed = stamp;
  read_at = stamp;
}

-- ---- bytes

-- the bytes that a write brings
abbrev pub written_bytes : Op → List ℕ
written_bytes (op.Write path offset bytes) = bytes
written_bytes (op.Fill path offset count byte) = replicate count byte
written_bytes other = []

-- the first initialised bytes, and zeros from there on up to a place
unfoldable pub zeros_up_to : List ℕ → ℕ → ℕ → List ℕ
zeros_up_to bytes valid place = take (min place valid) bytes ++ replicate (place - valid) 0

-- bytes at an offset; a gap before them is zeros, and what stood behind them stays
unfoldable pub put_at : List ℕ → ℕ → ℕ → List ℕ → List ℕ
put_at bytes valid offset more = zeros_up_to bytes valid offset ++ more ++ drop (end_of offset (length more)) bytes

abbrev pub bytes_after : Op → Node → List ℕ
bytes_after (op.Write path offset bytes) node = put_at node.bytes node.valid offset bytes
bytes_after (op.Fill path offset count byte) node = put_at node.bytes node.valid offset (replicate count byte)
bytes_after (op.Truncate path size) node = if nat_lt size node.size then take size node.bytes else zeros_up_to node.bytes node.valid size
bytes_after other node = node.bytes

-- how many bytes are initialised then
abbrev pub valid_after : Op → Node → ℕ
valid_after (op.Write path offset bytes) node = max node.valid (end_of offset (length bytes))
valid_after (op.Fill path offset count byte) node = max node.valid (end_of offset count)
valid_after (op.Truncate path size) node = if nat_lt size node.size then min node.valid size else size
valid_after other node = node.valid

-- ---- clusters

-- Whether the bytes stand in the record afterwards hangs on the record, which the tree doesn't tell; there they have no clusters. Bytes
-- that had left it stay out. Else what is cut off gives its clusters back, and what grows keeps those that it had.
abbrev pub clusters_after : Bool → Op → Node → ℕ
clusters_after true op node = 0
clusters_after false op node = if shrinks op node then clusters_for (size_after op node) else max node.clusters (clusters_for (size_after op node))

abbrev pub MayStand : Bool → Node → Type 0
MayStand true node = node.clusters ≡ 0
MayStand false node = Unit {0}

-- the file after a write or a truncate, its bytes in the record or not
abbrev pub file_after : Bool → Op → Node → ℕ → Node
file_after stands op node stamp = changed_node node (bytes_after op node) (size_after op node) (valid_after op node) (clusters_after stands op node) stamp

-- ---- new numbers

-- the numbers that come where none is spare, 256 from the count on; those of the volume itself are never spare
unfoldable pub new_numbers : ℕ → List FileRef
new_numbers count = map (λ number. record { number = number; seq = 1 }) (range_with_len (max first_user_record count) (count + more_records - max first_user_record count))

abbrev pub numbers_to_take : Tree → List FileRef
numbers_to_take t = if length t.spare == 0 then new_numbers t.count else t.spare

abbrev pub count_to_take : Tree → ℕ
count_to_take t = if length t.spare == 0 then t.count + more_records else t.count

-- the reference with the least number, the first of those
abbrev pub lesser_ref : FileRef → Option FileRef → FileRef
lesser_ref ref None = ref
lesser_ref ref (Some other) = if nat_lt other.number ref.number then other else ref

unfoldable pub least_ref : List FileRef → Option FileRef
least_ref [] = None
least_ref (ref ∷ refs) = Some (lesser_ref ref (least_ref refs))

-- ---- effects

-- a name in a directory, in the namespace of POSIX
abbrev pub new_link : Node → List ℕ → FileRef → Link
new_link directory name ref = record { parent = record { number = directory.number; seq = directory.seq }; name = name; space = 0; child = ref }

-- the tree with a new file of this name in this directory, at this number
abbrev pub HasCreated : Tree → ℕ → ℕ → Node → List ℕ → FileRef → Tree → Type 0
HasCreated t most stamp directory name ref t' =
    IsTreeOf (with_node (new_file ref stamp) (with_node (renewed directory stamp) (node_at t.nodes)))
    (λ number. if number == ref.number then None else ref_at (numbers_to_take t) number)
    (new_link directory name ref ∷ t.links) (count_to_take t) t most t'

-- the tree with this file written or cut, its bytes in the record or not
pub record HasChanged (t : Tree) (most : ℕ) (op : Op) (node : Node) (stamp : ℕ) (t' : Tree) : Type 0 where
  pub stands : Bool
  pub may_stand : MayStand stands node
  pub after : IsTreeOf (with_node (file_after stands op node stamp) (node_at t.nodes)) (ref_at t.spare) t.links t.count t most t'
