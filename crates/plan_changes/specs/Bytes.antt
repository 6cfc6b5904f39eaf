-- The bytes that an operation on a file puts, so that the file has those of the operation.
use Rattle.std.specs.Prelude.{◌≡◌, ℕ, ◌+◌, ◌-◌, ◌<◌, ◌≤◌, max, min, ⊤, List, [], ◌++◌, length, replicate}
use Rattle.tree_model.specs.file_tree.declared.node.Node.{Node}
use Rattle.tree_model.specs.declared.script.Op.{Op}
use Rattle.tree_model.specs.declared.script.Op.TheVariants as op
use Rattle.tree_model.specs.Needs.{size_after}
use Rattle.tree_model.specs.Effects.{bytes_after, valid_after}
use Rattle.plan_informed.specs.plan_edits.Sizes.{put_over}

-- a write, or a truncate to a greater size
abbrev pub GrowsFile : Op → Node → Type 0
GrowsFile (op.Write path offset bytes) a = ⊤
GrowsFile (op.Fill path offset count byte) a = ⊤
GrowsFile (op.Truncate path size) a = a.size < size
GrowsFile other a = ⊥

-- where what it puts begins: at the offset, or at the end of what is initialised where this is before it
abbrev pub place_of : Op → Node → ℕ
place_of (op.Write path offset bytes) a = min offset a.valid
place_of (op.Fill path offset count byte) a = min offset a.valid
place_of other a = a.valid

-- zeros up to the offset, and the bytes that it brings
abbrev pub put_of : Op → Node → List ℕ
put_of (op.Write path offset bytes) a = replicate (offset - a.valid) 0 ++ bytes
put_of (op.Fill path offset count byte) a = replicate (offset - a.valid) 0 ++ replicate count byte
put_of (op.Truncate path size) a = replicate (size - a.valid) 0
put_of other a = []

-- the sizes of a node's bytes are lawful
pub record HasSizes (a : Node) : Type 0 where
  pub all : length a.bytes ≡ a.size
  pub valid : a.valid ≤ a.size

-- Put over the bytes of the node these are the bytes after the operation. They begin within what is initialised, and reach as far as what
-- is afterwards, and the size grows by them alone.
pub record BytesBrought : Type 0 where
  pub bytes : (op : Op) (a : Node) → HasSizes a → GrowsFile op a → put_over (place_of op a) (put_of op a) a.bytes ≡ bytes_after op a
  pub begins : (op : Op) (a : Node) → place_of op a ≤ a.valid
  pub valid : (op : Op) (a : Node) → HasSizes a → GrowsFile op a → valid_after op a ≡ max a.valid (place_of op a + length (put_of op a))
  pub size : (op : Op) (a : Node) → HasSizes a → GrowsFile op a → size_after op a ≡ max a.size (place_of op a + length (put_of op a))
