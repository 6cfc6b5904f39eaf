-- Bytes of a file from a place on.
use Rattle.std.specs.Prelude.{ℕ, ◌-◌, ◌++◌, min, List, take, drop, replicate}
use Rattle.file_tree.specs.declared.node.Node.{Node}

-- so many bytes from a place on, and zeros behind the last one
unfoldable pub front_of : List ℕ → ℕ → ℕ → List ℕ
front_of bytes at count = take count (drop at bytes ++ replicate count 0)

-- of so many bytes from a place on, those that stand below a size
abbrev pub count_read : ℕ → ℕ → ℕ → ℕ
count_read size at count = min count (size - at)

-- what is read of a node from a place on: at most so many bytes, up to its size
abbrev pub bytes_read : Node → ℕ → ℕ → List ℕ
bytes_read node at count = front_of node.bytes at (count_read node.size at count)
