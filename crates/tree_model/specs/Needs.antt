-- How many clusters an operation on a file needs, part by part.
use Rattle.std.specs.Prelude.{ℕ, ◌+◌, ◌-◌, ◌*◌, ◌/◌, max, min, Bool, false, not, ◌&&◌, nat_lt, ◌==◌, if◌then◌else◌, length, Option, Some, None}
use Rattle.file_tree.specs.declared.node.Node.{Node}
use Rattle.file_tree.specs.declared.journal.Journal.{Journal}
use Rattle.file_tree.specs.declared.tree.Tree.{Tree}
use Rattle.tree_model.specs.declared.script.Op.{Op}
use Rattle.tree_model.specs.declared.script.Op.TheVariants as op

-- ---- sizes

-- where a write of so many bytes ends
abbrev pub end_of : ℕ → ℕ → ℕ
end_of offset count = offset + count

-- the size of a file after an operation that writes its bytes or its size
abbrev pub size_after : Op → Node → ℕ
size_after (op.Write path offset bytes) node = max node.size (end_of offset (length bytes))
size_after (op.Fill path offset count byte) node = max node.size (end_of offset count)
size_after (op.Truncate path size) node = size
size_after other node = node.size

-- a write of no bytes and a truncate to the same size change nothing
abbrev pub changes_file : Op → Node → Bool
changes_file (op.Write path offset bytes) node = nat_lt 0 (length bytes)
changes_file (op.Fill path offset count byte) node = nat_lt 0 count
changes_file (op.Truncate path size) node = not (size == node.size)
changes_file other node = false

-- a truncate to a lesser size
abbrev pub shrinks : Op → Node → Bool
shrinks (op.Truncate path size) node = nat_lt size node.size
shrinks other node = false

-- ---- parts

-- the clusters that so many bytes take
abbrev pub clusters_for : ℕ → ℕ
clusters_for size = (size + 4095) / 4096

-- by how many clusters a journal grows: those of its allocation delta, 2 at least and 256 at most
abbrev pub chunk_clusters : Journal → ℕ
chunk_clusters j = min 256 (max 2 (clusters_for j.delta))

-- a chunk where the journal comes to end past its allocated size
abbrev pub journal_part : Option Journal → ℕ → ℕ
journal_part None end = 0
journal_part (Some j) end = if nat_lt j.reach end then chunk_clusters j else 0

-- the clusters that a file of this size wants, and hasn't
abbrev pub bytes_part : Node → ℕ → ℕ
bytes_part node size = clusters_for size - node.clusters

-- for each name that comes or goes
abbrev pub names_part : ℕ → ℕ
names_part names = 18 * names

-- for 256 records more, where no number is spare
abbrev pub table_part : Tree → ℕ
table_part t = if length t.spare == 0 then 65 else 0

-- ---- their sum

-- What an operation on a file needs, of the node that its path names, or that of the directory for a new name; the journal comes to
-- end there. What changes nothing needs nothing.
abbrev pub needed : Tree → ℕ → Op → Node → ℕ
needed t end (op.Create path) node = journal_part t.journal end + names_part 1 + table_part t
needed t end other node = if changes_file other node then journal_part t.journal end + (if shrinks other node then 0 else bytes_part node (size_after other node)) else 0

-- What has to stay free besides, so that a file can always be cut or removed.
abbrev pub reserve : Op → Node → ℕ
reserve (op.Create path) node = 64
reserve other node = if changes_file other node && not (shrinks other node) then 64 else 0
