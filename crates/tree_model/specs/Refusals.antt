-- What refuses an operation on a file: one list of rows, in the order of their numbers.
use Rattle.std.specs.Prelude.{ℕ, ◌+◌, ◌-◌, min, Bool, true, false, not, ◌&&◌, ◌||◌, ◌==◌, nat_lt, if◌then◌else◌, List, [], ◌∷◌, length, take, get_or, find, Option, Some, None, Result, Ok, Err}
use Rattle.std.specs.Option.{option_map}
use Rattle.file_tree.specs.declared.node.Kind.{Kind}
use Rattle.file_tree.specs.declared.node.Kind.TheVariants as kind
use Rattle.file_tree.specs.declared.node.Why.{Why}
use Rattle.file_tree.specs.declared.node.Why.TheVariants as why
use Rattle.file_tree.specs.declared.node.Node.{Node}
use Rattle.file_tree.specs.declared.link.Link.{Link}
use Rattle.file_tree.specs.declared.tree.Tree.{Tree}
use Rattle.file_tree.specs.Trees.{is_of, is_directory_kind, same_links}
use Rattle.file_tree.specs.Walks.{root, has_bad_part, passes_system}
use Rattle.tree_model.specs.declared.script.Op.{Op}
use Rattle.tree_model.specs.declared.script.Op.TheVariants as op
use Rattle.tree_model.specs.declared.reply.Reply.{Reply}
use Rattle.tree_model.specs.declared.reply.Reply.TheVariants as reply
use Rattle.tree_model.specs.Walks.{reached, reached_directory, bad_name}
use Rattle.tree_model.specs.Needs.{end_of, changes_file, shrinks, needed, reserve}

-- ---- rows

-- the first that applies
abbrev pub first_of : List (Option Reply) → Option Reply
first_of [] = None
first_of (None ∷ rows) = first_of rows
first_of (Some reply ∷ rows) = Some reply

abbrev pub where_so : Bool → Reply → Option Reply
where_so true reply = Some reply
where_so false reply = None

-- what refuses a walk, and the rows of the node that it leads to
abbrev pub from_there : Result Node Reply → (Node → List (Option Reply)) → List (Option Reply)
from_there (Ok node) rows = rows node
from_there (Err reply) rows = Some reply ∷ []

-- ---- a new name

-- the path of the directory in which a path's last part is made, and that part
abbrev pub parent_path : List (List ℕ) → List (List ℕ)
parent_path path = take (length path - 1) path

abbrev pub new_name : List (List ℕ) → List ℕ
new_name path = get_or path (length path - 1) []

-- `.` and `..`
abbrev pub is_dots : List ℕ → Bool
is_dots [] = false
is_dots (a ∷ []) = a == 0x2E
is_dots (a ∷ b ∷ []) = a == 0x2E && b == 0x2E
is_dots (a ∷ b ∷ c ∷ name) = false

-- `/`, a path with a part that is no name, and one that ends in `.` or `..`
unfoldable pub is_bad_new_path : List (List ℕ) → Bool
is_bad_new_path path = length path == 0 || has_bad_part path || is_dots (new_name path)

-- ---- files of the volume itself

-- the directory of a file's first name; a directory has all its names in one
unfoldable pub parent_of : List Link → ℕ → Option ℕ
parent_of links number = option_map (λ (l : Link). l.parent.number) (find (is_of number) links)

-- on the way up from a directory, of at most so many steps, stands one of the volume itself, other than the root
abbrev pub is_in_system : List Link → ℕ → ℕ → Bool
is_in_system links = passes_system (parent_of links)

abbrev pub is_system_kind : Kind → Bool
is_system_kind kind.System = true
is_system_kind other = false

-- a file says by its kind whether it is one of the volume itself, a directory by its way up
unfoldable pub is_system_node : List Node → List Link → Node → Bool
is_system_node nodes links node = if is_directory_kind node.kind then is_in_system links (length nodes) node.number else is_system_kind node.kind

-- ---- what a node is fixed by

-- no name comes into or goes from a directory with an attribute list or a reparse point
abbrev pub fixed_names : Option Why → Option Reply
fixed_names (Some why.List) = Some (reply.FixedBy why.List)
fixed_names (Some why.Reparse) = Some (reply.FixedBy why.Reparse)
fixed_names other = None

-- the bytes and the size of a file change only where nothing fixes it
abbrev pub fixed_bytes : Option Why → Option Reply
fixed_bytes None = None
fixed_bytes (Some why) = Some (reply.FixedBy why)

-- the bytes of a file aren't those of its data where it is a reparse point, encrypted or compressed; there a list fixes them too
abbrev pub fixed_list : Kind → Option Reply
fixed_list kind.Opaque = Some (reply.FixedBy why.List)
fixed_list other = None

abbrev pub fixed_read : Option Why → Kind → Option Reply
fixed_read (Some why.List) k = fixed_list k
fixed_read (Some why.Reparse) k = Some (reply.FixedBy why.Reparse)
fixed_read (Some why.Encrypted) k = Some (reply.FixedBy why.Encrypted)
fixed_read (Some why.Compressed) k = Some (reply.FixedBy why.Compressed)
fixed_read other k = None

-- ---- bounds

-- the most bytes that an operation writes, those of a gap among them
abbrev pub most_written : ℕ
most_written = 65536

-- the most records of a file table, and how many it grows by
abbrev pub most_records : ℕ
most_records = 1048576

abbrev pub more_records : ℕ
more_records = 256

-- from where on bytes have to be written so that a file ends at this place
abbrev pub written_from : Op → Node → ℕ
written_from (op.Write path offset bytes) node = min offset node.valid
written_from (op.Fill path offset count byte) node = min offset node.valid
written_from other node = node.valid

-- where they end
abbrev pub written_to : Op → Node → ℕ
written_to (op.Write path offset bytes) node = end_of offset (length bytes)
written_to (op.Fill path offset count byte) node = end_of offset count
written_to (op.Truncate path size) node = size
written_to other node = 0

abbrev pub too_long : Op → Node → Option Reply
too_long op node = where_so (not (shrinks op node) && nat_lt most_written (written_to op node - written_from op node)) (reply.TooLong (written_to op node))

abbrev pub table_full : Tree → Option Reply
table_full t = where_so (length t.spare == 0 && nat_lt most_records (t.count + more_records)) (reply.MftFull t.count)

abbrev pub no_space : Tree → ℕ → Option Reply
no_space t wanted = where_so (nat_lt t.room wanted) (reply.NoSpace t.room wanted)

-- ---- the rows of an operation

-- a directory has a link of the same name
unfoldable pub has_same_name : List ℕ → List Link → ℕ → List ℕ → Bool
has_same_name upper links directory name = nat_lt 0 (length (same_links upper links directory name))

-- rows of a name that is made in this directory, behind the walk
abbrev pub create_rows : List ℕ → Tree → ℕ → List (Option Reply) → Op → List ℕ → Node → List (Option Reply)
create_rows upper t end content op name directory =
    where_so (is_system_node t.nodes t.links directory) reply.System
    ∷ fixed_names directory.why
    ∷ where_so (has_same_name upper t.links directory.number name) reply.Exists
    ∷ table_full t
    ∷ no_space t (needed t end op directory + reserve op directory)
    ∷ content

-- rows of a read of this node, behind the walk
abbrev pub read_rows : List Node → List Link → Node → List (Option Reply)
read_rows nodes links node =
    where_so (is_directory_kind node.kind) reply.IsDirectory
    ∷ where_so (is_system_node nodes links node) reply.System
    ∷ fixed_read node.why node.kind
    ∷ []

-- rows of a change of this file's bytes or size; one that changes nothing needs nothing
abbrev pub change_rows : Tree → ℕ → List (Option Reply) → Op → Node → List (Option Reply)
change_rows t end content op node =
    where_so (is_directory_kind node.kind) reply.IsDirectory
    ∷ where_so (is_system_node t.nodes t.links node) reply.System
    ∷ fixed_bytes node.why
    ∷ (if changes_file op node then too_long op node ∷ no_space t (needed t end op node + reserve op node) ∷ content else [])

-- What may refuse an operation that makes, writes or cuts a file. A journal comes to end there; the last rows, on full records and deep
-- indexes, are those of the content.
abbrev pub file_refusals : List ℕ → Tree → ℕ → List (Option Reply) → Op → List (Option Reply)
file_refusals upper t end content (op.Create path) =
    where_so (is_bad_new_path path) reply.BadName
    ∷ from_there (reached_directory upper t.nodes t.links (parent_path path)) (create_rows upper t end content (op.Create path) (new_name path))
file_refusals upper t end content (op.Write path offset bytes) = bad_name path ∷ from_there (reached upper t.nodes t.links path) (change_rows t end content (op.Write path offset bytes))
file_refusals upper t end content (op.Fill path offset count byte) = bad_name path ∷ from_there (reached upper t.nodes t.links path) (change_rows t end content (op.Fill path offset count byte))
file_refusals upper t end content (op.Truncate path size) = bad_name path ∷ from_there (reached upper t.nodes t.links path) (change_rows t end content (op.Truncate path size))
file_refusals upper t end content other = []
