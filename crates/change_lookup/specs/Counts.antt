-- What the rows of a change ask of a tree beside its nodes and names.
use Rattle.std.specs.Prelude.{ℕ, [], Option, None}
use Rattle.std.specs.List.{cons_option}
use Rattle.host_base.specs.declared.file_ref.FileRef.{FileRef}
use Rattle.tree_lookup.specs.file_tree.declared.tree.Tree.{Tree}

-- a tree of nothing but its counts: the free clusters, the records, and the least spare number, if there is one
abbrev pub counts_of : ℕ → ℕ → Option FileRef → Tree
counts_of room count least = record {
  nodes = [];
  links = [];
  spare = cons_option least [];
  count = count;
  journal = None;
  room = room;
}
