-- The tree that a volume stands for, and what a check reports of it.
use Rattle.std.specs.Prelude.{◌≡◌, ℕ, List, [], Option, Some, None, Result, Ok, Err}
use Rattle.std.specs.Option.{option_map}
use Rattle.volume_model.specs.disk_model.Content.{Content}
use Rattle.volume_model.specs.file_tree.declared.node.Node.{Node}
use Rattle.volume_model.specs.file_tree.declared.journal.Journal.{Journal}
use Rattle.volume_model.specs.file_tree.declared.tree.Tree.{Tree}
use Rattle.volume_model.specs.state_model.declared.broken.Broken.{Broken}
use Rattle.volume_model.specs.state_model.declared.geometry.Geometry.{Geometry}
use Rattle.volume_model.specs.state_model.Trees.{all_links}
use Rattle.volume_model.specs.Volumes.{Volume, volume_of, files_by_number, count_of, upper_of}
use Rattle.volume_model.specs.Nodes.{all_nodes, bare_nodes, spare_numbers, free_clusters}
use Rattle.volume_state.specs.Journals.{journal_of, some_journal}
use Rattle.volume_state.specs.Rules.{first_broken}

-- the journal of a volume, if it has one
unfoldable pub volume_journal : Content → Volume → Option Journal
volume_journal c v = some_journal (journal_of c (upper_of c v) v)

-- a volume's tree with these nodes and this journal
unfoldable pub tree_with : Content → Volume → List Node → Option Journal → Tree
tree_with c v nodes journal = record {
  nodes = nodes;
  links = all_links (files_by_number v) (count_of v);
  spare = spare_numbers c v;
  count = count_of v;
  journal = journal;
  room = free_clusters c v;
}

-- the tree of a volume
unfoldable pub tree_of : Content → Volume → Tree
tree_of c v = tree_with c v (all_nodes c v) (volume_journal c v)

-- The volume stands for the tree: it breaks no rule, and the tree is its own.
pub record Holds (c : Content) (v : Volume) (t : Tree) : Type 0 where
  pub kept : first_broken c v ≡ None
  pub tree : t ≡ tree_of c v

-- A content stands for the tree, as that of a volume of this geometry and so many clusters: the volume is loaded from it, breaks none of
-- the nine rules, and the tree is the volume's.
pub record IsState (c : Content) (g : Geometry) (clusters : ℕ) (t : Tree) : Type 0 where
  pub volume : Volume
  pub loaded : volume_of c g clusters ≡ Ok volume
  pub holds : Holds c volume t

-- ---- what a check reports

abbrev pub without_records : Journal → Journal
without_records j = record { max = j.max; delta = j.delta; first = j.first; next = j.next; reach = j.reach; owned = j.owned; entries = [] }

-- the tree of a volume, without the bytes of its nodes and the records of its journal
unfoldable pub report_of : Content → Volume → Tree
report_of c v = tree_with c v (bare_nodes v) (option_map without_records (volume_journal c v))

abbrev pub reported : Content → Volume → Option Broken → Result Tree Broken
reported c v None = Ok (report_of c v)
reported c v (Some broken) = Err broken

-- what a check answers: the first rule that is broken, with its least number, or else the tree
unfoldable pub checked : Content → Volume → Result Tree Broken
checked c v = reported c v (first_broken c v)
