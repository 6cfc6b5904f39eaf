-- The tree of a volume where a user's file that is no directory is replaced.
use Rattle.std.specs.Prelude.{◌≡◌, ◌≢◌, ℕ, ◌≤◌, true, false, List, [], Option, Some, None}
use Rattle.std.specs.List.{cons_option}
use Rattle.volume_state.specs.disk_model.Content.{Content}
use Rattle.volume_state.specs.record_model.Records.{Record}
use Rattle.volume_state.specs.file_tree.declared.node.Node.{Node}
use Rattle.volume_state.specs.file_tree.declared.tree.Tree.{Tree}
use Rattle.volume_state.specs.state_model.Loads.{table_in}
use Rattle.volume_state.specs.file_tree.Walks.{first_user_record}
use Rattle.volume_state.specs.state_model.Rules.{keeps_1}
use Rattle.volume_state.specs.volume_model.Volumes.{Volume, file_in, bytes_or, cluster_bitmap, upper_of}
use Rattle.volume_state.specs.volume_model.Nodes.{node_at}
use Rattle.volume_state.specs.volume_model.Sizes.{keeps_sizes}
use Rattle.volume_state.specs.Rules.{broken_5, broken_6}
use Rattle.volume_state.specs.Trees.{Holds, tree_of}
use Rattle.stream_laws.specs.Frames.{SameBytesInSome}
use Rattle.stream_laws.specs.Replacing.{OneFileDiffers}
use Rattle.stream_laws.specs.Rewrites.{with_files}
use Rattle.tree_laws.specs.Keeping.{PartReplaced, KeepsNames, is_directory_file}
use Rattle.tree_laws.specs.Parts.{journal_number}
use Rattle.tree_laws.specs.Contents.{AgreeBut}

-- The file of a user with this number is replaced: it is no directory before and after, keeps its names and isn't the
-- journal's file. In the new content it keeps rules 1 and 4, and the volume keeps rules 5 and 6.
pub record ReplacesFile (c d : Content) (v : Volume) (files : List (Option Record)) (n : ℕ) : Type 0 where
  pub differs : OneFileDiffers n v.files files
  pub user : first_user_record ≤ n
  pub before : is_directory_file (file_in v n) ≡ false
  pub after : is_directory_file (file_in (with_files v files) n) ≡ false
  pub names : KeepsNames n (table_in v.files) (table_in files)
  pub apart : journal_number (upper_of c v) v ≢ Some n
  pub rule_1 : keeps_1 (table_in files) n ≡ true
  pub rule_4 : keeps_sizes d (with_files v files) n ≡ true
  pub rule_5 : broken_5 (with_files v files) ≡ None
  pub rule_6 : broken_6 d (with_files v files) ≡ None

-- the trees are the same, but for this node and how many clusters are free
pub record NodeDiffers (node new_node : Option Node) (t u : Tree) : Type 0 where
  pub nodes : PartReplaced (cons_option node []) (cons_option new_node []) t.nodes u.nodes
  pub links : u.links ≡ t.links
  pub spare : u.spare ≡ t.spare
  pub count : u.count ≡ t.count
  pub journal : u.journal ≡ t.journal

-- Then the volume stands for the tree from before with the node of this file replaced, in a content that agrees with the one
-- from before on what all other files show. As many clusters are free where the bits of the clusters stay.
pub record TreeReplaced : Type 0 where
  pub holds : (c d : Content) (v : Volume) (files : List (Option Record)) (n : ℕ) (t : Tree) → Holds c v t → AgreeBut n c d v → ReplacesFile c d v files n → Holds d (with_files v files) (tree_of d (with_files v files))
  pub tree : (c d : Content) (v : Volume) (files : List (Option Record)) (n : ℕ) (t : Tree) → Holds c v t → AgreeBut n c d v → ReplacesFile c d v files n
      → NodeDiffers (node_at (bytes_or c v.per) v n) (node_at (bytes_or d v.per) (with_files v files) n) t (tree_of d (with_files v files))
  pub room : (c d : Content) (v : Volume) (files : List (Option Record)) (n : ℕ) (t : Tree) → Holds c v t → ReplacesFile c d v files n → SameBytesInSome c d v.per (cluster_bitmap v) → (tree_of d (with_files v files)).room ≡ t.room
