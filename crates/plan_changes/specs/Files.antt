-- A file of which the bytes can be changed, and what its node shows of its record.
use Rattle.std.specs.Prelude.{◌≡◌, ℕ, [], Option, Some}
use Rattle.disk_model.specs.Content.{Content}
use Rattle.plan_informed.specs.record_model.declared.values.StdInfo.{StdInfo}
use Rattle.plan_informed.specs.record_model.Constants.{data_type}
use Rattle.plan_informed.specs.record_model.Records.{Record}
use Rattle.tree_model.specs.file_tree.declared.node.Kind.TheVariants.{File}
use Rattle.tree_model.specs.file_tree.declared.node.Node.{Node}
use Rattle.tree_model.specs.file_tree.Trees.{node_at as node_by_number}
use Rattle.plan_informed.specs.state_model.declared.stream.Stream.{Stream}
use Rattle.plan_informed.specs.state_model.Files.{info_of}
use Rattle.plan_informed.specs.state_model.Streams.{stream_of}
use Rattle.plan_informed.specs.volume_model.Volumes.{Volume, file_in, bytes_or, size_or}
use Rattle.plan_informed.specs.volume_model.Nodes.{kind_in, valid_or, clusters_or}
use Rattle.plan_informed.specs.volume_state.Trees.{tree_of}
use Rattle.plan_informed.specs.plan_model.Informed.{with_info, with_record, InfoDiffers}
use Rattle.plan_informed.specs.plan_growth.Trees.{with_data, TreeFollows}
use Rattle.plan_informed.specs.plan_values.Trees.{FileFollows}
use Rattle.plan_changes.specs.Nodes.{NodeBecomes}

-- the record and the node of a file of which the bytes can be read and changed
pub record IsChangeable (c : Content) (v : Volume) (n : ℕ) (r : Record) (a : Node) : Type 0 where
  pub file : file_in v n ≡ Some r
  pub node : node_by_number (tree_of c v).nodes n ≡ Some a
  pub kind : a.kind ≡ File

-- its unnamed data
abbrev pub own_data : Record → Option Stream
own_data r = stream_of data_type [] r.attrs

-- what its node shows: its unnamed data, and its standard information
pub record Shows (c : Content) (v : Volume) (n : ℕ) (r : Record) (a : Node) : Type 0 where
  pub number : a.number ≡ n
  pub kind : kind_in v n r ≡ File
  pub size : a.size ≡ size_or (own_data r)
  pub valid : a.valid ≡ valid_or (own_data r)
  pub clusters : a.clusters ≡ clusters_or (own_data r)
  pub bytes : a.bytes ≡ bytes_or c v.per (own_data r)
  pub flags : a.flags ≡ (info_of r).flags
  pub created : a.created ≡ (info_of r).created
  pub read_at : a.read_at ≡ (info_of r).read_at

-- the node with the data of this record
abbrev pub with_own : Content → Volume → Record → Node → Node
with_own d v s a = with_data (own_data s) (bytes_or d v.per (own_data s)) a

-- the record is put in the place of the file's: it is that of a file again, with this node
pub record Follows (c : Content) (v : Volume) (n : ℕ) (a : Node) (d : Content) (s : Record) (b : Node) : Type 0 where
  pub file : IsChangeable d (with_record v n s) n s b
  pub tree : NodeBecomes n a b (tree_of c v) (tree_of d (with_record v n s))

-- A node shows so, and has its own data. Where an edit changes the file's data, its standard information, or both, the file is one again with the new node.
pub record FilesShow : Type 0 where
  pub shows : (c : Content) (v : Volume) (n : ℕ) (r : Record) (a : Node) → IsChangeable c v n r a → Shows c v n r a
  pub itself : (c : Content) (v : Volume) (n : ℕ) (r : Record) (a : Node) → IsChangeable c v n r a → with_own c v r a ≡ a
  pub data_follows : (c d : Content) (v : Volume) (n : ℕ) (r s : Record) (a : Node) → IsChangeable c v n r a → TreeFollows c d v n r s → Follows c v n a d s (with_own d v s a)
  pub info_follows : (c d : Content) (v : Volume) (n : ℕ) (r s : Record) (info : StdInfo) (a : Node) → IsChangeable c v n r a → InfoDiffers n info (tree_of c v) (tree_of d (with_record v n s)) → Follows c v n a d s (with_info info a)
  pub both_follow : (c d : Content) (v : Volume) (n : ℕ) (r s : Record) (a : Node) → IsChangeable c v n r a → FileFollows c d v n r s → Follows c v n a d s (with_info (info_of s) (with_own d v s a))
