-- An operation that writes or cuts a file without unnamed data, by the record of that file with data that is empty.
use Rattle.std.specs.Prelude.{◌≡◌, ℕ, ◌<◌, ◌^◌, false, List, length}
use Rattle.disk_model.specs.Content.{Content}
use Rattle.record_model.specs.Records.{Record}
use Rattle.file_tree.specs.declared.node.Node.{Node}
use Rattle.state_model.specs.declared.geometry.Geometry.{Geometry}
use Rattle.volume_model.specs.Volumes.{Volume, cluster_bits}
use Rattle.tree_model.specs.declared.script.Op.{Op}
use Rattle.plan_draft.specs.declared.touched.Touched.{Touched}
use Rattle.file_changes.specs.record_streams.Fitting.{FitsButRoom}
use Rattle.made_data.specs.data_plan.declared.change.DataChange.{DataChange}
use Rattle.made_data.specs.data_plan.Changes.{growth_of}
use Rattle.made_data.specs.Made.{made_record, has_data}
use Rattle.file_changes.specs.file_puts.declared.streams.VolumeStreams.{VolumeStreams}
use Rattle.file_changes.specs.file_puts.Written.{WritesBy, HasWritten}
use Rattle.file_changes.specs.written_clusters.Done.{HasClusters}

-- The draft has put what comes of the data of the file's record with data that is empty, where this record has no unnamed data, a spelling but
-- for its room, and fewer than 1,024 attributes.
pub record WritesMade (c : Content) (g : Geometry) (clusters : ℕ) (v : Volume) (s : VolumeStreams) (op : Op) (n stamp : ℕ) (a : Node) (r : Record) (change : DataChange) (new : List Touched) : Type 0 where
  pub puts : WritesBy c g clusters v s op n stamp a r (made_record r) change new
  pub none : has_data r ≡ false
  pub fits : FitsButRoom r
  pub short : length r.attrs < 2 ^ 10

-- Where as many clusters are clear as its data comes to take, what the draft has put leads to a state, and the operation has changed the tree
-- and left the content as the growth of the file without data says.
abbrev pub MadeIsDone : Type 0
MadeIsDone = (c : Content) (g : Geometry) (clusters : ℕ) (v : Volume) (s : VolumeStreams) (op : Op) (n stamp : ℕ) (a : Node) (r : Record) (what : DataChange) (new : List Touched) → HasClusters c v op a r
    → WritesMade c g clusters v s op n stamp a r what new → HasWritten c g clusters v op n stamp a (growth_of (cluster_bits c v) r op a) new
