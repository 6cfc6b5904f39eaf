-- A write or a cut is done, whatever comes of the file's data.
use Rattle.std.specs.Prelude.{ℕ, List}
use Rattle.disk_model.specs.Content.{Content}
use Rattle.record_model.specs.Records.{Record}
use Rattle.file_tree.specs.declared.node.Node.{Node}
use Rattle.state_model.specs.declared.geometry.Geometry.{Geometry}
use Rattle.written_clusters.specs.volume_model.Volumes.{Volume, cluster_bits}
use Rattle.tree_model.specs.declared.script.Op.{Op}
use Rattle.plan_draft.specs.declared.touched.Touched.{Touched}
use Rattle.written_clusters.specs.data_plan.declared.change.DataChange.{DataChange}
use Rattle.written_clusters.specs.data_plan.Changes.{growth_of}
use Rattle.file_writes.specs.file_puts.declared.streams.VolumeStreams.{VolumeStreams}
use Rattle.file_writes.specs.file_puts.Written.{WritesFile, HasWritten}
use Rattle.written_clusters.specs.Done.{HasClusters}

-- Where as many clusters are clear as the data comes to take, what the draft has put leads to a state, and the operation has changed the
-- tree and left the content as its growth says.
abbrev pub WritesAreDone : Type 0
WritesAreDone = (c : Content) (g : Geometry) (clusters : ℕ) (v : Volume) (s : VolumeStreams) (op : Op) (n stamp : ℕ) (a : Node) (r : Record) (what : DataChange) (new : List Touched) → HasClusters c v op a r
    → WritesFile c g clusters v s op n stamp a r what new → HasWritten c g clusters v op n stamp a (growth_of (cluster_bits c v) r op a) new
