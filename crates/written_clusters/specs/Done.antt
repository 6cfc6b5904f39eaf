-- An operation that has written a file, or made it longer, whose data stands in clusters then, is done.
use Rattle.std.specs.Prelude.{◌≡◌, ℕ, ◌≤◌, not, false, List, count_by}
use Rattle.disk_model.specs.Content.{Content}
use Rattle.record_model.specs.Records.{Record}
use Rattle.file_tree.specs.declared.node.Node.{Node}
use Rattle.state_model.specs.declared.geometry.Geometry.{Geometry}
use Rattle.written_values.specs.volume_model.Volumes.{Volume, cluster_bits}
use Rattle.tree_model.specs.declared.script.Op.{Op}
use Rattle.tree_model.specs.Needs.{shrinks}
use Rattle.plan_draft.specs.declared.touched.Touched.{Touched}
use Rattle.written_values.specs.resized_streams.declared.resized.Resized.{Resized}
use Rattle.written_values.specs.step_model.Placing.{more_of}
use Rattle.written_values.specs.data_plan.declared.change.DataChange.TheVariants as change
use Rattle.written_values.specs.data_plan.Changes.{growth_of}
use Rattle.written_values.specs.file_puts.declared.streams.VolumeStreams.{VolumeStreams}
use Rattle.written_values.specs.file_puts.Written.{WritesFile, HasWritten}

-- so many clusters are clear as the file's data comes to take
abbrev pub HasClusters : Content → Volume → Op → Node → Record → Type 0
HasClusters c v op a r = more_of (growth_of (cluster_bits c v) r op a) ≤ count_by not (cluster_bits c v)

-- Data that is longer in the clusters that it had.
abbrev pub LongerIsDone : Type 0
LongerIsDone = (c : Content) (g : Geometry) (clusters : ℕ) (v : Volume) (s : VolumeStreams) (op : Op) (n stamp : ℕ) (a : Node) (r : Record) (z : Resized) (new : List Touched) → shrinks op a ≡ false → HasClusters c v op a r
    → WritesFile c g clusters v s op n stamp a r (change.Sized z) new → HasWritten c g clusters v op n stamp a (growth_of (cluster_bits c v) r op a) new

-- Data that takes clusters behind its own.
abbrev pub GrowthIsDone : Type 0
GrowthIsDone = (c : Content) (g : Geometry) (clusters : ℕ) (v : Volume) (s : VolumeStreams) (op : Op) (n stamp : ℕ) (a : Node) (r : Record) (z : Resized) (new : List Touched) → HasClusters c v op a r → WritesFile c g clusters v s op n stamp a r (change.Grows z) new
    → HasWritten c g clusters v op n stamp a (growth_of (cluster_bits c v) r op a) new

-- A value that leaves its record for clusters.
abbrev pub LeavingIsDone : Type 0
LeavingIsDone = (c : Content) (g : Geometry) (clusters : ℕ) (v : Volume) (s : VolumeStreams) (op : Op) (n stamp : ℕ) (a : Node) (r : Record) (z : Resized) (new : List Touched) → HasClusters c v op a r
    → WritesFile c g clusters v s op n stamp a r (change.Leaves z) new → HasWritten c g clusters v op n stamp a (growth_of (cluster_bits c v) r op a) new
