-- A write of a value in its record, a cut, and a shorter size in the same clusters are done.
use Rattle.std.specs.Prelude.{◌≡◌, ℕ, true, List}
use Rattle.disk_model.specs.Content.{Content}
use Rattle.record_model.specs.Records.{Record}
use Rattle.file_tree.specs.declared.node.Node.{Node}
use Rattle.change_steps.specs.state_model.declared.geometry.Geometry.{Geometry}
use Rattle.change_steps.specs.volume_model.Volumes.{Volume, cluster_bits}
use Rattle.tree_model.specs.declared.script.Op.{Op}
use Rattle.tree_model.specs.Needs.{shrinks}
use Rattle.change_steps.specs.plan_draft.declared.touched.Touched.{Touched}
use Rattle.change_steps.specs.resized_streams.declared.resized.Resized.{Resized}
use Rattle.change_steps.specs.data_plan.declared.change.DataChange.TheVariants as change
use Rattle.change_steps.specs.data_plan.Changes.{growth_of}
use Rattle.change_steps.specs.file_puts.declared.streams.VolumeStreams.{VolumeStreams}
use Rattle.change_steps.specs.file_puts.Written.{WritesFile, HasWritten}

-- Where data stays in its record, and its value is put anew with the times, the operation is done.
abbrev pub ValuesAreDone : Type 0
ValuesAreDone = (c : Content) (g : Geometry) (clusters : ℕ) (v : Volume) (s : VolumeStreams) (op : Op) (n stamp : ℕ) (a : Node) (r : Record) (size : ℕ) (new : List Touched) → WritesFile c g clusters v s op n stamp a r (change.Stays size) new
    → HasWritten c g clusters v op n stamp a (growth_of (cluster_bits c v) r op a) new

-- So it is where data gets a lesser size in the clusters that it has.
abbrev pub ShorterAreDone : Type 0
ShorterAreDone = (c : Content) (g : Geometry) (clusters : ℕ) (v : Volume) (s : VolumeStreams) (op : Op) (n stamp : ℕ) (a : Node) (r : Record) (z : Resized) (new : List Touched) → shrinks op a ≡ true → WritesFile c g clusters v s op n stamp a r (change.Sized z) new
    → HasWritten c g clusters v op n stamp a (growth_of (cluster_bits c v) r op a) new

-- And where data is cut, and gives clusters back.
abbrev pub CutsAreDone : Type 0
CutsAreDone = (c : Content) (g : Geometry) (clusters : ℕ) (v : Volume) (s : VolumeStreams) (op : Op) (n stamp : ℕ) (a : Node) (r : Record) (z : Resized) (new : List Touched) → WritesFile c g clusters v s op n stamp a r (change.Cut z) new
    → HasWritten c g clusters v op n stamp a (growth_of (cluster_bits c v) r op a) new
