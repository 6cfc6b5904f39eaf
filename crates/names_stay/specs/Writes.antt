-- What a file that an operation writes or cuts leaves of the names of a volume.
use Rattle.std.specs.Prelude.{ℕ, List}
use Rattle.disk_model.specs.Content.{Content}
use Rattle.record_model.specs.Records.{Record}
use Rattle.file_tree.specs.declared.node.Node.{Node}
use Rattle.state_model.specs.declared.geometry.Geometry.{Geometry}
use Rattle.volume_model.specs.Volumes.{Volume, cluster_bits}
use Rattle.tree_model.specs.declared.script.Op.{Op}
use Rattle.plan_draft.specs.declared.touched.Touched.{Touched}
use Rattle.made_data.specs.data_plan.declared.change.DataChange.{DataChange}
use Rattle.made_data.specs.data_plan.Changes.{growth_of}
use Rattle.made_data.specs.Made.{record_with_data}
use Rattle.written_values.specs.file_puts.declared.streams.VolumeStreams.{VolumeStreams}
use Rattle.written_values.specs.file_puts.Written.{WritesBy, HasWritten}
use Rattle.same_names.specs.Names.{SameNames}

-- Where a draft has put what comes of a file's data, by its record or by that with data which is empty, and the operation is done, the files of the volume behind it have the names of before.
abbrev pub WritesKeepNames : Type 0
WritesKeepNames = (c : Content) (g : Geometry) (clusters : ℕ) (v : Volume) (s : VolumeStreams) (op : Op) (n stamp : ℕ) (a : Node) (r : Record) (change : DataChange) (new : List Touched) → WritesBy c g clusters v s op n stamp a r (record_with_data r) change new
    → (h : HasWritten c g clusters v op n stamp a (growth_of (cluster_bits c v) r op a) new) → SameNames v.files h.after.files
