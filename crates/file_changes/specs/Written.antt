-- A call that writes or cuts a file has written it, by what its draft has put.
use Rattle.std.specs.Prelude.{◌≡◌, ℕ, Bool, List, [], Result, OnOk}
use Rattle.disk_model.specs.Content.{Content}
use Rattle.record_model.specs.Records.{Record}
use Rattle.file_tree.specs.declared.node.Node.{Node}
use Rattle.state_model.specs.declared.geometry.Geometry.{Geometry}
use Rattle.written_clusters.specs.volume_model.Volumes.{Volume, cluster_bits}
use Rattle.tree_model.specs.declared.script.Op.{Op}
use Rattle.plan_draft.specs.declared.touched.Touched.{Touched}
use Rattle.written_clusters.specs.data_plan.declared.change.DataChange.{DataChange}
use Rattle.written_clusters.specs.data_plan.Changes.{growth_of}
use Rattle.file_writes.specs.file_puts.declared.streams.VolumeStreams.{VolumeStreams}
use Rattle.file_writes.specs.file_puts.Written.{WritesBy, HasWritten}
use Rattle.file_writes.specs.declared.fault.WriteFault.{WriteFault}
use Rattle.file_changes.specs.Calls.{IsAsked}

-- The bodies that the draft has put lead to a state as those of a plan do, and have changed the tree and left the content as a step says; they are
-- what comes of the data of this record.
pub record IsWritten (c : Content) (g : Geometry) (clusters : ℕ) (v : Volume) (s : VolumeStreams) (op : Op) (n stamp : ℕ) (a : Node) (r by : Record) (new : List Touched) : Type 0 where
  pub written : HasWritten c g clusters v op n stamp a (growth_of (cluster_bits c v) r op a) new
  pub change : DataChange
  pub puts : WritesBy c g clusters v s op n stamp a r by change new

-- From each state in which the operation is asked so, where the draft touched nothing before: done, the file is written so, by this record.
abbrev pub WrittenFrom : VolumeStreams → Op → Node → ℕ → (r by : Record) → List Bool → List Touched → List Touched → Result (Unit {0}) WriteFault → Content → Type 0
WrittenFrom s op node stamp r by bits old new result c =
    (g : Geometry) (clusters : ℕ) (v : Volume) (a : Node) → IsAsked c g clusters v s op node a r bits → old ≡ [] → OnOk result (IsWritten c g clusters v s op node.number stamp a r by new)
