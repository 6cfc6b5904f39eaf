-- What a call that writes or cuts a file comes to.
use Rattle.std.specs.Prelude.{◌≡◌, ℕ, ◌<◌, Bool, List, Option, IfSome, Result, OnOk, IfErr, not, count_by}
use Rattle.disk_model.specs.Content.{Content}
use Rattle.record_model.specs.Records.{Record}
use Rattle.file_tree.specs.declared.node.Node.{Node}
use Rattle.tree_model.specs.declared.script.Op.{Op}
use Rattle.space_model.specs.Choosing.{with_runs}
use Rattle.plan_draft.specs.declared.touched.Touched.{Touched}
use Rattle.written_clusters.specs.step_model.Placing.{more_of}
use Rattle.written_clusters.specs.data_plan.Changes.{growth_of}
use Rattle.file_writes.specs.file_puts.declared.streams.VolumeStreams.{VolumeStreams}
use Rattle.file_writes.specs.declared.fault.WriteFault.{WriteFault}
use Rattle.file_writes.specs.Faults.{IsShortOf, StaysWhereRefused}
use Rattle.file_changes.specs.Calls.{StepsFrom}
use Rattle.file_changes.specs.Written.{WrittenFrom}

-- From each state in which the operation is asked so it takes its step, and where it is done the file with this record is written by that one.
-- The bits of the clusters that it takes are set. Where fewer are clear than it takes it says so; and what is refused touches nothing.
pub record ChangesFile (content : Option Content) (s : VolumeStreams) (op : Op) (node : Node) (stamp : ℕ) (r by : Record) (before after : List Bool) (old new : List Touched) (result : Result (Unit {0}) WriteFault) : Type 0 where
  pub step : IfSome content (StepsFrom s op node stamp r before old new result)
  pub written : IfSome content (WrittenFrom s op node stamp r by before old new result)
  pub bits : OnOk result (after ≡ with_runs (growth_of before r op node).runs before)
  pub short : count_by not before < more_of (growth_of before r op node) → IsShortOf (count_by not before) result
  pub refused : IfErr result (StaysWhereRefused old new)
