-- A call that writes or cuts a file takes the step of the operation.
use Rattle.std.specs.Prelude.{◌≡◌, ℕ, Bool, true, List, [], length, Result, Ok, Err}
use Rattle.disk_model.specs.Content.{Content, HasSizes}
use Rattle.record_model.specs.Records.{Record}
use Rattle.file_tree.specs.declared.node.Node.{Node}
use Rattle.file_tree.specs.Trees.{without_bytes}
use Rattle.state_model.specs.declared.geometry.Geometry.{Geometry}
use Rattle.written_clusters.specs.volume_model.Volumes.{Volume, cluster_bits}
use Rattle.tree_model.specs.declared.script.Op.{Op}
use Rattle.tree_model.specs.declared.reply.Reply.TheVariants as reply
use Rattle.tree_model.specs.Needs.{changes_file}
use Rattle.written_clusters.specs.change_lookup.declared.found.Found.TheVariants.{File}
use Rattle.plan_draft.specs.declared.touched.Touched.{Touched}
use Rattle.plan_draft.specs.Drafts.{drafted}
use Rattle.written_clusters.specs.plan_changes.Files.{IsChangeable}
use Rattle.written_clusters.specs.step_model.Steps.{Step}
use Rattle.file_writes.specs.file_puts.declared.streams.VolumeStreams.{VolumeStreams}
use Rattle.file_writes.specs.file_puts.Written.{AreStreamsOf}
use Rattle.file_writes.specs.declared.fault.WriteFault.{WriteFault}
use Rattle.file_writes.specs.declared.fault.WriteFault.TheVariants.{Full, Short, Fault, Memory}
use Rattle.written_clusters.specs.change_steps.Found.{HasChange, Finds}
use Rattle.written_clusters.specs.change_steps.Changes.{change_reply}

-- In a state without a change journal the operation was found to change a file, which is the node with these bytes. The streams and the
-- bits are those of its volume.
pub record IsAsked (c : Content) (g : Geometry) (clusters : ℕ) (v : Volume) (s : VolumeStreams) (op : Op) (node a : Node) (r : Record) (bits : List Bool) : Type 0 where
  pub has : HasChange c g clusters v op
  pub finds : Finds c v op (File node true)
  pub bare : node ≡ without_bytes a
  pub file : IsChangeable c v node.number r a
  pub changes : changes_file op a ≡ true
  pub streams : AreStreamsOf v s
  pub of_volume : bits ≡ cluster_bits c v
  pub count : length bits ≡ clusters
  pub sized : HasSizes c

-- Done, the draft stands for the content of the step. A record that would be too full, a failure and want of memory are steps that leave the
-- content. Clusters never lack, since an operation for which they lack isn't found to change the file.
abbrev pub StepsTo : Result (Unit {0}) WriteFault → Content → Geometry → ℕ → Op → ℕ → List Touched → Type 0
StepsTo (Ok u) c g clusters op stamp new = Step g clusters op stamp (change_reply op) c (drafted new c)
StepsTo (Err (Full used)) c g clusters op stamp new = Step g clusters op stamp (reply.RecordFull used) c c
StepsTo (Err (Short room)) c g clusters op stamp new = ⊥
StepsTo (Err Fault) c g clusters op stamp new = Step g clusters op stamp reply.Fault c c
StepsTo (Err Memory) c g clusters op stamp new = Step g clusters op stamp reply.Memory c c

-- so it is from each state in which the operation is asked so, where the draft touched nothing before
abbrev pub StepsFrom : VolumeStreams → Op → Node → ℕ → Record → List Bool → List Touched → List Touched → Result (Unit {0}) WriteFault → Content → Type 0
StepsFrom s op node stamp r bits old new result c = (g : Geometry) (clusters : ℕ) (v : Volume) (a : Node) → IsAsked c g clusters v s op node a r bits → old ≡ [] → StepsTo result c g clusters op stamp new
