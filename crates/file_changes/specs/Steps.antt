-- A write or a cut of a file that was found is a step of the content.
use Rattle.std.specs.Prelude.{◌≡◌, ℕ, true, List, None}
use Rattle.disk_model.specs.Content.{Content}
use Rattle.record_model.specs.Records.{Record}
use Rattle.file_tree.specs.declared.node.Node.{Node}
use Rattle.state_model.specs.declared.geometry.Geometry.{Geometry}
use Rattle.written_clusters.specs.volume_model.Volumes.{Volume, cluster_bits}
use Rattle.tree_model.specs.declared.script.Op.{Op}
use Rattle.written_clusters.specs.change_lookup.declared.found.Found.TheVariants.{File}
use Rattle.plan_draft.specs.declared.touched.Touched.{Touched}
use Rattle.plan_draft.specs.Drafts.{drafted}
use Rattle.written_clusters.specs.step_model.Steps.{Step}
use Rattle.written_clusters.specs.data_plan.declared.change.DataChange.{DataChange}
use Rattle.written_clusters.specs.data_plan.Changes.{row_of}
use Rattle.file_writes.specs.file_puts.declared.streams.VolumeStreams.{VolumeStreams}
use Rattle.file_writes.specs.file_puts.Written.{WritesFile}
use Rattle.written_clusters.specs.change_steps.Found.{HasChange, Finds}
use Rattle.written_clusters.specs.change_steps.Changes.{change_reply}
use Rattle.written_clusters.specs.Done.{HasClusters}

-- A file is found to be written or cut, no row of its record refuses it, as many clusters are clear as its data comes to take, and the draft
-- has put what comes of that: the content that the draft stands for is the step's.
abbrev pub WritesAreSteps : Type 0
WritesAreSteps = (c : Content) (g : Geometry) (clusters : ℕ) (v : Volume) (s : VolumeStreams) (op : Op) (stamp : ℕ) (node a : Node) (r : Record) (what : DataChange) (new : List Touched) → HasChange c g clusters v op → Finds c v op (File node true)
    → row_of (cluster_bits c v) r op a ≡ None → HasClusters c v op a r → WritesFile c g clusters v s op node.number stamp a r what new → Step g clusters op stamp (change_reply op) c (drafted new c)
