-- A write that is done is a step.
use Rattle.std.proofs.Common.{◌≡◌, ℕ, List}
use Rattle.disk_model.specs.Content.{Content}
use Rattle.record_model.specs.Records.{Record}
use Rattle.file_tree.specs.declared.node.Node.{Node}
use Rattle.state_model.specs.declared.geometry.Geometry.{Geometry}
use Rattle.written_clusters.specs.volume_model.Volumes.{Volume}
use Rattle.tree_model.specs.declared.script.Op.{Op}
use Rattle.plan_draft.specs.declared.touched.Touched.{Touched}
use Rattle.plan_draft.specs.Drafts.{drafted}
use Rattle.written_clusters.specs.data_plan.declared.change.DataChange.{DataChange}
use Rattle.file_writes.specs.file_puts.declared.streams.VolumeStreams.{VolumeStreams}
use Rattle.written_clusters.specs.change_steps.Changes.{ChangesAreSteps, DraftsAreWritten}
use Rattle.file_changes.specs.Writes.{WritesAreDone}
use Rattle.file_changes.specs.Steps.{WritesAreSteps}

pub stepped : WritesAreDone → DraftsAreWritten → ChangesAreSteps → WritesAreSteps
stepped done drafts steps c g clusters v s op stamp node a r what new has finds row enough w =
    steps.written c g clusters v op stamp node a r (drafted new c) has finds w.file row (drafts c g clusters v op node.number stamp r a new w.file (done c g clusters v s op node.number stamp a r what new enough w))
