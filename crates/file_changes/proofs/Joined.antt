-- The cases of a write, joined.
use Rattle.std.proofs.Common.{◌≡◌, ℕ, Bool, true, false, List, refl}
use Rattle.disk_model.specs.Content.{Content}
use Rattle.record_model.specs.Records.{Record}
use Rattle.file_tree.specs.declared.node.Node.{Node}
use Rattle.state_model.specs.declared.geometry.Geometry.{Geometry}
use Rattle.written_clusters.specs.volume_model.Volumes.{Volume, cluster_bits}
use Rattle.tree_model.specs.declared.script.Op.{Op}
use Rattle.tree_model.specs.Needs.{shrinks}
use Rattle.plan_draft.specs.declared.touched.Touched.{Touched}
use Rattle.written_clusters.specs.resized_streams.declared.resized.Resized.{Resized}
use Rattle.written_clusters.specs.data_plan.declared.change.DataChange.{DataChange}
use Rattle.written_clusters.specs.data_plan.declared.change.DataChange.TheVariants as change
use Rattle.written_clusters.specs.data_plan.Changes.{growth_of}
use Rattle.file_writes.specs.file_puts.declared.streams.VolumeStreams.{VolumeStreams}
use Rattle.file_writes.specs.file_puts.Written.{WritesFile, HasWritten}
use Rattle.written_clusters.specs.written_values.Laws.{ValuesAreDone, ShorterAreDone, CutsAreDone}
use Rattle.written_clusters.specs.Done.{HasClusters, LongerIsDone, GrowthIsDone, LeavingIsDone}
use Rattle.file_changes.specs.Writes.{WritesAreDone}

pub joined : ValuesAreDone → ShorterAreDone → CutsAreDone → LongerIsDone → GrowthIsDone → LeavingIsDone → WritesAreDone
joined values shorter cuts longer growth leaving c g clusters v s op n stamp a r (change.Stays size) new has w = values c g clusters v s op n stamp a r size new w
joined values shorter cuts longer growth leaving c g clusters v s op n stamp a r (change.Leaves z) new has w = leaving c g clusters v s op n stamp a r z new has w
joined values shorter cuts longer growth leaving c g clusters v s op n stamp a r (change.Grows z) new has w = growth c g clusters v s op n stamp a r z new has w
joined values shorter cuts longer growth leaving c g clusters v s op n stamp a r (change.Cut z) new has w = cuts c g clusters v s op n stamp a r z new w
joined values shorter cuts longer growth leaving c g clusters v s op n stamp a r (change.Sized z) new has w = by (shrinks op a) refl
  where
    by : (t : Bool) → shrinks op a ≡ t → HasWritten c g clusters v op n stamp a (growth_of (cluster_bits c v) r op a) new
    by true is = shorter c g clusters v s op n stamp a r z new is w
    by false is = longer c g clusters v s op n stamp a r z new is has w
