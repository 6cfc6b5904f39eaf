-- The states from which operations on files are planned.
use Rattle.std.specs.Prelude.{◌≡◌, ℕ, ◌≤◌, Bool, true, false, List, None}
use Rattle.disk_model.specs.Content.{Content}
use Rattle.record_model.specs.Pairs.{cluster_limit}
use Rattle.state_model.specs.declared.geometry.Geometry.{Geometry}
use Rattle.volume_model.specs.Volumes.{Volume, upper_of}
use Rattle.found_files.specs.volume_state.Trees.{tree_of}
use Rattle.found_files.specs.plan_owners.States.{Stands}
use Rattle.tree_model.specs.declared.script.Op.{Op}
use Rattle.tree_model.specs.declared.script.Op.TheVariants as op
use Rattle.found_files.specs.file_puts.declared.streams.VolumeStreams.{VolumeStreams}
use Rattle.found_files.specs.file_puts.Written.{AreStreamsOf}

-- an operation that writes, fills or cuts a file
abbrev pub is_data_change : Op → Bool
is_data_change (op.Write path offset bytes) = true
is_data_change (op.Fill path offset count byte) = true
is_data_change (op.Truncate path size) = true
is_data_change other = false

-- The content is a state of this volume, without a change journal and of eight sectors a cluster; the table of upper-case units and the streams
-- are the volume's.
pub record IsPlannable (c : Content) (g : Geometry) (clusters : ℕ) (v : Volume) (upper : List ℕ) (s : VolumeStreams) : Type 0 where
  pub stands : Stands c g clusters v
  pub eight : g.per_cluster ≡ 8
  pub table : upper ≡ upper_of c v
  pub journal : (tree_of c v).journal ≡ None
  pub streams : AreStreamsOf v s

-- The volume has so few clusters that each can be named in mapping pairs.
abbrev pub HasFewClusters : ℕ → Type 0
HasFewClusters clusters = clusters ≤ cluster_limit
