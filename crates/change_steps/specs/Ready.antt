-- What the calls that write or cut a file ask for, of a file that was found without its bytes.
use Rattle.std.specs.Prelude.{◌≡◌, ℕ, ◌+◌, ◌^◌, ◌≤◌, Bool, true, not, List, count_by}
use Rattle.disk_model.specs.Content.{Content}
use Rattle.record_model.specs.Pairs.{cluster_limit}
use Rattle.record_model.specs.Records.{Record}
use Rattle.file_tree.specs.declared.node.Node.{Node}
use Rattle.file_tree.specs.Trees.{without_bytes}
use Rattle.file_puts.specs.state_model.declared.geometry.Geometry.{Geometry}
use Rattle.file_puts.specs.volume_model.Volumes.{Volume, cluster_bits}
use Rattle.tree_model.specs.declared.script.Op.{Op}
use Rattle.change_lookup.specs.declared.found.Found.TheVariants.{File}
use Rattle.file_puts.specs.step_model.Placing.{Growth, more_of}
use Rattle.file_puts.specs.plan_changes.Files.{IsChangeable}
use Rattle.file_puts.specs.plan_draft.declared.touched.Touched.{Touched}
use Rattle.file_puts.specs.record_streams.Fitting.{FitsButRoom}
use Rattle.file_puts.specs.data_plan.declared.change.DataChange.{DataChange}
use Rattle.file_puts.specs.data_plan.Changes.{ShowsData, GrowsLittle, growth_of, row_of, IsChange}
use Rattle.file_puts.specs.declared.streams.VolumeStreams.{VolumeStreams}
use Rattle.file_puts.specs.Puts.{PutsChange}
use Rattle.change_steps.specs.Found.{HasChange, Finds}

-- What a step says of the data of a node, what comes of it, and what is put don't hang on the node's bytes.
pub record BareIsEnough : Type 0 where
  pub growth : (bits : List Bool) (r : Record) (op : Op) (a : Node) → growth_of bits r op (without_bytes a) ≡ growth_of bits r op a
  pub row : (bits : List Bool) (r : Record) (op : Op) (a : Node) → row_of bits r op (without_bytes a) ≡ row_of bits r op a
  pub change : (g : Growth) (r : Record) (op : Op) (a : Node) (change : DataChange) → IsChange g r op (without_bytes a) change → IsChange g r op a change
  pub puts : (c : Content) (s : VolumeStreams) (n : ℕ) (op : Op) (a : Node) (stamp : ℕ) (r : Record) (change : DataChange) (old new : List Touched) → PutsChange c s n op (without_bytes a) stamp r change old new → PutsChange c s n op a stamp r change old new

-- A file that was found to be changed shows its data, and comes to have few clusters more. As many clusters are free as it takes.
pub record FilesAreReady : Type 0 where
  pub shows : (c : Content) (g : Geometry) (clusters : ℕ) (v : Volume) (op : Op) (node a : Node) (r : Record) (changes : Bool) → HasChange c g clusters v op → Finds c v op (File node changes) → IsChangeable c v node.number r a → ShowsData node r
  pub room : (c : Content) (g : Geometry) (clusters : ℕ) (v : Volume) (op : Op) (node a : Node) (r : Record) → HasChange c g clusters v op → Finds c v op (File node true) → IsChangeable c v node.number r a
      → more_of (growth_of (cluster_bits c v) r op node) ≤ count_by not (cluster_bits c v)
  pub little : (c : Content) (g : Geometry) (clusters : ℕ) (v : Volume) (op : Op) (node a : Node) (r : Record) → HasChange c g clusters v op → Finds c v op (File node true) → IsChangeable c v node.number r a → FitsButRoom r → node.clusters + 2 ^ 15 ≤ cluster_limit
      → GrowsLittle op node
