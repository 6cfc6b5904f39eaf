-- What a write or a cut asks of a file, whether its record has unnamed data or not.
use Rattle.std.specs.Prelude.{◌≡◌, ℕ, ◌<◌, ◌≤◌, ◌^◌, true, length}
use Rattle.disk_model.specs.Content.{Content}
use Rattle.record_model.specs.Constants.{standard_information}
use Rattle.record_model.specs.Pairs.{cluster_limit}
use Rattle.record_model.specs.Records.{Record}
use Rattle.file_tree.specs.declared.node.Node.{Node}
use Rattle.state_model.specs.declared.geometry.Geometry.{Geometry}
use Rattle.state_model.specs.Files.{has_type}
use Rattle.volume_model.specs.Volumes.{Volume}
use Rattle.file_changes.specs.plan_owners.States.{Stands}
use Rattle.file_changes.specs.plan_changes.Files.{IsChangeable}
use Rattle.file_changes.specs.record_streams.Fitting.{FitsButRoom}
use Rattle.made_data.specs.data_plan.Changes.{ShowsData, HasData}
use Rattle.state_files.specs.Files.{HasFewRuns}
use Rattle.made_data.specs.Made.{record_with_data}

-- In a state, a file of which the bytes can be changed has by that record the data that a write asks for, where its own record has a spelling
-- but for its room, fewer than 1,024 attributes and few runs of data. The node shows that data as its own, and there is standard information.
pub record AnyFileIsReady : Type 0 where
  pub has : (c : Content) (g : Geometry) (clusters : ℕ) (v : Volume) (n : ℕ) (r : Record) (a : Node) → Stands c g clusters v → g.per_cluster ≡ 8 → clusters ≤ cluster_limit → IsChangeable c v n r a → FitsButRoom r → length r.attrs < 2 ^ 10 → HasFewRuns r → HasData clusters (record_with_data r)
  pub shows : (node : Node) (r : Record) → ShowsData node r → ShowsData node (record_with_data r)
  pub info : (c : Content) (g : Geometry) (clusters : ℕ) (v : Volume) (n : ℕ) (r : Record) (a : Node) → Stands c g clusters v → IsChangeable c v n r a → has_type standard_information (record_with_data r) ≡ true
