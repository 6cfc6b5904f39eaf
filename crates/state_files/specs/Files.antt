-- What a state says of the unnamed data of a file.
use Rattle.std.specs.Prelude.{◌≡◌, ℕ, ◌≤◌, ◌^◌, true, false, length, Some}
use Rattle.disk_model.specs.Content.{Content}
use Rattle.record_model.specs.Constants.{attribute_list}
use Rattle.record_model.specs.Pairs.{cluster_limit}
use Rattle.record_model.specs.Records.{Record}
use Rattle.state_model.specs.declared.geometry.Geometry.{Geometry}
use Rattle.state_model.specs.declared.stream.Extents.{Extents}
use Rattle.state_model.specs.declared.stream.Stream.{Stream}
use Rattle.state_model.specs.declared.stream.Stream.TheVariants.{Placed}
use Rattle.state_model.specs.Files.{has_type}
use Rattle.state_model.specs.Loads.{has_all_pairs}
use Rattle.data_plan.specs.volume_model.Sizes.{has_hole}
use Rattle.data_plan.specs.volume_model.Volumes.{Volume, file_in}
use Rattle.data_plan.specs.plan_owners.States.{Stands}
use Rattle.data_plan.specs.record_streams.Fitting.{FitsButRoom}
use Rattle.data_plan.specs.Changes.{data_in, HasData}

-- the runs of data in clusters aren't too many
abbrev pub HasFewRuns : Record → Type 0
HasFewRuns r = (e : Extents) → data_in r ≡ Some (Placed e) → length e.runs ≤ 2 ^ 15

-- The pairs of a file's record are read. Its unnamed data without sparse runs begins at VCN 0, and where it stands in clusters these are enough
-- for its size and lie in the volume. So the file has what a write or a cut asks for, where its record has a spelling but for its room, and few
-- runs of it.
pub record FilesHaveData : Type 0 where
  pub pairs : (c : Content) (g : Geometry) (clusters : ℕ) (v : Volume) (n : ℕ) (r : Record) → Stands c g clusters v → file_in v n ≡ Some r → has_type attribute_list r ≡ false → has_all_pairs r ≡ true
  pub has : (c : Content) (g : Geometry) (clusters : ℕ) (v : Volume) (n : ℕ) (r : Record) (s : Stream) → Stands c g clusters v → g.per_cluster ≡ 8 → clusters ≤ cluster_limit → file_in v n ≡ Some r → has_type attribute_list r ≡ false → has_hole (data_in r) ≡ false
      → data_in r ≡ Some s → FitsButRoom r → HasFewRuns r → HasData clusters r
