-- What a state says of a stream in clusters, to one who lets it take clusters or gives some back.
use Rattle.std.specs.Prelude.{◌≡◌, ◌≢◌, ℕ, ◌*◌, ◌<◌, ◌≤◌, false, true, All, IfSome, List, length, map, Some}
use Rattle.std.specs.List.{list_all}
use Rattle.disk_model.specs.Content.{Content}
use Rattle.plan_growth.specs.record_model.Constants.{file_name}
use Rattle.plan_growth.specs.record_model.Pairs.{cluster_limit, HasSpelling}
use Rattle.plan_growth.specs.record_model.Records.{Record, used_of}
use Rattle.plan_growth.specs.record_writer.Normal.{normal}
use Rattle.plan_growth.specs.state_model.declared.geometry.Geometry.{Geometry}
use Rattle.plan_growth.specs.state_model.declared.stream.Extents.{Extents}
use Rattle.plan_growth.specs.state_model.declared.stream.Stream.TheVariants.{Placed}
use Rattle.plan_growth.specs.state_model.Loads.{total_clusters}
use Rattle.plan_growth.specs.state_model.Streams.{stream_of}
use Rattle.plan_growth.specs.volume_model.Sizes.{has_hole, lies_inside}
use Rattle.plan_growth.specs.volume_model.Volumes.{Volume, file_in}
use Rattle.plan_growth.specs.stream_runs.Runs.{last_cluster, IsNear}
use Rattle.plan_growth.specs.plan_owners.States.{Stands}

-- a stream of a file of the volume lies in these clusters; it is no name
pub record IsPlacedIn (v : Volume) (n kind : ℕ) (name : List ℕ) (e : Extents) : Type 0 where
  pub file : Record
  pub is_file : file_in v n ≡ Some file
  pub no_name : file_name ≢ kind
  pub stream : stream_of kind name file.attrs ≡ Some (Placed e)

-- its sizes are in order, and its clusters are as many as are allocated
pub record HasLawfulSizes (per : ℕ) (e : Extents) : Type 0 where
  pub initialised : e.initialised ≤ e.real
  pub real : e.real ≤ e.allocated
  pub allocated : e.allocated ≡ total_clusters e.runs * (512 * per)

-- Its sizes are lawful. Its runs lie in the volume; where none is sparse, they have no more clusters than the volume, and a spelling,
-- as those have whose clusters don't pass the limit. In a volume of at most so many clusters each run ends near, and the last cluster
-- is one of the volume. Each run takes two bytes of its record, or more.
pub record StreamsOfStates : Type 0 where
  pub sizes : (c : Content) (g : Geometry) (clusters : ℕ) (v : Volume) (n kind : ℕ) (name : List ℕ) (e : Extents) → Stands c g clusters v → IsPlacedIn v n kind name e → HasLawfulSizes v.per e
  pub inside : (c : Content) (g : Geometry) (clusters : ℕ) (v : Volume) (n kind : ℕ) (name : List ℕ) (e : Extents) → Stands c g clusters v → IsPlacedIn v n kind name e → list_all (lies_inside v.clusters) e.runs ≡ true
  pub total : (c : Content) (g : Geometry) (clusters : ℕ) (v : Volume) (n kind : ℕ) (name : List ℕ) (e : Extents) → Stands c g clusters v → IsPlacedIn v n kind name e → has_hole (Some (Placed e)) ≡ false → total_clusters e.runs ≤ v.clusters
  pub spelled : (c : Content) (g : Geometry) (clusters : ℕ) (v : Volume) (n kind : ℕ) (name : List ℕ) (e : Extents) → Stands c g clusters v → IsPlacedIn v n kind name e → total_clusters e.runs ≤ cluster_limit → HasSpelling 0 e.runs
  pub near : (c : Content) (g : Geometry) (clusters : ℕ) (v : Volume) (n kind : ℕ) (name : List ℕ) (e : Extents) → Stands c g clusters v → IsPlacedIn v n kind name e → v.clusters ≤ cluster_limit → All IsNear e.runs
  pub last : (c : Content) (g : Geometry) (clusters : ℕ) (v : Volume) (n kind : ℕ) (name : List ℕ) (e : Extents) → Stands c g clusters v → IsPlacedIn v n kind name e → total_clusters e.runs ≤ cluster_limit → IfSome (last_cluster e.runs) (λ at. at < v.clusters)
  pub few : (r : Record) (kind : ℕ) (name : List ℕ) (e : Extents) → stream_of kind name r.attrs ≡ Some (Placed e) → 2 * length e.runs ≤ used_of (map normal r.attrs)
