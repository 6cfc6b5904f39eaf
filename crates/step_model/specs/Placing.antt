-- The clusters of the streams that one operation lets grow, one stream after the other.
use Rattle.std.specs.Prelude.{◌≡◌, ⊤, ℕ, ◌-◌, ◌<◌, ◌≤◌, Bool, false, not, nat_lt, if◌then◌else◌, ◌==◌, List, [], ◌∷◌, count_by}
use Rattle.std.specs.List.{flat_map, sum_by, AllByRecursion}
use Rattle.plan_model.specs.record_model.declared.runs.Run.{Run}
use Rattle.plan_model.specs.bit_set.Bits.{bit}
use Rattle.space_model.specs.Choosing.{chosen, with_runs}
use Rattle.space_model.specs.Laws.{clusters_of}
use Rattle.plan_model.specs.state_model.Loads.{total_clusters}
use Rattle.plan_model.specs.volume_model.Owners.{uses}
use Rattle.plan_model.specs.stream_laws.Sharing.{StreamKey}
use Rattle.stream_runs.specs.Runs.{merged, grown, front, last_cluster}

-- A stream that comes to have so many clusters: its runs so far, those that it takes, and whether it stands in its record then, where it has
-- none.
pub record Growth : Type 0 where
  pub stream : StreamKey
  pub old : List Run
  pub clusters : ℕ
  pub runs : List Run
  pub stands : Bool

-- by how many clusters it grows
abbrev pub more_of : Growth → ℕ
more_of g = g.clusters - total_clusters g.old

-- its runs then: it gives up what is behind its clusters, or takes what it wants behind its own
unfoldable pub runs_after : Growth → List Run
runs_after g =
    if nat_lt g.clusters (total_clusters g.old) then merged (front g.clusters g.old)
    else if g.clusters == total_clusters g.old then g.old
    else grown g.old g.runs

-- Each stream takes the clusters that are chosen for it among the bits that those before it left clear: first those directly behind its
-- last cluster.
abbrev pub AllPlaced : List Bool → List Growth → Type 0
AllPlaced bits [] = ⊤
AllPlaced bits (g ∷ growths) = (g.runs ≡ chosen bits (last_cluster g.old) (more_of g)) × AllPlaced (with_runs g.runs bits) growths

-- what all of them take
abbrev pub taken_runs : List Growth → List Run
taken_runs growths = flat_map (λ (g : Growth). g.runs) growths

-- how many clusters that is
abbrev pub wanted_by : List Growth → ℕ
wanted_by growths = sum_by more_of growths

-- Where so many bits are clear, each stream takes as many clusters as it wants. None of them lies in two streams or twice in one, and
-- each was clear before the first one took its clusters; so were the bits that are set afterwards, and no others are.
pub record PlacedOnce : Type 0 where
  pub count : (bits : List Bool) (growths : List Growth) → AllPlaced bits growths → wanted_by growths ≤ count_by not bits → AllByRecursion (λ g. clusters_of g.runs ≡ more_of g) growths
  pub once : (bits : List Bool) (growths : List Growth) (x : ℕ) → AllPlaced bits growths → uses (taken_runs growths) x ≤ 1
  pub clear : (bits : List Bool) (growths : List Growth) (x : ℕ) → AllPlaced bits growths → 0 < uses (taken_runs growths) x → bit bits x ≡ false
