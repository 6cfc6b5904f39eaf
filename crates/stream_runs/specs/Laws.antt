-- What runs keep that are joined where they touch, that go on behind others, or of which the first are taken.
use Rattle.std.specs.Prelude.{◌≡◌, ⊤, ℕ, ◌+◌, ◌-◌, ◌*◌, ◌/◌, ◌<◌, ◌≤◌, false, min, List, [], ◌∷◌, ◌++◌, map, None}
use Rattle.volume_model.specs.disk_model.declared.block.BlockKind.{BlockKind}
use Rattle.volume_model.specs.disk_model.Sectors.{sectors}
use Rattle.volume_model.specs.record_model.declared.runs.Run.{Run}
use Rattle.volume_model.specs.record_model.Pairs.{cluster_limit, Follow, HasSpelling}
use Rattle.volume_model.specs.state_model.Loads.{total_clusters}
use Rattle.volume_model.specs.state_model.Streams.{block_at}
use Rattle.volume_model.specs.Owners.{uses}
use Rattle.stream_runs.specs.Runs.{touches, merged, moved, grown, front, back}

-- no run touches the next one
abbrev pub AreParted : List Run → Type 0
AreParted [] = ⊤
AreParted (r ∷ []) = ⊤
AreParted (r ∷ s ∷ runs) = (touches r.lcn r.len s.lcn ≡ false) × AreParted (s ∷ runs)

-- the n-th block of this kind lies in one cluster of its stream
abbrev pub InOneCluster : ℕ → BlockKind → ℕ → Type 0
InOneCluster per kind n = (sectors kind * n + sectors kind - 1) / per ≡ sectors kind * n / per

-- Runs that follow one another keep their clusters where they are joined: as many, the same ones, each at its place. They still have
-- a spelling, and none touches the next.
pub record RunsAreJoined : Type 0 where
  pub total : (runs : List Run) → total_clusters (merged runs) ≡ total_clusters runs
  pub clusters : (runs : List Run) (x : ℕ) → uses (merged runs) x ≡ uses runs x
  pub spelled : (first : ℕ) (runs : List Run) → HasSpelling first runs → HasSpelling first (merged runs)
  pub places : (per : ℕ) (runs : List Run) (kind : BlockKind) (n : ℕ) → HasSpelling 0 runs → InOneCluster per kind n → block_at per (merged runs) kind n ≡ block_at per runs kind n
  pub parted : (runs : List Run) → AreParted (merged runs)

-- A stream that takes more runs has their clusters behind its own, which stay at their places.
pub record StreamsGrow : Type 0 where
  pub total : (runs more : List Run) → total_clusters (grown runs more) ≡ total_clusters runs + total_clusters more
  pub clusters : (runs more : List Run) (x : ℕ) → uses (grown runs more) x ≡ uses runs x + uses more x
  pub spelled : (runs more : List Run) → HasSpelling 0 runs → HasSpelling 0 more → total_clusters runs + total_clusters more ≤ cluster_limit → HasSpelling 0 (grown runs more)
  pub places : (per : ℕ) (runs more : List Run) (kind : BlockKind) (n : ℕ) → HasSpelling 0 runs → HasSpelling 0 more → total_clusters runs + total_clusters more ≤ cluster_limit → InOneCluster per kind n → sectors kind * n / per < total_clusters runs
      → block_at per (grown runs more) kind n ≡ block_at per runs kind n

-- A stream that keeps its first clusters gives back the others: each cluster is in what it keeps or in what it gives back, and those that it
-- keeps stay at their places. Behind them it has none.
pub record StreamsShrink : Type 0 where
  pub total : (clusters : ℕ) (runs : List Run) → total_clusters (front clusters runs) ≡ min clusters (total_clusters runs)
  pub rest : (clusters : ℕ) (runs : List Run) → total_clusters (back clusters runs) ≡ total_clusters runs - clusters
  pub clusters : (clusters : ℕ) (runs : List Run) (x : ℕ) → uses (front clusters runs) x + uses (back clusters runs) x ≡ uses runs x
  pub spelled : (clusters : ℕ) (runs : List Run) → HasSpelling 0 runs → HasSpelling 0 (front clusters runs)
  pub places : (per clusters : ℕ) (runs : List Run) (kind : BlockKind) (n : ℕ) → HasSpelling 0 runs → InOneCluster per kind n → sectors kind * n / per < clusters → block_at per (front clusters runs) kind n ≡ block_at per runs kind n
  pub past : (per clusters : ℕ) (runs : List Run) (kind : BlockKind) (n : ℕ) → HasSpelling 0 runs → InOneCluster per kind n → clusters ≤ sectors kind * n / per → block_at per (front clusters runs) kind n ≡ None
