-- A stream that takes more clusters, or gives back those past a size.
use Rattle.std.specs.Prelude.{◌≡◌, ℕ, ◌+◌, ◌-◌, ◌*◌, ◌/◌, min, List, []}
use Rattle.record_streams.specs.record_model.declared.runs.Run.{Run}
use Rattle.record_streams.specs.record_model.Records.{Record}
use Rattle.record_streams.specs.state_model.declared.stream.Extents.{Extents}
use Rattle.record_streams.specs.state_model.Loads.{total_clusters}
use Rattle.record_streams.specs.stream_runs.Runs.{merged, front, back, grown}
use Rattle.record_streams.specs.Placing.{placed_record}
use Rattle.resized_streams.specs.declared.resized.Resized.{Resized}

-- ---- the stream

-- the bytes of a cluster of so many sectors
abbrev pub cluster_bytes : ℕ → ℕ
cluster_bytes per = 512 * per

-- a stream with these clusters, all of them allocated
abbrev pub allocated_in : ℕ → List Run → ℕ → ℕ → Extents
allocated_in per new real initialised = record { runs = new; allocated = total_clusters new * cluster_bytes per; real = real; initialised = initialised }

-- with more clusters behind its own; its size stays
abbrev pub lengthened : ℕ → List Run → Extents → Extents
lengthened per more e = allocated_in per (grown e.runs more) e.real e.initialised

-- how many clusters have so many bytes
abbrev pub clusters_for : ℕ → ℕ → ℕ
clusters_for per size = (size + (cluster_bytes per - 1)) / cluster_bytes per

-- of this size, with the clusters that it needs of its own
abbrev pub shortened : ℕ → ℕ → Extents → Extents
shortened per size e = allocated_in per (merged (front (clusters_for per size) e.runs)) size (min e.initialised size)

-- with these sizes, in the same clusters
abbrev pub with_sizes : ℕ → ℕ → Extents → Extents
with_sizes real initialised e = record { runs = e.runs; allocated = e.allocated; real = real; initialised = initialised }

-- a value of so many bytes as a stream that has no clusters yet
abbrev pub unplaced : ℕ → Extents
unplaced size = record { runs = []; allocated = 0; real = size; initialised = size }

-- ---- what comes of it

-- the stream takes these runs: its record has it with them, and none of its clusters is given back
pub record IsGrown (per kind : ℕ) (name : List ℕ) (e : Extents) (r : Record) (more : List Run) (z : Resized) : Type 0 where
  pub extents : z.extents ≡ lengthened per more e
  pub file : z.file ≡ placed_record per kind name (lengthened per more e) r
  pub taken : z.taken.items ≡ more
  pub freed : z.freed.items ≡ []

-- the stream is cut to this size: it takes none, and gives back what is behind
pub record IsCut (per kind : ℕ) (name : List ℕ) (e : Extents) (r : Record) (size : ℕ) (z : Resized) : Type 0 where
  pub extents : z.extents ≡ shortened per size e
  pub file : z.file ≡ placed_record per kind name (shortened per size e) r
  pub taken : z.taken.items ≡ []
  pub freed : z.freed.items ≡ back (clusters_for per size) e.runs

-- the stream has these sizes: it takes no cluster, and gives none back
pub record IsSized (per kind : ℕ) (name : List ℕ) (e : Extents) (r : Record) (real initialised : ℕ) (z : Resized) : Type 0 where
  pub extents : z.extents ≡ with_sizes real initialised e
  pub file : z.file ≡ placed_record per kind name (with_sizes real initialised e) r
  pub taken : z.taken.items ≡ []
  pub freed : z.freed.items ≡ []
