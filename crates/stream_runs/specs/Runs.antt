-- The runs of a stream that comes to have more clusters, or fewer.
use Rattle.std.specs.Prelude.{ℕ, ◌+◌, ◌-◌, ◌^◌, ◌<◌, IfSome, Bool, true, false, ◌==◌, nat_le, if◌then◌else◌, List, [], ◌∷◌, ◌++◌, map, Option, Some, None}
use Rattle.std.specs.Option.{option_map}
use Rattle.volume_model.specs.record_model.declared.runs.Run.{Run}
use Rattle.volume_model.specs.state_model.Loads.{total_clusters}

-- a run from one place on, so long, ends where a run at another place begins; sparse runs go on from one another
abbrev pub touches : Option ℕ → ℕ → Option ℕ → Bool
touches None len None = true
touches None len (Some b) = false
touches (Some a) len None = false
touches (Some a) len (Some b) = a + len == b

-- a run in front of others: one run with the first of them, where they touch
abbrev pub in_front : Run → List Run → List Run
in_front r [] = r ∷ []
in_front r (s ∷ runs) = if touches r.lcn r.len s.lcn then record { vcn = r.vcn; lcn = r.lcn; len = r.len + s.len } ∷ runs else r ∷ s ∷ runs

-- runs that touch are one run
unfoldable pub merged : List Run → List Run
merged [] = []
merged (r ∷ runs) = in_front r (merged runs)

-- a run so many clusters further back in its stream
abbrev pub moved : ℕ → Run → Run
moved clusters r = record { vcn = clusters + r.vcn; lcn = r.lcn; len = r.len }

-- the runs of a stream that takes more behind its own
unfoldable pub grown : List Run → List Run → List Run
grown runs more = merged (runs ++ map (moved (total_clusters runs)) more)

-- the first so many clusters
unfoldable pub front : ℕ → List Run → List Run
front clusters [] = []
front clusters (r ∷ runs) =
    if nat_le r.len clusters then r ∷ front (clusters - r.len) runs
    else if clusters == 0 then []
    else record { vcn = r.vcn; lcn = r.lcn; len = clusters } ∷ []

-- a run without its first so many clusters
abbrev pub behind : ℕ → Run → Run
behind clusters r = record { vcn = r.vcn + clusters; lcn = option_map (λ lcn. lcn + clusters) r.lcn; len = r.len - clusters }

-- what is behind the first so many
unfoldable pub back : ℕ → List Run → List Run
back clusters [] = []
back clusters (r ∷ runs) = if nat_le r.len clusters then back (clusters - r.len) runs else behind clusters r ∷ runs

-- the run lies below cluster 2 ^ 34, or is sparse
abbrev pub IsNear : Run → Type 0
IsNear r = IfSome r.lcn (λ lcn. lcn + r.len < 2 ^ 34)

-- the last cluster of a stream, if it has one and that isn't sparse
abbrev pub last_cluster : List Run → Option ℕ
last_cluster [] = None
last_cluster (r ∷ []) = option_map (λ lcn. lcn + r.len - 1) r.lcn
last_cluster (r ∷ s ∷ runs) = last_cluster (s ∷ runs)
