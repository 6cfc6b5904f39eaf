-- The sizes of clusters.
use Rattle.std.specs.Prelude.{◌≡◌, ◌⊎◌, ℕ, Bool, ◌==◌, ◌||◌, if◌then◌else◌, Option, Some, None}

-- a cluster has 1, 2, 4 or 8 sectors
abbrev pub IsClusterSize : ℕ → Type 0
IsClusterSize n = (n ≡ 1) ⊎ (n ≡ 2) ⊎ (n ≡ 4) ⊎ (n ≡ 8)

abbrev pub is_cluster_size : ℕ → Bool
is_cluster_size n = n == 1 || n == 2 || n == 4 || n == 8

-- these sectors, where a cluster may have so many
abbrev pub cluster_size : ℕ → Option ℕ
cluster_size n = if is_cluster_size n then Some n else None
