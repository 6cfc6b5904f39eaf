-- Places: the clusters that runs have, each run's from one cluster on and below another.
use Rattle.std.specs.Prelude.{ℕ, ◌<◌, ◌≤◌, Bool, false, ◌&&◌, nat_le, nat_lt, List, count_by, All, Option, Some, None}
use Rattle.std.specs.List.Sorted.{IsNonDecreasingBy}
use Rattle.stream_rules.specs.declared.places.Place.{Place}

-- the cluster lies in the place
abbrev pub is_in : ℕ → Place → Bool
is_in x p = nat_le p.first x && nat_lt x p.end

abbrev pub is_in_some : ℕ → Option Place → Bool
is_in_some x None = false
is_in_some x (Some p) = is_in x p

-- how many places have the cluster
unfoldable pub times : List Place → ℕ → ℕ
times places x = count_by (is_in x) places

-- a place with a cluster, all of them below so many
pub record IsBelow (clusters : ℕ) (p : Place) : Type 0 where
  pub some : p.first < p.end
  pub within : p.end ≤ clusters

abbrev pub AreBelow : ℕ → List Place → Type 0
AreBelow clusters places = All (IsBelow clusters) places

-- each place has a cluster
abbrev pub HaveSome : List Place → Type 0
HaveSome places = All (λ (p : Place). p.first < p.end) places

-- by rising first cluster
abbrev pub AreRising : List Place → Type 0
AreRising places = IsNonDecreasingBy (λ (p : Place). p.first) places
