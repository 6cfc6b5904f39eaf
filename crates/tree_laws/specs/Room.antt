-- How many clusters are free after some were taken and some given back.
use Rattle.std.specs.Prelude.{◌≡◌, ℕ, ◌+◌, Bool, not, ◌&&◌, List, count_by}
use Rattle.std.specs.List.{range_with_len}
use Rattle.volume_state.specs.disk_model.Content.{Content}
use Rattle.volume_state.specs.bit_set.Bits.{bit}
use Rattle.volume_state.specs.volume_model.Volumes.{Volume, cluster_bits}
use Rattle.volume_state.specs.volume_model.Nodes.{free_clusters}

-- how many of the first so many bits were clear and are set, and how many were set and are clear
abbrev pub newly_set : ℕ → List Bool → List Bool → ℕ
newly_set count old new = count_by (λ x. not (bit old x) && bit new x) (range_with_len 0 count)

abbrev pub newly_clear : ℕ → List Bool → List Bool → ℕ
newly_clear count old new = count_by (λ x. bit old x && not (bit new x)) (range_with_len 0 count)

-- what is free and what was taken is what was free and what was given back
abbrev pub RoomCounted : Type 0
RoomCounted = (c d : Content) (v w : Volume) → w.clusters ≡ v.clusters → free_clusters d w + newly_set v.clusters (cluster_bits c v) (cluster_bits d w) ≡ free_clusters c v + newly_clear v.clusters (cluster_bits c v) (cluster_bits d w)
