-- Chosen clusters may be taken.
use Rattle.std.specs.Prelude.{◌≡◌, ◌≤◌, ℕ, Bool, false, List, length, Option}
use Rattle.plan_model.specs.record_model.Pairs.{cluster_limit}
use Rattle.plan_model.specs.bit_set.Bits.{bit}
use Rattle.plan_model.specs.state_model.Loads.{total_clusters}
use Rattle.resized_streams.specs.space_model.Choosing.{chosen}
use Rattle.plan_growth.specs.Streams.{MayTake}

-- Runs that are chosen from bits may be taken where each cluster that is clear in these is clear in the others too, as in the bitmap of
-- clusters under what a plan has taken.
abbrev pub ChosenMayBeTaken : Type 0
ChosenMayBeTaken = (bits others : List Bool) (last : Option ℕ) (n : ℕ) → ((x : ℕ) → bit bits x ≡ false → bit others x ≡ false) → length bits ≤ cluster_limit → total_clusters (chosen bits last n) ≤ cluster_limit → MayTake (length bits) others (chosen bits last n)
