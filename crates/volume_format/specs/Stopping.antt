-- What a device holds after writes that may have stopped: regions that stand, and sectors that nothing touched.
use Rattle.std.specs.Prelude.{◌≡◌, ◌⊎◌, ⊤, ℕ, ◌*◌, ◌≤◌, List, [], ◌∷◌, length, Option, Some, None}
use Rattle.disk_model.specs.Sectors.{sector_of}
use Rattle.sector_device.specs.Sectors.{sectors_of, IsMixOf, IsTornBy}
use Rattle.volume_format.specs.declared.layout.Layout.{Layout}
use Rattle.volume_format.specs.Layouts.{used_clusters}
use Rattle.volume_format.specs.Images.{Region, put_region}

-- In the order of these regions: some stand, of the next one any sectors may, and nothing of those after it.
abbrev pub StandInFront : List Region → List (List ℕ) → List (List ℕ) → Type 0
StandInFront [] old now = now ≡ old
StandInFront (r ∷ rs) old now = IsMixOf old (put_region r old) now ⊎ StandInFront rs (put_region r old) now

-- the same of what reads give, where it is known
abbrev pub PutsFront : List Region → Option (List (List ℕ)) → Option (List (List ℕ)) → Type 0
PutsFront rs (Some old) (Some now) = StandInFront rs old now
PutsFront rs (Some old) None = ⊥
PutsFront rs None (Some now) = ⊥
PutsFront rs None None = ⊤

-- a region of which any sectors stand, and nothing else changed
abbrev pub PutsTorn : Region → Option (List (List ℕ)) → Option (List (List ℕ)) → Type 0
PutsTorn r gives gives_now = IsTornBy (8 * r.cluster) (sectors_of r.bytes) gives gives_now

-- there are as many sectors as before, and from this one on each holds what it held
pub record KeepsFrom (first : ℕ) (old now : List (List ℕ)) : Type 0 where
  pub counted : length now ≡ length old
  pub others : (s : ℕ) → first ≤ s → sector_of now s ≡ sector_of old s

-- What reads give of the sectors behind the regions of a new volume stays: of its free clusters, of what lies behind the last
-- cluster, and of the device's last sector. The regions fill all sectors before these.
abbrev pub KeepsOthers : Layout → Option (List (List ℕ)) → Option (List (List ℕ)) → Type 0
KeepsOthers v (Some old) (Some now) = KeepsFrom (8 * used_clusters v) old now
KeepsOthers v (Some old) None = ⊥
KeepsOthers v None (Some now) = ⊥
KeepsOthers v None None = ⊤
