-- What a crash during a format or after it leaves: above a sector only what it might have left
-- before.
use Rattle.std.specs.Prelude.{◌⊎◌, ℕ, ◌*◌, ◌≤◌, List, IfSome}
use Rattle.disk_model.specs.Sectors.{sector_of}
use Rattle.sector_device.specs.Disks.{MayHold, IsSettled}
use Rattle.sector_device.specs.Moments.{Changes, LeftSince}
use Rattle.volume_format.specs.declared.layout.Layout.{Layout}
use Rattle.volume_format.specs.Layouts.{used_clusters}

-- nothing is unsynced; of a disk that is not known nothing is said
abbrev pub IsSettledNow : Changes → Type 0
IsSettledNow changes = IfSome changes.disk IsSettled

-- a crash at this moment may leave this value in this sector; of a disk that is not known nothing
-- is said
abbrev pub MayHoldNow : Changes → ℕ → List ℕ → Type 0
MayHoldNow changes s value = IfSome changes.disk (λ disk. MayHold disk s value)

-- a crash at this moment may leave in the sectors from the first one on what the image has there
abbrev pub MayHoldFrom : ℕ → Changes → List (List ℕ) → Type 0
MayHoldFrom first changes image = (s : ℕ) → first ≤ s → MayHoldNow changes s (sector_of image s)

-- Calls that begin at this moment add nothing from this sector on to what a crash may leave: not
-- when they are done, and not at any moment of theirs. An image that is left since a moment before
-- them was left before them, or has from this sector on what might have been left there.
pub record StaysFrom (first moment : ℕ) (old now : Changes) : Type 0 where
  pub holds : (s : ℕ) (value : List ℕ) → first ≤ s → MayHoldNow now s value → MayHoldNow old s value
  pub left : (count t : ℕ) (image : List (List ℕ)) → t ≤ moment → LeftSince count now t image → LeftSince count old t image ⊎ MayHoldFrom first old image

-- Whatever a crash since this moment leaves, now or while the format was at work, the sectors behind
-- the regions of the new volume hold what a crash might have left in them before: those of free
-- clusters, those behind the last cluster, and the device's last one.
abbrev pub KeepsLeft : Layout → ℕ → ℕ → Changes → Changes → Type 0
KeepsLeft v count moment old now = (image : List (List ℕ)) → LeftSince count now moment image → MayHoldFrom (8 * used_clusters v) old image
