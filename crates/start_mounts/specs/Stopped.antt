-- An image that a crash leaves inside the start of a mounted volume mounts as the tree that was mounted.
use Rattle.std.specs.Prelude.{◌≡◌, ◌^◌, ◌≤◌, ℕ, suc, List, length, Ok}
use Rattle.disk_model.specs.Sectors.{sector_of, IsDisk}
use Rattle.disk_model.specs.Content.{content_of}
use Rattle.log_page.specs.declared.places.LogPlace.{LogPlace}
use Rattle.log_reading.specs.Rings.{IsRingPlace}
use Rattle.safe_blocks.specs.image_open.LogPlaces.{LieAlike}
use Rattle.safe_blocks.specs.image_open.Writing.{found_by}
use Rattle.safe_blocks.specs.volume_mount.Mounts.{MountedVolume, tree_in, mounted_of}
use Rattle.txn_model.specs.Values.{is_own}
use Rattle.txn_mount.specs.Contents.{mounted_content, UpdatesKnown}
use Rattle.txn_mount.specs.Images.{RecoversAlike}
use Rattle.txn_mount.specs.Mountable.{IsFar}
use Rattle.member_states.specs.Members.{BearsFound}
use Rattle.mounted_states.specs.Shown.{NoneStaysTorn}
use Rattle.crash_mounts.specs.Mounting.{MountsTree, base_behind}

-- A volume was mounted from the first sectors, whose log updates blocks alone that a store may change, and of which no block from which the volume is read stays torn. The image is as long, bears the blocks by which
-- the log is found as they were, and recovers by this log, where it lies, to what a mount makes of the first sectors; the lap of that mount isn't near the end of the laps.
pub record IsLeftInStart (first image : List (List ℕ)) (m : MountedVolume) (place : LogPlace) : Type 0 where
  pub mounted : mounted_of first ≡ Ok m
  pub whole : IsDisk first
  pub untorn : NoneStaysTorn (content_of (sector_of first)) m
  pub alike : LieAlike place m.opened.place
  pub ring : IsRingPlace place
  pub updates : UpdatesKnown (is_own place (found_by m.opened.geometry)) m.opened.state.log
  pub far : IsFar place (suc m.opened.state.next_lap)
  pub near : length image ≤ 2 ^ 62
  pub long : length image ≡ length first
  pub bears : BearsFound (base_behind first m place) (sector_of image)
  pub recovers : RecoversAlike place (found_by m.opened.geometry) m.opened.state.log (mounted_content (content_of (sector_of first)) m.opened.state.log) m.opened.state.next_lap (sector_of image)

-- Then the image mounts as the tree that was mounted.
abbrev pub StoppedStartsMount : Type 0
StoppedStartsMount = (first image : List (List ℕ)) (m : MountedVolume) (place : LogPlace) → IsLeftInStart first image m place → MountsTree image (tree_in m)
