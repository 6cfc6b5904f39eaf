-- An image that a crash leaves of a volume's store mounts as the state to which it recovers.
use Rattle.std.specs.Prelude.{◌≡◌, ◌^◌, ◌≤◌, ℕ, List, length, Ok}
use Rattle.disk_model.specs.Sectors.{sector_of}
use Rattle.disk_model.specs.Content.{content_of}
use Rattle.file_tree.specs.declared.tree.Tree.{Tree}
use Rattle.volume_model.specs.Volumes.{Volume}
use Rattle.mount_laws.specs.volume_state.Trees.{tree_of}
use Rattle.log_model.specs.Logs.{recovered}
use Rattle.log_page.specs.declared.places.LogPlace.{LogPlace}
use Rattle.log_reading.specs.Rings.{IsRingPlace}
use Rattle.mount_laws.specs.image_open.LogPlaces.{LieAlike}
use Rattle.mount_laws.specs.image_open.Writing.{found_by}
use Rattle.store_claims.specs.Windows.{StoreWindow}
use Rattle.member_states.specs.txn_model.Values.{is_own}
use Rattle.member_states.specs.txn_laws.Windows.{RecoversWithin, next_lap_in}
use Rattle.txn_mount.specs.Mountable.{IsFar}
use Rattle.mount_laws.specs.volume_mount.Mounts.{MountedVolume, tree_in, mounted_of}
use Rattle.member_states.specs.Members.{VolumeBase, BearsFound, MemberIs}
use Rattle.mount_laws.specs.volume_mount.Welcome.{IsWelcome}
use Rattle.crash_mounts.specs.Clearing.{IsLogClear}

-- an image mounts as this tree
pub record MountsTree (image : List (List ℕ)) (tree : Tree) : Type 0 where
  pub now : MountedVolume
  pub mounts : mounted_of image ≡ Ok now
  pub stands : tree_in now ≡ tree

-- what the states of a volume stand on that was mounted from these sectors, with its log at this place
abbrev pub base_behind : List (List ℕ) → MountedVolume → LogPlace → VolumeBase
base_behind first m place = record {
  own = is_own place (found_by m.opened.geometry);
  found = found_by m.opened.geometry;
  lies = content_of (sector_of first);
  geometry = m.opened.geometry;
  clusters = m.opened.total;
}

-- A volume was mounted from the first sectors. The image is as long, and bears the blocks by which the log is found as they were; the log of it is read whole, and recovery by it leaves the content of
-- the store's window so many commits back on all that is claimed there. This is a state that shows what a mount
-- asks beside the rules; the laps of the log don't come near their end, and the list shadows none of the log's own blocks.
pub record IsLeftBy (first image : List (List ℕ)) (m : MountedVolume) (place : LogPlace) (w : StoreWindow) : Type 0 where
  pub mounted : mounted_of first ≡ Ok m
  pub alike : LieAlike place m.opened.place
  pub ring : IsRingPlace place
  pub inside : place.clusters ≤ 2 ^ 59
  pub near : length image ≤ 2 ^ 62
  pub long : length image ≡ length first
  pub bears : BearsFound (base_behind first m place) (sector_of image)
  pub recovers : RecoversWithin place (is_own place (found_by m.opened.geometry)) w (sector_of image)
  pub far : IsFar place (next_lap_in place (sector_of image))
  pub volume : Volume
  pub member : MemberIs (base_behind first m place) w recovers.back volume
  pub welcome : IsWelcome (w.before recovers.back) volume
  pub log_clear : IsLogClear recovers.list volume

-- The image mounts: as the same volume, on the same log; its content is the recovered one, and its tree that of the state.
pub record MountsAsState (first image : List (List ℕ)) (m : MountedVolume) (place : LogPlace) (w : StoreWindow) (x : IsLeftBy first image m place w) : Type 0 where
  pub now : MountedVolume
  pub mounts : mounted_of image ≡ Ok now
  pub geometry : now.opened.geometry ≡ m.opened.geometry
  pub total : now.opened.total ≡ m.opened.total
  pub place_is : now.opened.place ≡ m.opened.place
  pub log : now.opened.state.log ≡ x.recovers.list
  pub content : now.content ≡ recovered (content_of (sector_of image)) x.recovers.list
  pub volume : now.volume ≡ x.volume
  pub tree : tree_in now ≡ tree_of (w.before x.recovers.back) x.volume

abbrev pub CrashesMount : Type 0
CrashesMount = (first image : List (List ℕ)) (m : MountedVolume) (place : LogPlace) (w : StoreWindow) (x : IsLeftBy first image m place w) → MountsAsState first image m place w x
