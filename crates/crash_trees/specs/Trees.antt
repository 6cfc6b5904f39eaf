-- The trees that a crash may bring back of a mounted volume on a device, between two calls.
use Rattle.std.specs.Prelude.{◌≡◌, ◌<◌, ◌≤◌, ℕ, Bool, true, List, length, slice_get, Option, Some, Ok}
use Rattle.disk_model.specs.declared.block.Block.{Block}
use Rattle.disk_model.specs.declared.block.BlockKind.TheVariants.{Plain}
use Rattle.disk_model.specs.Sectors.{sector_of}
use Rattle.sector_device.specs.Moments.{Changes}
use Rattle.file_tree.specs.declared.tree.Tree.{Tree}
use Rattle.volume_model.specs.Volumes.{Volume}
use Rattle.volume_model.specs.Owners.{uses}
use Rattle.volume_state.specs.Trees.{tree_of}
use Rattle.stream_laws.specs.Sharing.{stream_at, runs_in}
use Rattle.crash_mounts.specs.map_change.Parts.{MapParts}
use Rattle.crash_mounts.specs.plan_owners.Agreeing.{log_key}
use Rattle.crash_mounts.specs.plan_owners.Kinds.{cluster_of}
use Rattle.log_reading.specs.Rings.{IsRingPlace}
use Rattle.crash_mounts.specs.image_open.LogPlaces.{LieAlike}
use Rattle.crash_mounts.specs.image_open.Writing.{found_by}
use Rattle.crash_mounts.specs.volume_mount.Mounts.{MountedVolume, mounted_of}
use Rattle.store_claims.specs.Claims.{ClaimWindow}
use Rattle.store_claims.specs.Windows.{StoreWindow}
use Rattle.crash_mounts.specs.txn_model.Values.{StoreFacts}
use Rattle.crash_mounts.specs.txn_state.States.{facts_of}
use Rattle.crash_mounts.specs.txn_core.Seen.{Seen}
use Rattle.crash_mounts.specs.state_store.Volumes.{geometry_of}
use Rattle.crash_mounts.specs.member_states.Members.{VolumeBase, MemberIs}
use Rattle.crash_mounts.specs.volume_mount.Welcome.{IsWelcome}
use Rattle.crash_mounts.specs.Mounting.{base_behind}
use Rattle.resting_states.specs.Resting.{Rests}

-- The content so many commits back is a state of a volume with this tree. A mount takes it, and its log has the clusters that the mounted volume's has.
pub record StandsForTree (base : VolumeBase) (mounted : MountedVolume) (w : StoreWindow) (k : ℕ) (tree : Tree) : Type 0 where
  pub volume : Volume
  pub member : MemberIs base w k volume
  pub welcome : IsWelcome (w.before k) volume
  pub log : runs_in (stream_at volume log_key) ≡ runs_in (stream_at mounted.volume log_key)
  pub is_tree : tree_of (w.before k) volume ≡ tree

-- each sector in a cluster of the volume's log is one of which this is so
abbrev pub HasLog : Volume → (Block → Bool) → Type 0
HasLog v claims = (b : Block) → b.kind ≡ Plain → 0 < uses (runs_in (stream_at v log_key)) (cluster_of b) → claims b ≡ true

-- Each sector in a cluster of the volume's log is claimed, of each content that a crash may bring back and of the present one.
pub record ClaimsLog (v : Volume) (c : ClaimWindow) : Type 0 where
  pub claims : (k : ℕ) → HasLog v (c.claims k)
  pub will : HasLog v c.will

-- these are the trees, the newest first, of which that so many commits back stands for the content so many commits back
abbrev pub AreTrees : VolumeBase → MountedVolume → StoreWindow → List Tree → Type 0
AreTrees base mounted w trees = (k : ℕ) → k ≤ w.waiting → (tree : Tree) × (slice_get trees k ≡ Some tree) × StandsForTree base mounted w k tree

-- A volume was mounted from the first sectors, so many; by its log the store keeps its own, which is found by the same blocks; and this map finds the file table where it was found then.
pub record IsMountedOn (count : ℕ) (f : StoreFacts) (first : List (List ℕ)) (mounted : MountedVolume) (m : MapParts) : Type 0 where
  pub mounts : mounted_of first ≡ Ok mounted
  pub counted : length first ≡ count
  pub geometry : geometry_of m ≡ mounted.opened.geometry
  pub clusters : m.volume.clusters ≡ mounted.opened.total
  pub found : f.found ≡ found_by mounted.opened.geometry
  pub alike : LieAlike f.place mounted.opened.place
  pub ring : IsRingPlace f.place

-- Such a volume rests over its store in this window, whose contents are states with these trees, the newest first; and the log's own sectors are claimed.
pub record HoldsTrees (count : ℕ) (changes : Changes) (f : StoreFacts) (first : List (List ℕ)) (mounted : MountedVolume) (m : MapParts) (table : List ℕ) (disk : List (List ℕ)) (trees : List Tree) (w : StoreWindow) : Type 0 where
  pub rests : Rests count changes f (sector_of first) m table disk w
  pub mount : IsMountedOn count f first mounted m
  pub each : AreTrees (base_behind first mounted f.place) mounted w trees
  pub claims : ClaimsLog mounted.volume w.claimed

-- so it is in a window that follows
pub record HoldsTreesBy (count : ℕ) (changes : Changes) (f : StoreFacts) (first : List (List ℕ)) (mounted : MountedVolume) (m : MapParts) (table : List ℕ) (disk : List (List ℕ)) (trees : List Tree) (After : StoreWindow → Type 0) : Type 0 where
  pub window : StoreWindow
  pub follows : After window
  pub holds : HoldsTrees count changes f first mounted m table disk trees window

-- and over the sectors that the device of a store gives now
pub record HoldsTreesOn {D : Type 0} (gives : D → Option (List (List ℕ))) (count : D → ℕ) (changes : D → Changes) (s : Seen D) (first : List (List ℕ)) (mounted : MountedVolume) (m : MapParts) (table : List ℕ) (trees : List Tree) (After : StoreWindow → Type 0) : Type 0 where
  pub disk : List (List ℕ)
  pub given : gives s.device ≡ Some disk
  pub behind : HoldsTreesBy (count s.device) (changes s.device) (facts_of s.state) first mounted m table disk trees After
