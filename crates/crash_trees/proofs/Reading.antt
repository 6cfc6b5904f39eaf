-- What a volume at rest reads of its store is the newest content of its window.
use Rattle.std.proofs.Common.{◌≡◌, ℕ, true, subst, List, Some, Ok, sym, ap, ◌∙◌, inl, inr, arith}
use mathlib.Core.Path.{fun_ext}
use Rattle.std.specs.Prelude.{slice_get}
use Rattle.disk_model.specs.declared.block.Block.{Block}
use Rattle.disk_model.specs.declared.block.Body.{Body}
use Rattle.disk_model.specs.Content.{Content, content_of}
use Rattle.disk_model.specs.Sectors.{sector_of}
use Rattle.sector_device.specs.Moments.{Changes}
use Rattle.file_tree.specs.declared.tree.Tree.{Tree}
use Rattle.state_model.specs.declared.geometry.Geometry.{Geometry}
use Rattle.volume_model.specs.Volumes.{Volume}
use Rattle.volume_state.specs.Trees.{tree_of}
use Rattle.stream_laws.specs.Sharing.{stream_at, runs_in}
use Rattle.crash_mounts.specs.map_change.Parts.{MapParts}
use Rattle.crash_mounts.specs.plan_owners.Agreeing.{log_key}
use Rattle.crash_mounts.specs.plan_owners.States.{Stands}
use Rattle.crash_mounts.specs.state_blocks.Needing.{IsNeeded, AgreeOnNeeded, NeededIsAll}
use Rattle.log_page.specs.declared.places.LogPlace.{LogPlace}
use Rattle.crash_mounts.specs.image_open.Writing.{found_by}
use Rattle.crash_mounts.specs.volume_mount.Mounts.{MountedVolume, has_no_journal}
use Rattle.store_model.specs.Volumes.{is_known}
use Rattle.store_claims.specs.Windows.{StoreWindow}
use Rattle.crash_mounts.specs.txn_model.Values.{StoreFacts, is_own, own_of}
use Rattle.crash_mounts.specs.txn_laws.Windows.{IsShown}
use Rattle.crash_mounts.proofs.txn_laws.Showing.{present_shown}
use Rattle.crash_mounts.specs.txn_core.Views.{present_on}
use Rattle.crash_mounts.specs.state_store.Volumes.{geometry_of}
use Rattle.crash_mounts.proofs.state_store.Windowed.{newest_is_present}
use Rattle.crash_mounts.specs.member_states.Members.{VolumeBase, IsSafe, MemberIs}
use Rattle.crash_mounts.proofs.member_states.Putting.{one_volume}
use Rattle.crash_mounts.specs.volume_mount.Welcome.{IsWelcome}
use Rattle.crash_mounts.specs.Mounting.{base_behind}
use Rattle.resting_states.specs.Resting.{base_from, Rests}
use Rattle.crash_trees.specs.Trees.{StandsForTree, AreTrees, IsMountedOn, HoldsTrees}
use Rattle.crash_trees.specs.Puts.{ShowsNewest}

-- ---- contents that agree

-- a mount that takes a state takes each content that agrees with it
pub welcome_now : NeededIsAll → (c d : Content) (v : Volume) → AgreeOnNeeded c d v → IsWelcome c v → IsWelcome d v
welcome_now law c d v agree is = record {
  version = is.version;
  no_journal = subst (λ (u : List ℕ). has_no_journal u v ≡ Ok tt) (sym (law.upper c d v agree)) is.no_journal;
  lists = is.lists;
  log = is.log;
  boot = record { others = is.boot.others; marked = rw (law.clusters c d v agree) is.boot.marked };
}

-- ---- what the states stand on

abbrev base_with : LogPlace → List (List ℕ) → List Block → Geometry → ℕ → VolumeBase
base_with place first found g clusters = record { own = is_own place found; found = found; lies = content_of (sector_of first); geometry = g; clusters = clusters }

pub base_is : (count : ℕ) (f : StoreFacts) (first : List (List ℕ)) (mounted : MountedVolume) (m : MapParts) → IsMountedOn count f first mounted m → base_from f (sector_of first) m ≡ base_behind first mounted f.place
base_is count f first mounted m k =
    ap (λ (found : List Block). base_with f.place first found (geometry_of m) m.volume.clusters) k.found
    ∙ ap (λ (g : Geometry). base_with f.place first (found_by mounted.opened.geometry) g m.volume.clusters) k.geometry
    ∙ ap (base_with f.place first (found_by mounted.opened.geometry) mounted.opened.geometry) k.clusters

-- ---- what is read

module _ (law : NeededIsAll) (count : ℕ) (changes : Changes) (f : StoreFacts) (first : List (List ℕ)) (mounted : MountedVolume) (m : MapParts) (table : List ℕ) (disk : List (List ℕ)) (w : StoreWindow) (rests : Rests count changes f (sector_of first) m table disk w) (mount : IsMountedOn count f first mounted m) where
  abbrev read : Content
  read = present_on disk f

  abbrev g : Geometry
  g = geometry_of m

  abbrev clusters : ℕ
  clusters = m.volume.clusters

  shown : (b : Block) → is_known (own_of f) b ≡ true → IsShown w b (read b)
  shown b known = present_shown changes f w (Some disk) rests.rest.has rests.rest.sees b known

  read_agrees : AgreeOnNeeded w.present read rests.rest.members.volume
  read_agrees = record { bodies = λ b needed. by b (rests.rest.members.present.safe b needed); void = rests.rest.void ∙ sym rests.rest.members.present.void }
    where
      by : (b : Block) → IsSafe (base_from f (sector_of first) m) w.present b → ((read b).bytes ≡ (w.present b).bytes) × ((read b).torn ≡ true → (w.present b).torn ≡ true)
      by b (inl known) = (let is = shown b known in (is.bytes, is.torn))
      by b (inr still) = (let same : read b ≡ w.present b = rests.rest.found b still.0 ∙ sym still.1 in (ap (λ (y : Body). y.bytes) same, λ torn. ap (λ (y : Body). y.torn) (sym same) ∙ torn))

  one : rests.rest.members.volume ≡ m.volume
  one = one_volume read g clusters rests.rest.members.volume m.volume (law.stands w.present read g clusters rests.rest.members.volume rests.rest.members.present.stands read_agrees) rests.state.stands

  agrees : AgreeOnNeeded w.present read m.volume
  agrees = subst (AgreeOnNeeded w.present read) one read_agrees

  stands : Stands w.present g clusters m.volume
  stands = subst (Stands w.present g clusters) one rests.rest.members.present.stands

  to_window : (b : Block) → IsNeeded read m.volume b → IsNeeded w.present m.volume b
  to_window b needed = law.needed w.present read g clusters m.volume b stands agrees needed

  back_agrees : AgreeOnNeeded read w.present m.volume
  back_agrees = record {
    bodies = λ b needed. (sym (agrees.bodies b (to_window b needed)).0, (rests.rest.spared b needed).shown);
    void = sym agrees.void;
  }

  -- ---- the newest content of those that a crash may bring back

  newest : w.before 0 ≡ w.present
  newest = fun_ext (newest_is_present changes f w rests.rest.has rests.rest.closed)

  newest_stands : Stands (w.before 0) g clusters m.volume
  newest_stands = subst (λ (c : Content). Stands c g clusters m.volume) (sym newest) stands

  newest_member : MemberIs (base_behind first mounted f.place) w 0 m.volume
  newest_member =
      let first_one = rests.rest.members.members 0 (omega arith) in
      let same : first_one.0 ≡ m.volume = one_volume (w.before 0) g clusters first_one.0 m.volume first_one.1.stands newest_stands in
      subst (λ (base : VolumeBase). MemberIs base w 0 m.volume) (base_is count f first mounted m mount) (subst (MemberIs (base_from f (sector_of first) m) w 0) same first_one.1)

  newest_tree : tree_of (w.before 0) m.volume ≡ tree_of read m.volume
  newest_tree = ap (λ (c : Content). tree_of c m.volume) newest ∙ sym (law.tree w.present read g clusters m.volume stands agrees)

  -- where a mount takes what is read, the newest content stands for its tree
  pub newest_for : IsWelcome read m.volume → runs_in (stream_at m.volume log_key) ≡ runs_in (stream_at mounted.volume log_key) → StandsForTree (base_behind first mounted f.place) mounted w 0 (tree_of read m.volume)
  newest_for welcome log = record {
    volume = m.volume;
    member = newest_member;
    welcome = subst (λ (c : Content). IsWelcome c m.volume) (sym newest) (welcome_now law read w.present m.volume back_agrees welcome);
    log = log;
    is_tree = newest_tree;
  }

  -- and the other way round
  pub shows_newest : (trees : List Tree) → AreTrees (base_behind first mounted f.place) mounted w trees → ShowsNewest f mounted m disk trees
  shows_newest trees are = by (are 0 (omega arith))
    where
      by : (tree : Tree) × (slice_get trees 0 ≡ Some tree) × StandsForTree (base_behind first mounted f.place) mounted w 0 tree → ShowsNewest f mounted m disk trees
      by found =
          let x = found.2 in
          let same : x.volume ≡ m.volume = one_volume (w.before 0) mounted.opened.geometry mounted.opened.total x.volume m.volume x.member.stands newest_member.stands in
          let tree : found.0 ≡ tree_of read m.volume = sym x.is_tree ∙ ap (tree_of (w.before 0)) same ∙ newest_tree in
          record {
            newest = found.1 ∙ ap Some tree;
            welcome = welcome_now law w.present read m.volume agrees (subst (λ (c : Content). IsWelcome c m.volume) newest (subst (IsWelcome (w.before 0)) same x.welcome));
            log = ap (λ (v : Volume). runs_in (stream_at v log_key)) (sym same) ∙ x.log;
          }

pub trees_show : NeededIsAll → (count : ℕ) (changes : Changes) (f : StoreFacts) (first : List (List ℕ)) (mounted : MountedVolume) (m : MapParts) (table : List ℕ) (disk : List (List ℕ)) (trees : List Tree) (w : StoreWindow) → HoldsTrees count changes f first mounted m table disk trees w → ShowsNewest f mounted m disk trees
trees_show law count changes f first mounted m table disk trees w holds = shows_newest law count changes f first mounted m table disk w holds.rests holds.mount trees holds.each
