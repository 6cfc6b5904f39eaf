-- Whatever a crash leaves of a volume that holds trees mounts, as one of them.
use Rattle.std.proofs.Common.{◌≡◌, ◌⊎◌, ℕ, suc, ◌-◌, ◌^◌, ◌≤◌, List, ◌∷◌, length, Option, Some, Result, Ok, subst, sym, ◌∙◌, inl, inr, arith}
use Rattle.std.specs.Prelude.{IfSome, max, nat_lt, slice_get}
use Rattle.host_base.specs.declared.outside.Failed.{Failed}
use Rattle.disk_model.specs.declared.block.Block.{Block}
use Rattle.disk_model.specs.Content.{content_of}
use Rattle.disk_model.specs.Sectors.{sector_of}
use Rattle.record_model.proofs.Answering.{needs_from_ok}
use Rattle.sector_device.specs.Disks.{Disk, MayLeave}
use Rattle.sector_device.specs.Moments.{Changes, MayLeaveNow, LeftSince}
use Rattle.file_tree.specs.declared.tree.Tree.{Tree}
use Rattle.crash_mounts.specs.map_change.Parts.{MapParts}
use Rattle.crash_mounts.proofs.plan_model.Drafting.{per_is}
use Rattle.crash_mounts.specs.state_blocks.Needing.{NeededIsAll}
use Rattle.log_page.specs.declared.places.LogPlace.{LogPlace}
use Rattle.crash_mounts.specs.image_open.Writing.{found_by}
use Rattle.crash_mounts.specs.mount_laws.Laws.{MountedByRecord}
use Rattle.crash_mounts.specs.volume_mount.Mounts.{MountedVolume, mounted_in, mounted_of}
use Rattle.store_claims.specs.Windows.{StoreWindow}
use Rattle.flush_policy.specs.declared.facts.StoreStep.{StoreStep}
use Rattle.crash_mounts.specs.txn_model.Values.{StoreFacts, is_own, own_of}
use Rattle.crash_mounts.specs.txn_laws.Laws.{WindowsTell}
use Rattle.crash_mounts.specs.txn_laws.Windows.{HasWindow, RecoversWithin, During, Simulates, lap_behind, next_lap_in}
use Rattle.crash_mounts.specs.txn_mount.Mountable.{IsFar}
use Rattle.crash_mounts.specs.txn_core.Steps.{AfterTurn}
use Rattle.resting_states.specs.found_stays.Found.{HasFirst, BearsFirst, StaysOver}
use Rattle.crash_mounts.specs.Mounting.{base_behind, IsLeftBy, MountsAsState, CrashesMount}
use Rattle.resting_states.proofs.Finding.{image_bears}
use Rattle.resting_states.proofs.Recovering.{since_counted}
use Rattle.crash_trees.specs.Trees.{StandsForTree, AreTrees, HasLog, IsMountedOn, HoldsTrees}
use Rattle.crash_trees.specs.Mounting.{MountsAsOne, TreesMount}
use Rattle.crash_trees.proofs.Claiming.{log_is_clear}
use Rattle.crash_trees.proofs.Turning.{StayTrees, turned}

-- ---- the first mount

some_sectors : (disk : List (List ℕ)) (m : MountedVolume) → mounted_of disk ≡ Ok m → mounted_in (content_of (sector_of disk)) (length disk) ≡ Ok m
unfolding mounted_of
some_sectors disk m is = (needs_from_ok (nat_lt 0 (length disk)) _ (λ _. mounted_in (content_of (sector_of disk)) (length disk)) m is).1

-- ---- one image

module _ (crash : CrashesMount) (records : MountedByRecord) (count : ℕ) (f : StoreFacts) (first : List (List ℕ)) (mounted : MountedVolume) (m : MapParts) (mount : IsMountedOn count f first mounted m) (inside : f.place.clusters ≤ 2 ^ 59) (few : count ≤ 2 ^ 62) (trees : List Tree) (w : StoreWindow)
    (are : AreTrees (base_behind first mounted f.place) mounted w trees) (claims : (k : ℕ) → HasLog mounted.volume (w.claimed.claims k)) (image : List (List ℕ)) (counted : length image ≡ count) (bears : BearsFirst f.found (sector_of first) (sector_of image)) (r : RecoversWithin f.place (own_of f) w (sector_of image))
    (far : IsFar f.place (next_lap_in f.place (sector_of image))) where
  -- recovery, in the words of the mounted volume
  x : RecoversWithin f.place (is_own f.place (found_by mounted.opened.geometry)) w (sector_of image)
  x = subst (λ (found : List Block). RecoversWithin f.place (is_own f.place found) w (sector_of image)) mount.found r

  state : (tree : Tree) × (slice_get trees x.back ≡ Some tree) × StandsForTree (base_behind first mounted f.place) mounted w x.back tree
  state = are x.back x.within

  eight : mounted.opened.geometry.per_cluster ≡ 8
  eight =
      let pages = mount.alike.pages in
      let small = mount.ring.small in
      (records (content_of (sector_of first)) (length first) mounted (some_sectors first mounted mount.mounts) (omega (arith, pages, small))).eight

  left : IsLeftBy first image mounted f.place w
  left = record {
    mounted = mount.mounts;
    alike = mount.alike;
    ring = mount.ring;
    inside = inside;
    near = omega (arith, few, counted);
    long = counted ∙ sym mount.counted;
    bears = subst (λ (found : List Block). BearsFirst found (sector_of first) (sector_of image)) mount.found bears;
    recovers = x;
    far = far;
    volume = state.2.volume;
    member = state.2.member;
    welcome = state.2.welcome;
    log_clear = log_is_clear mounted.volume state.2.volume x.list (w.claimed.claims x.back) (per_is (w.before x.back) mounted.opened.geometry mounted.opened.total state.2.volume eight state.2.member.stands) state.2.log (claims x.back) x.clear;
  }

  pub mounts_as_one : MountsAsOne trees w.waiting image
  unfolding left
  mounts_as_one = by (crash first image mounted f.place w left)
    where
      by : MountsAsState first image mounted f.place w left → MountsAsOne trees w.waiting image
      by now = record { back = x.back; within = x.within; tree = state.0; is_tree = state.1; now = now.now; mounts = now.mounts; stands = now.tree ∙ state.2.is_tree }

-- ---- how many count

pub as_one_more : (trees : List Tree) (most n : ℕ) (image : List (List ℕ)) → most ≤ n → MountsAsOne trees most image → MountsAsOne trees n image
as_one_more trees most n image le x = (let within = x.within in record { back = x.back; within = omega (arith, le, within); tree = x.tree; is_tree = x.is_tree; now = x.now; mounts = x.mounts; stands = x.stands })

as_one_later : (tree : Tree) (trees : List Tree) (most : ℕ) (image : List (List ℕ)) → MountsAsOne trees most image → MountsAsOne (tree ∷ trees) (suc most) image
as_one_later tree trees most image x = (let within = x.within in record { back = suc x.back; within = omega (arith, within); tree = x.tree; is_tree = x.is_tree; now = x.now; mounts = x.mounts; stands = x.stands })

-- a lap below one that is far from the end is far from it
pub farther : (place : LogPlace) (lap less : ℕ) → less ≤ lap → IsFar place lap → IsFar place less
farther place lap less le far = omega (arith, le, far)

module _ (needed : NeededIsAll) (tell : WindowsTell) (crash : CrashesMount) (records : MountedByRecord) where
  commits_wait : (changes : Changes) (f : StoreFacts) (w : StoreWindow) → HasWindow changes f w → w.waiting ≤ f.commits - f.durable
  commits_wait changes f w has = (let waits = tell.waiting changes f w has in omega (arith, waits))

  -- ---- between two calls

  now_mounts : (count : ℕ) (changes : Changes) (f : StoreFacts) (first : List (List ℕ)) (mounted : MountedVolume) (m : MapParts) (table : List ℕ) (disk : List (List ℕ)) (trees : List Tree) (w : StoreWindow) (image : List (List ℕ)) → HoldsTrees count changes f first mounted m table disk trees w
      → IsFar f.place (lap_behind f) → MayLeaveNow count changes image → MountsAsOne trees (f.commits - f.durable) image
  now_mounts count changes f first mounted m table disk trees w image holds far left = by holds.rests.rest.has
    where
      by : HasWindow changes f w → MountsAsOne trees (f.commits - f.durable) image
      by has =
          let firsts : HasFirst f.found (sector_of first) has.0 = subst (λ (o : Option Disk). IfSome o (HasFirst f.found (sector_of first))) has.1 holds.rests.stays in
          let may : MayLeave count has.0 image = subst (λ (o : Option Disk). IfSome o (λ (d : Disk). MayLeave count d image)) has.1 left in
          let r = tell.at_return count changes f w image has left in
          let near = farther f.place (lap_behind f) (next_lap_in f.place (sector_of image)) (tell.next_lap count changes f w image has left) far in
          as_one_more trees w.waiting (f.commits - f.durable) image (commits_wait changes f w has)
          (mounts_as_one crash records count f first mounted m holds.mount holds.rests.near holds.rests.few trees w holds.each holds.claims.claims image may.counted (image_bears count f.found (sector_of first) has.0 image firsts may) r near)

  -- ---- inside a step

  module _ (count moment : ℕ) (old now : Changes) (f g : StoreFacts) (first : List (List ℕ)) (mounted : MountedVolume) (m : MapParts) (table : List ℕ) (disk : List (List ℕ)) (trees : List Tree) (w : StoreWindow) (step : StoreStep) (result : Result (Unit {0}) Failed) (t : ℕ) (image : List (List ℕ))
      (holds : HoldsTrees count old f first mounted m table disk trees w) (takes : Simulates count moment old now f g (AfterTurn step result f)) (over : StaysOver count f.found (sector_of first) old now) (far : IsFar f.place (max (lap_behind f) (lap_behind g))) (before : t ≤ moment)
      (left : LeftSince count now t image) where
    abbrev Mounts : Type 0
    Mounts = LeftSince count old t image ⊎ MountsAsOne trees (f.commits - f.durable) image

    all_wait : w.waiting ≤ f.commits - f.durable
    all_wait = commits_wait old f w holds.rests.rest.has

    by_window : (v : StoreWindow) → StayTrees (base_behind first mounted f.place) mounted trees w v → length image ≡ count → BearsFirst f.found (sector_of first) (sector_of image) → next_lap_in f.place (sector_of image) ≤ max (lap_behind f) (lap_behind g) → RecoversWithin f.place (own_of f) v (sector_of image)
        → MountsAsOne trees (f.commits - f.durable) image
    by_window v stay counted bears low r =
        let fewer = stay.fewer in
        as_one_more trees v.waiting (f.commits - f.durable) image (omega (arith, fewer, all_wait))
        (mounts_as_one crash records count f first mounted m holds.mount holds.rests.near holds.rests.few trees v (stay.each holds.each) (stay.claims mounted.volume holds.claims).claims image counted bears r (farther f.place (max (lap_behind f) (lap_behind g)) (next_lap_in f.place (sector_of image)) low far))

    same_window : StayTrees (base_behind first mounted f.place) mounted trees w w
    same_window = record { fewer = omega arith; each = λ are. are; claims = λ v log. log }

    which : (u : StoreWindow) → AfterTurn step result f w u → length image ≡ count → BearsFirst f.found (sector_of first) (sector_of image) → next_lap_in f.place (sector_of image) ≤ max (lap_behind f) (lap_behind g)
        → LeftSince count old t image ⊎ (RecoversWithin f.place (own_of f) w (sector_of image) ⊎ RecoversWithin f.place (own_of f) u (sector_of image)) → Mounts
    which u after counted bears low (inl was) = inl was
    which u after counted bears low (inr (inl r)) = inr (by_window w same_window counted bears low r)
    which u after counted bears low (inr (inr r)) = inr (by_window u (turned needed (base_behind first mounted f.place) mounted trees step result f w u after) counted bears low r)

    by : (u : StoreWindow) × HasWindow now g u × AfterTurn step result f w u × During count moment old now f w u → LeftSince count old t image ⊎ BearsFirst f.found (sector_of first) (sector_of image) → LeftSince count old t image ⊎ (next_lap_in f.place (sector_of image) ≤ max (lap_behind f) (lap_behind g)) → Mounts
    by u (inl was) low = inl was
    by u (inr bears) (inl was) = inl was
    by u (inr bears) (inr low) = which u.0 u.2 (since_counted count now u.1.0 t image u.1.1 left) bears low (u.3 t image before left)

    step_mounts : LeftSince count old t image ⊎ MountsAsOne trees (f.commits - f.durable) image
    step_mounts = by (takes.steps w holds.rests.rest.has) (over.left holds.rests.stays t image left) (takes.laps w holds.rests.rest.has t image before left)

  pub trees_mount : TreesMount
  trees_mount = record {
    at_return = now_mounts;
    turn_leaves = step_mounts;
    put_leaves = λ result count gives gave before now old new m next xs t image put left. subst (λ (c : Changes). LeftSince count c t image) put.unchanged left;
    later = as_one_later;
    more = as_one_more;
  }
