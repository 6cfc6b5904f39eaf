-- A run begins on a volume that was opened.
use Rattle.std.proofs.Common.{◌≡◌, ◌⊎◌, subst, ℕ, ◌+◌, ◌*◌, ◌^◌, ◌<◌, ◌≤◌, List, [], ◌∷◌, Option, Some, None, Result, Ok, refl, sym, ap, ◌∙◌, inl, inr, arith}
use Rattle.std.specs.Prelude.{IfSome}
use Rattle.sector_device.specs.Disks.{Disk, MayLeave, IsSettled, AreOver, SeesDisk}
use Rattle.sector_device.specs.Moments.{Changes, LeftSince}
use Rattle.sector_device.specs.Sectors.{IsDiskOf}
use Rattle.sector_device.proofs.Images.{present_is_now, settled_is_one, seen_is_left}
use Rattle.log_page.specs.declared.places.LogPlace.{LogPlace}
use Rattle.log_page.specs.Places.{sequence_bits}
use Rattle.volume_open.specs.volume_core.image_open.declared.refusal.Refusal.{Refusal}
use Rattle.volume_open.specs.volume_core.volume_mount.Mounts.{MountedVolume, tree_in, mounted_of}
use Rattle.log_area.specs.Areas.{ring_size}
use Rattle.volume_open.specs.volume_core.working_volume.txn_laws.Windows.{lap_behind}
use Rattle.volume_open.specs.volume_core.plans_lead.txn_model.Values.{StoreFacts}
use Rattle.volume_open.specs.volume_core.txn_core.txn_state.States.{facts_of}
use Rattle.volume_open.specs.volume_core.txn_mount.Mountable.{IsFar}
use Rattle.volume_open.specs.volume_core.crash_trees.crash_mounts.Mounting.{MountsTree}
use Rattle.volume_open.specs.volume_core.Volumes.{SeenVolume, volume_tree}
use Rattle.volume_open.specs.volume_core.Histories.{HasHistory}
use Rattle.volume_open.specs.volume_start.Starts.{StaysStarted}
use Rattle.volume_open.specs.Opens.{IsOpened}
use Rattle.change_run.specs.Runs.{StartsAs, LapsBounded}
use Rattle.change_run.proofs.Carrying.{since_earlier}
use Rattle.change_run.specs.volume_replies.Replies.{BeginsAtMost}
use Rattle.writing_run.specs.Runs.{IsSoundAtEntry}

same_mounted : (meant : Result MountedVolume Refusal) (a b : MountedVolume) → meant ≡ Ok a → meant ≡ Ok b → a ≡ b
same_mounted meant a b one two = cc

-- ---- images of before

-- of sectors that are settled a crash leaves these alone
same_as_first : (count : ℕ) (first image : List (List ℕ)) (o : Option Disk) → IsDiskOf count first → SeesDisk (Some first) o → IfSome o IsSettled → IfSome o (λ d. MayLeave count d image) → image ≡ first
same_as_first count first image None whole sees settled left = absurd sees
same_as_first count first image (Some d) whole sees settled left = settled_is_one count d image first settled left (seen_is_left count d first whole sees)

pub as_itself : (first image : List (List ℕ)) (m : MountedVolume) → mounted_of first ≡ Ok m → image ≡ first → MountsTree image (tree_in m)
as_itself first image m mounts same = subst (λ (x : List (List ℕ)). MountsTree x (tree_in m)) (sym same) (record { now = m; mounts = mounts; stands = refl })

-- ---- the volume that was opened

module _ {D : Type 0} {gives : D → Option (List (List ℕ))} {count : D → ℕ} {changes : D → Changes} (first : List (List ℕ)) (m : MountedVolume) (mounts : mounted_of first ≡ Ok m) (v : SeenVolume D) (opened : IsOpened gives count changes first v) where
  pub same : opened.mounted ≡ m
  same = same_mounted (mounted_of first) opened.mounted m opened.mounts mounts

  pub tree_known : volume_tree gives v ≡ Some (tree_in m)
  tree_known = opened.tree ∙ ap (λ (x : MountedVolume). Some (tree_in x)) same

-- ---- what a start leaves

module _ {D : Type 0} (gives : D → Option (List (List ℕ))) (count moment : D → ℕ) (changes : D → Changes)
    (over : (d : D) → AreOver (moment d) (changes d).past) (sees : (d : D) → SeesDisk (gives d) (changes d).disk) (whole : (d : D) → IfSome (gives d) (IsDiskOf (count d)))
    (first : List (List ℕ)) (m : MountedVolume) (old : D) (known : gives old ≡ Some first) (mounts : mounted_of first ≡ Ok m) (sound : IsSoundAtEntry first m (changes old)) where
  -- what was left of the device before is what its reads give
  pub was_first : (image : List (List ℕ)) → LeftSince (count old) (changes old) (moment old) image → image ≡ first
  was_first image left =
      same_as_first (count old) first image (changes old).disk (subst (λ (o : Option (List (List ℕ))). IfSome o (IsDiskOf (count old))) known (whole old)) (subst (λ (o : Option (List (List ℕ))). SeesDisk o (changes old).disk) known (sees old)) sound.settled
      (present_is_now (count old) (moment old) (changes old) image (over old) left)

  -- and whatever a start leaves mounts as the same tree
  pub start_left : (now : Changes) → StaysStarted (count old) (moment old) first (changes old) now → (t : ℕ) (image : List (List ℕ)) → moment old ≤ t → LeftSince (count old) now t image → MountsTree image (tree_in m)
  start_left now stays t image le left = by ((stays m mounts).mounts sound.log (moment old) image (omega arith) (since_earlier (count old) t (moment old) now image le left))
    where
      by : LeftSince (count old) (changes old) (moment old) image ⊎ MountsTree image (tree_in m) → MountsTree image (tree_in m)
      by (inl was) = as_itself first image m mounts (was_first image was)
      by (inr is) = is

  -- and so does a volume that was opened there begin
  pub starts_as : (v : SeenVolume D) → IsOpened gives count changes first v → count v.store.device ≡ count old → StaysStarted (count old) (moment old) first (changes old) (changes v.store.device) → StartsAs gives count changes v (moment old) first (tree_in m)
  starts_as v opened sectors stays = record {
    older = [];
    has = subst (λ (x : MountedVolume). HasHistory gives count changes v first (tree_in x ∷ [])) (same first m mounts v opened) opened.history;
    durable = opened.durable;
    present = tree_known first m mounts v opened;
    left = λ far t image le left. start_left (changes v.store.device) stays t image le (subst (λ (n : ℕ). LeftSince n (changes v.store.device) t image) sectors left);
  }

-- ---- laps

-- behind so few turns of a volume that was opened the laps of its log aren't near their end
module _ {D : Type 0} {gives : D → Option (List (List ℕ))} {count : D → ℕ} {changes : D → Changes} (laps : LapsBounded) (first : List (List ℕ)) (m : MountedVolume) (mounts : mounted_of first ≡ Ok m) (before : Changes) (sound : IsSoundAtEntry first m before)
    (v : SeenVolume D) (opened : IsOpened gives count changes first v) where
  abbrev same_one : opened.mounted ≡ m
  same_one = same first m mounts v opened

  some_pages : 4 < (facts_of v.store.state).log.pages
  some_pages = (let pages = opened.log.pages in let some = opened.log.ring.ring in omega (arith, pages, some))

  pub far : (n : ℕ) (g : StoreFacts) → n ≤ 16384 → g.place ≡ (facts_of v.store.state).place → BeginsAtMost (n * ring_size (facts_of v.store.state).log) (facts_of v.store.state) g → IsFar g.place (lap_behind g)
  far n g few place begins =
      let most = laps n (facts_of v.store.state) g some_pages opened.log.empty begins in
      let lap : (facts_of v.store.state).log.lap ≡ m.opened.state.next_lap = opened.log.lap ∙ ap (λ (x : MountedVolume). x.opened.state.next_lap) same_one in
      let pages : g.place.pages ≡ m.opened.place.pages = ap (λ (p : LogPlace). p.pages) place ∙ opened.log.alike.pages ∙ ap (λ (x : MountedVolume). x.opened.place.pages) same_one in
      let left : m.opened.state.next_lap + 2 ^ 17 < 2 ^ sequence_bits g.place.pages = subst (λ (k : ℕ). m.opened.state.next_lap + 2 ^ 17 < 2 ^ sequence_bits k) (sym pages) sound.laps in
      omega (arith, most, lap, few, left)
