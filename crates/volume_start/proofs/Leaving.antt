-- What a crash leaves while a store is mounted on a device that was synced.
use Rattle.std.proofs.Common.{◌≡◌, ◌⊎◌, ℕ, ◌^◌, ◌<◌, ◌≤◌, true, List, [], ◌∷◌, length, Option, Some, None, Result, Ok, Err, refl, sym, ap, subst, ◌∙◌, inl, inr, arith}
use mathlib.Core.Path.{fun_ext}
use Rattle.std.specs.Prelude.{IfSome}
use Rattle.std.specs.List.{list_any}
use Rattle.disk_model.specs.declared.block.Block.{Block}
use Rattle.disk_model.specs.Sectors.{sector_of, same_block}
use Rattle.disk_model.specs.Content.{content_of}
use Rattle.sector_device.specs.Disks.{Disk, Past, MayLeave, WasLeft, IsSettled, SeesDisk, seen}
use Rattle.sector_device.specs.Moments.{Changes, LeftSince}
use Rattle.sector_device.specs.Sectors.{IsDiskOf}
use Rattle.log_page.specs.declared.places.LogPlace.{LogPlace}
use Rattle.log_recovery.specs.Writing.{state_with, to_write_in}
use Rattle.store_model.specs.Geometry.{SectorBytes}
use Rattle.mounted_states.specs.image_open.declared.refusal.Refusal.{Refusal}
use Rattle.mounted_states.specs.image_open.LogPlaces.{LieAlike}
use Rattle.mounted_states.specs.image_open.Writing.{found_by}
use Rattle.mounted_states.specs.volume_mount.Mounts.{MountedVolume, tree_in}
use Rattle.mounted_states.specs.found_stays.Found.{HasFirst, StaysFirst, BearsFirst, StaysOver}
use Rattle.mounted_states.proofs.found_stays.Lying.{settled_has}
use Rattle.mounted_states.specs.safe_blocks.Safe.{MountsHoldStates}
use Rattle.mounted_states.specs.Shown.{AllPutOut}
use Rattle.mounted_states.specs.Calls.{FoundLieOff, StoresKeepFound}
use Rattle.ring_laws.specs.PageBytes.{raw_page}
use Rattle.ring_laws.specs.RestartPages.{said_restart}
use Rattle.txn_model.specs.Values.{StoreFacts}
use Rattle.txn_mount.specs.declared.fault.StoreFault.{StoreFault}
use Rattle.txn_mount.specs.Contents.{mounted_content}
use Rattle.txn_mount.specs.Images.{RecoversAlike, OneIsNewer}
use Rattle.txn_mount.specs.Mounts.{IsMounted, StopsMount, ReadsOn, StaysRecovered}
use Rattle.txn_mount.specs.Plans.{items_by}
use Rattle.start_mounts.specs.crash_mounts.Mounting.{MountsTree}
use Rattle.start_mounts.specs.Stopped.{IsLeftInStart, StoppedStartsMount}
use Rattle.volume_start.specs.declared.plan.StartPlan.{StartPlan}
use Rattle.volume_start.specs.Fitting.{FitsStart}
use Rattle.volume_start.specs.Plans.{PlansOn}
use Rattle.volume_start.specs.Starts.{HasSoundLog, StaysMounted, StaysStarted}
use Rattle.volume_start.proofs.Known.{known_behind}
use Rattle.volume_start.proofs.Meant.{Meant, found_meant, alike, kept_is, reads, off_plan, none_torn}
use Rattle.volume_start.proofs.Sound.{newer_there, updates_there, far_there}

-- ---- an image of a known disk has its sectors

was_counted : (count t : ℕ) (past : List Past) (image : List (List ℕ)) → WasLeft count past t image → length image ≡ count
was_counted count t [] image left = absurd left
was_counted count t (p ∷ past) image (inl left) = left.1.counted
was_counted count t (p ∷ past) image (inr left) = was_counted count t past image left

left_counted : (count t : ℕ) (now : Changes) (image : List (List ℕ)) (e : Disk) → now.disk ≡ Some e → LeftSince count now t image → length image ≡ count
left_counted count t now image e is left = by (subst (λ (o : Option Disk). IfSome o (λ disk. MayLeave count disk image ⊎ WasLeft count now.past t image)) is left)
  where
    by : MayLeave count e image ⊎ WasLeft count now.past t image → length image ≡ count
    by (inl may) = may.counted
    by (inr was) = was_counted count t now.past image was

same_volume : (a b : MountedVolume) → ◌≡◌ {A = Result MountedVolume Refusal} (Ok a) (Ok b) → a ≡ b
same_volume a b is = cc

-- ---- sectors that were mounted

module _ (law : MountsHoldStates) (out_law : AllPutOut) (start_law : StoppedStartsMount) (plan : StartPlan) (count : ℕ) (fits : FitsStart count plan.place) (few : count < 2 ^ 55) (first : List (List ℕ)) (whole : IsDiskOf count first) (on : PlansOn first plan) (moment : ℕ) (old now : Changes) (raw : Disk) (was : old.disk ≡ Some raw)
    (saw : sector_of first ≡ seen raw) (settled : IsSettled raw) (known : (e : Disk) × (now.disk ≡ Some e)) (over : StaysOver count plan.kept.items (sector_of first) old now) (stays : StaysRecovered moment plan.place plan.kept.items old now) where
  abbrev meant : Meant first on.mounted
  meant = found_meant law first plan count fits on

  abbrev m : MountedVolume
  m = (found_meant law first plan count fits on).meant

  abbrev place : LogPlace
  place = plan.place

  lies : LieAlike plan.place m.opened.place
  lies = alike law first plan count fits on

  kept : plan.kept.items ≡ found_by m.opened.geometry
  kept = kept_is law first plan count fits on

  on_raw : ReadsOn plan.place plan.kept.items m.opened.state old raw
  on_raw = record { known = was; read = ap (λ (at : SectorBytes). to_write_in (content_of at) plan.place plan.kept.items) (sym saw) ∙ reads law first plan count fits on }

  has_first : StaysFirst plan.kept.items (sector_of first) old
  has_first = subst (λ (o : Option Disk). IfSome o (HasFirst plan.kept.items (sector_of first))) (sym was) (subst (λ (at : SectorBytes). HasFirst plan.kept.items at raw) (sym saw) (settled_has plan.kept.items raw settled))

  recovers_so : (image : List (List ℕ)) → RecoversAlike plan.place plan.kept.items m.opened.state.log (mounted_content (content_of (seen raw)) m.opened.state.log) m.opened.state.next_lap (sector_of image)
      → RecoversAlike plan.place (found_by m.opened.geometry) m.opened.state.log (mounted_content (content_of (sector_of first)) m.opened.state.log) m.opened.state.next_lap (sector_of image)
  recovers_so image recovers =
      subst (λ (xs : List Block). RecoversAlike place xs m.opened.state.log (mounted_content (content_of (sector_of first)) m.opened.state.log) m.opened.state.next_lap (sector_of image)) kept
      (subst (λ (at : SectorBytes). RecoversAlike place plan.kept.items m.opened.state.log (mounted_content (content_of at) m.opened.state.log) m.opened.state.next_lap (sector_of image)) (sym saw) recovers)

  module _ (sound : HasSoundLog first m) (t : ℕ) (image : List (List ℕ)) (since : t ≤ moment) (left : LeftSince count now t image) where
    newer : OneIsNewer (said_restart (raw_page plan.place (seen raw) 0)) (said_restart (raw_page plan.place (seen raw) 1))
    newer = subst (λ (at : SectorBytes). OneIsNewer (said_restart (raw_page place at 0)) (said_restart (raw_page place at 1))) saw (newer_there first m plan.place lies sound)

    counted : length image ≡ count
    counted = left_counted count t now image known.0 known.1 left

    in_start : BearsFirst plan.kept.items (sector_of first) (sector_of image) → RecoversAlike plan.place plan.kept.items m.opened.state.log (mounted_content (content_of (seen raw)) m.opened.state.log) m.opened.state.next_lap (sector_of image)
        → IsLeftInStart first image m plan.place
    in_start bears recovers = record {
      mounted = meant.is;
      whole = whole.whole;
      untorn = λ b needed. none_torn law first plan count fits on out_law b;
      alike = lies;
      ring = fits.ring;
      updates = updates_there first m plan.place lies sound;
      far = far_there first m plan.place lies sound;
      near = (let long = counted in omega (arith, few, long));
      long = counted ∙ sym whole.counted;
      bears = λ b found. bears b (subst (λ (xs : List Block). list_any (same_block b) xs ≡ true) (sym kept) found);
      recovers = recovers_so image recovers;
    }

    mounts_or_was : LeftSince count old t image ⊎ MountsTree image (tree_in m)
    mounts_or_was = elim (over.left has_first t image left) [
      | inl before ↦ inl before
      | inr bears ↦ elim (stays count raw m.opened.state on_raw settled newer t image since left) [
        | inl before ↦ inl before
        | inr recovers ↦ inr (start_law first image m plan.place (in_start bears recovers))
      ]
    ]

  stays_mounted : StaysMounted count moment first old now m
  stays_mounted = record { mounts = mounts_or_was; place = plan.place; alike = lies; recovers = subst (λ (xs : List Block). StaysRecovered moment plan.place xs old now) kept stays }

  pub stays_known : StaysStarted count moment first old now
  stays_known x is = subst (λ (y : MountedVolume). StaysMounted count moment first old now y) (same_volume m x (sym meant.is ∙ is)) stays_mounted

-- ---- any device

module _ {D : Type 0} (gives : D → Option (List (List ℕ))) (count : D → ℕ) (changes : D → Changes) (faults moment : D → ℕ) (sees : (d : D) → SeesDisk (gives d) (changes d).disk) (whole : (d : D) → IfSome (gives d) (IsDiskOf (count d))) (few : (d : D) → count d < 2 ^ 55)
    (law : MountsHoldStates) (off_law : FoundLieOff) (out_law : AllPutOut) (keeps_law : StoresKeepFound gives count changes faults moment) (start_law : StoppedStartsMount) (old new : D) (plan : StartPlan) (fits : FitsStart (count old) plan.place) (settled : IfSome (changes old).disk IsSettled)
    (on : IfSome (gives old) (λ first. PlansOn first plan)) (stays : StaysRecovered (moment old) plan.place plan.kept.items (changes old) (changes new)) where
  -- the blocks by which the log is found stay, where they lie off it
  abbrev KeepsFound : Type 0
  KeepsFound = (first : List (List ℕ)) → PlansOn first plan → StaysOver (count old) plan.kept.items (sector_of first) (changes old) (changes new)

  abbrev KeepsKnown : Type 0
  KeepsKnown = (d : Disk) → (changes old).disk ≡ Some d → (e : Disk) × ((changes new).disk ≡ Some e)

  on_disk : KeepsFound → KeepsKnown → (first : List (List ℕ)) → IsDiskOf (count old) first → PlansOn first plan → (o : Option Disk) → (changes old).disk ≡ o → SeesDisk (Some first) o → IfSome o IsSettled → StaysStarted (count old) (moment old) first (changes old) (changes new)
  on_disk over known first all plans None was saw still = absurd saw
  on_disk over known first all plans (Some raw) was saw still =
      stays_known law out_law start_law plan (count old) fits (few old) first all plans (moment old) (changes old) (changes new) raw was (fun_ext saw) still (known raw was) (over first plans) stays

  stays_then : KeepsFound → KeepsKnown → IfSome (gives old) (λ first. StaysStarted (count old) (moment old) first (changes old) (changes new))
  stays_then over known = by (gives old) (whole old) on (sees old)
    where
      by : (o : Option (List (List ℕ))) → IfSome o (IsDiskOf (count old)) → IfSome o (λ first. PlansOn first plan) → SeesDisk o (changes old).disk → IfSome o (λ first. StaysStarted (count old) (moment old) first (changes old) (changes new))
      by None all plans saw = tt
      by (Some first) all plans saw = on_disk over known first all plans (changes old).disk refl saw settled

  -- where the store was mounted
  pub mounted_stays : (store : StoreFacts) → IsMounted gives count changes faults moment plan.place plan.kept.items old new store → IfSome (gives old) (λ first. StaysStarted (count old) (moment old) first (changes old) (changes new))
  mounted_stays store mounted = stays_then (λ first plans. keeps_law.done plan.place plan.kept.items store (sector_of first) old new (off_plan law first plan (count old) fits plans off_law) mounted)
      (λ d was.
      known_behind gives changes moment plan.place (state_with mounted.calls.list mounted.found.recovered) (items_by mounted.found mounted.calls.keys) (Ok tt) mounted.calls.mid new mounted.calls.writes d (ap (λ (c : Changes). c.disk) mounted.calls.reads.unchanged ∙ was))

  -- where its mount was stopped
  pub stopped_stays : (why : StoreFault) → StopsMount gives count changes faults moment plan.place plan.kept.items why old new → IfSome (gives old) (λ first. StaysStarted (count old) (moment old) first (changes old) (changes new))
  stopped_stays why stops = stays_then (λ first plans. keeps_law.stopped plan.place plan.kept.items why (sector_of first) old new (off_plan law first plan (count old) fits plans off_law) stops) (known stops)
    where
      known : StopsMount gives count changes faults moment plan.place plan.kept.items why old new → KeepsKnown
      known (inl reads_alone) d was = (d, ap (λ (c : Changes). c.disk) reads_alone.unchanged ∙ was)
      known (inr (is, failed, found, calls)) d was =
          known_behind gives changes moment plan.place (state_with calls.list found.recovered) (items_by found calls.keys) (Err failed) calls.mid new calls.writes d (ap (λ (c : Changes). c.disk) calls.reads.unchanged ∙ was)
