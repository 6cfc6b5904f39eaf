-- Whatever a crash leaves inside the close of a volume's store, and behind it, mounts as one of its trees: behind one that went well as the newest one.
use Rattle.std.proofs.Common.{◌≡◌, ◌⊎◌, ℕ, ◌-◌, ◌≤◌, max, List, length, Option, Result, Ok, Err, subst, ◌∙◌, inl, inr, arith}
use Rattle.std.specs.Prelude.{IfSome, OnOk, IfErr}
use Rattle.disk_model.specs.Sectors.{sector_of}
use Rattle.sector_device.specs.Disks.{Disk, MayLeave}
use Rattle.sector_device.specs.Moments.{Changes, MayLeaveNow, LeftSince}
use Rattle.file_tree.specs.declared.tree.Tree.{Tree}
use Rattle.crash_mounts.specs.map_change.Parts.{MapParts}
use Rattle.crash_mounts.specs.state_blocks.Needing.{NeededIsAll}
use Rattle.log_page.specs.declared.places.LogPlace.{LogPlace}
use Rattle.crash_mounts.specs.mount_laws.Laws.{MountedByRecord}
use Rattle.crash_mounts.specs.volume_mount.Mounts.{MountedVolume}
use Rattle.store_claims.specs.Windows.{StoreWindow}
use Rattle.crash_mounts.specs.txn_model.Values.{StoreFacts, own_of}
use Rattle.crash_mounts.specs.txn_laws.Laws.{EndingsTell}
use Rattle.crash_mounts.specs.txn_laws.Windows.{HasEndingWindow, RecoversWithin, lap_behind, next_lap_in}
use Rattle.crash_mounts.specs.txn_mount.Mountable.{IsFar}
use Rattle.crash_mounts.specs.txn_state.States.{facts_of}
use Rattle.crash_mounts.specs.txn_core.Seen.{Seen}
use Rattle.txn_close.specs.declared.fault.CloseFault.{CloseFault}
use Rattle.txn_close.specs.Rests.{stopped_facts}
use Rattle.txn_close.specs.Passing.{Spares}
use Rattle.txn_close.specs.Ends.{Closes}
use Rattle.txn_close.proofs.Passing.{here}
use Rattle.resting_states.specs.found_stays.Found.{HasFirst, StaysFirst, BearsFirst}
use Rattle.crash_mounts.specs.member_states.Members.{VolumeBase}
use Rattle.crash_mounts.specs.Mounting.{base_behind, CrashesMount}
use Rattle.resting_states.proofs.Finding.{image_bears}
use Rattle.resting_states.proofs.Recovering.{since_counted}
use Rattle.crash_trees.specs.Trees.{AreTrees, HoldsTrees}
use Rattle.crash_trees.specs.Mounting.{MountsAsOne}
use Rattle.crash_trees.specs.Closing.{LeavesNewest, TreesClose, LeftByClose, CloseLeaves}
use Rattle.crash_trees.proofs.Turning.{stands_still}
use Rattle.crash_trees.proofs.Mounting.{as_one_more, farther, mounts_as_one}

-- a window that follows has the same trees
spared_trees : NeededIsAll → (base : VolumeBase) (mounted : MountedVolume) (trees : List Tree) (f : StoreFacts) (w v : StoreWindow) → Spares f w v → AreTrees base mounted w trees → AreTrees base mounted v trees
spared_trees law base mounted trees f w v spares are k low =
    let fewer = spares.waiting in
    let x = are k (omega (arith, low, fewer)) in
    (x.0, x.1, stands_still law base mounted trees w v k x.0 x.2 (spares.kept k low) (spares.claims k))

on_ok : {T E A B : Type 0} → (result : Result T E) → (A → B) → OnOk result A → OnOk result B
on_ok (Ok x) f is = f is
on_ok (Err e) f is = tt

on_err : {T E : Type 0} {P Q : E → Type 0} → (result : Result T E) → ((e : E) → P e → Q e) → IfErr result P → IfErr result Q
on_err (Ok x) f is = tt
on_err (Err e) f is = f e is

module _ {D : Type 0} (gives : D → Option (List (List ℕ))) (count moment : D → ℕ) (changes : D → Changes) (law : NeededIsAll) (ends : EndingsTell) (crash : CrashesMount) (records : MountedByRecord) (store : Seen D) (result : Result (Unit {0}) CloseFault) (device : D) (first : List (List ℕ)) (mounted : MountedVolume) (m : MapParts)
    (table : List ℕ) (disk : List (List ℕ)) (trees : List Tree) (w : StoreWindow) (holds : HoldsTrees (count store.device) (changes store.device) (facts_of store.state) first mounted m table disk trees w) (closes : Closes gives count moment changes store result device)
    (far : IsFar (facts_of store.state).place (lap_behind (facts_of closes.last.state))) where
  abbrev f : StoreFacts
  f = facts_of store.state

  abbrev last : Seen D
  last = closes.last

  abbrev g : StoreFacts
  g = facts_of last.state

  all_wait : w.waiting ≤ f.commits - f.durable
  all_wait = (let waits = ends.tell.waiting (changes store.device) f w (ends.window (changes store.device) f w holds.rests.rest.has) in omega (arith, waits))

  by_window : (v : StoreWindow) (image : List (List ℕ)) → Spares (stopped_facts f) w v → length image ≡ count store.device → BearsFirst f.found (sector_of first) (sector_of image) → next_lap_in f.place (sector_of image) ≤ lap_behind g → RecoversWithin f.place (own_of f) v (sector_of image)
      → MountsAsOne trees v.waiting image
  by_window v image spares counted bears low r =
      mounts_as_one crash records (count store.device) f first mounted m holds.mount holds.rests.near holds.rests.few trees v (spared_trees law (base_behind first mounted f.place) mounted trees (stopped_facts f) w v spares holds.each)
      (λ k b plain has. spares.claims k b (holds.claims.claims k b plain has)) image counted bears r (farther f.place (lap_behind g) (next_lap_in f.place (sector_of image)) low far)

  -- of the trees that were not known durable before
  of_before : (v : StoreWindow) (image : List (List ℕ)) → Spares (stopped_facts f) w v → MountsAsOne trees v.waiting image → MountsAsOne trees (f.commits - f.durable) image
  of_before v image spares x = (let fewer = spares.waiting in as_one_more trees v.waiting (f.commits - f.durable) image (omega (arith, fewer, all_wait)) x)

  -- ---- behind it

  behind_by : (v : StoreWindow) (image : List (List ℕ)) → Spares (stopped_facts f) w v → HasEndingWindow (changes last.device) g v → MayLeaveNow (count last.device) (changes last.device) image → MountsAsOne trees v.waiting image
  behind_by v image spares has left =
      let place : g.place ≡ f.place = closes.goes.passes.place in
      let stays : StaysFirst f.found (sector_of first) (changes last.device) = (closes.goes.passes.stays w (sector_of first) holds.rests.rest.has holds.rests.off).stays holds.rests.stays in
      let firsts : HasFirst f.found (sector_of first) has.0 = subst (λ (o : Option Disk). IfSome o (HasFirst f.found (sector_of first))) has.1 stays in
      let may : MayLeave (count last.device) has.0 image = subst (λ (o : Option Disk). IfSome o (λ (d : Disk). MayLeave (count last.device) d image)) has.1 left in
      let low : next_lap_in f.place (sector_of image) ≤ lap_behind g = subst (λ (p : LogPlace). next_lap_in p (sector_of image) ≤ lap_behind g) place (ends.tell.next_lap (count last.device) (changes last.device) g v image has left) in
      by_window v image spares (may.counted ∙ closes.goes.sectors) (image_bears (count last.device) f.found (sector_of first) has.0 image firsts may) low
      (here f g v (sector_of image) place closes.goes.passes.found (ends.tell.at_return (count last.device) (changes last.device) g v image has left))

  behind : (image : List (List ℕ)) → MayLeaveNow (count last.device) (changes last.device) image → MountsAsOne trees (f.commits - f.durable) image
  behind image left = (let x = closes.goes.passes.steps w holds.rests.rest.has in of_before x.0 image x.2 (behind_by x.0 image x.2 x.1 left))

  -- where each commit is durable
  newest : g.durable ≡ g.commits → LeavesNewest count changes trees last.device
  newest all image left =
      let x = closes.goes.passes.steps w holds.rests.rest.has in
      let waits = ends.tell.waiting (changes last.device) g x.0 x.1 in
      as_one_more trees x.0.waiting 0 image (omega (arith, all, waits)) (behind_by x.0 image x.2 x.1 left)

  pub when_closed : OnOk result (LeavesNewest count changes trees device)
  when_closed = on_ok result (λ rests. subst (LeavesNewest count changes trees) closes.gave (newest rests.drained.durable)) closes.rests

  -- ---- inside it

  inside_by : (image : List (List ℕ)) (before : Type 0) → length image ≡ count store.device → before ⊎ BearsFirst f.found (sector_of first) (sector_of image) → before ⊎ (next_lap_in f.place (sector_of image) ≤ max (lap_behind f) (lap_behind g))
      → before ⊎ ((v : StoreWindow) × Spares (stopped_facts f) w v × RecoversWithin f.place (own_of f) v (sector_of image)) → before ⊎ MountsAsOne trees (f.commits - f.durable) image
  inside_by image before counted (inl was) low recovers = inl was
  inside_by image before counted (inr bears) (inl was) recovers = inl was
  inside_by image before counted (inr bears) (inr low) (inl was) = inl was
  inside_by image before counted (inr bears) (inr low) (inr r) = inr (let rises = closes.goes.passes.rises in of_before r.0 image r.1 (by_window r.0 image r.1 counted bears (omega (arith, low, rises)) r.2))

  inside : (t : ℕ) (image : List (List ℕ)) → t ≤ moment store.device → LeftSince (count store.device) (changes last.device) t image → LeftSince (count store.device) (changes store.device) t image ⊎ MountsAsOne trees (f.commits - f.durable) image
  inside t image le left =
      let passes = closes.goes.passes in
      let has = holds.rests.rest.has in
      let x = passes.steps w has in
      inside_by image (LeftSince (count store.device) (changes store.device) t image) (since_counted (count store.device) (changes last.device) x.1.0 t image x.1.1 left) ((passes.stays w (sector_of first) has holds.rests.off).left holds.rests.stays t image left)
      (passes.laps w has t image le left) (x.3 t image le left)

  -- ---- both

  pub all_leave : LeftByClose count moment changes (facts_of store.state) store.device result device trees
  all_leave = subst (λ (d : D). LeftByClose count moment changes (facts_of store.state) store.device result d trees) closes.gave (record {
    inside = inside;
    behind = behind;
    unmarked = on_err result (λ fault unmarked is. newest (unmarked is).drained.durable) closes.unmarked;
  })

pub close_leaves : {D : Type 0} (gives : D → Option (List (List ℕ))) (count moment : D → ℕ) (changes : D → Changes) → NeededIsAll → EndingsTell → CrashesMount → MountedByRecord → CloseLeaves gives count moment changes
close_leaves gives count moment changes law ends crash records store result device first mounted m table disk trees w holds closes far =
    all_leave gives count moment changes law ends crash records store result device first mounted m table disk trees w holds closes far

pub trees_close : {D : Type 0} (gives : D → Option (List (List ℕ))) (count moment : D → ℕ) (changes : D → Changes) → NeededIsAll → EndingsTell → CrashesMount → MountedByRecord → TreesClose gives count moment changes
trees_close gives count moment changes law ends crash records store result device first mounted m table disk trees w holds closes far =
    when_closed gives count moment changes law ends crash records store result device first mounted m table disk trees w holds closes far
