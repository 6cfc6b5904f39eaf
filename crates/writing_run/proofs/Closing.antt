-- A run is closed.
use Rattle.std.proofs.Common.{◌≡◌, ◌⊎◌, subst, ℕ, ◌≤◌, true, List, Option, Some, None, Result, Ok, Err, refl, sym, ◌∙◌, inl, inr, arith}
use Rattle.std.specs.Prelude.{nat_le, slice_get, IfSome, IfErr, OnOk}
use Rattle.std.proofs.lemmas.Bool.{cases_Bool, leb-true}
use Rattle.sector_device.specs.Disks.{AreOver, SeesDisk}
use Rattle.sector_device.specs.Moments.{Changes, MayLeaveNow, LeftSince}
use Rattle.sector_device.specs.Sectors.{IsDiskOf}
use Rattle.sector_device.proofs.Images.{seen_is_left}
use Rattle.sector_device.specs.Disks.{Disk, MayLeave}
use Rattle.file_tree.specs.declared.tree.Tree.{Tree}
use Rattle.run_model.specs.declared.turn.Turn.{Turn}
use Rattle.run_model.specs.Runs.{RunStart}
use Rattle.run_model.specs.Leaving.{LeavesStates, BearsSynced}
use Rattle.run_model.proofs.Kept.{store_keeps_states}
use Rattle.volume_open.specs.volume_core.working_volume.txn_laws.Windows.{lap_behind}
use Rattle.volume_open.specs.volume_core.txn_core.txn_state.States.{facts_of}
use Rattle.volume_open.specs.volume_core.txn_mount.Mountable.{IsFar}
use Rattle.volume_open.specs.volume_core.crash_trees.txn_close.declared.fault.CloseFault.{CloseFault}
use Rattle.volume_open.specs.volume_core.crash_trees.txn_close.declared.fault.CloseFault.TheVariants.{Fault, Unmarked}
use Rattle.volume_open.specs.volume_core.crash_trees.crash_mounts.Mounting.{MountsTree}
use Rattle.volume_open.specs.volume_core.crash_trees.Mounting.{MountsAsOne}
use Rattle.volume_open.specs.volume_core.crash_trees.Closing.{LeavesNewest}
use Rattle.volume_open.specs.volume_core.Volumes.{SeenVolume}
use Rattle.volume_open.specs.volume_core.Histories.{undurable}
use Rattle.volume_open.specs.volume_core.Calls.{ClosesTrees}
use Rattle.change_run.specs.Turns.{IsVolumeTurn, LeftOf}
use Rattle.change_run.specs.Runs.{CarriesOn}
use Rattle.change_run.proofs.Carrying.{since_earlier, now_left, now_since, above}
use Rattle.writing_run.specs.Runs.{is_flushed}

same_some : (a b : Tree) → Some a ≡ Some b → a ≡ b
same_some a b is = cc

none_back : (n : ℕ) → n ≤ 0 → n ≡ 0
none_back n le = omega (arith, le)

newest_one : (trees : List Tree) (now : Tree) (image : List (List ℕ)) → slice_get trees 0 ≡ Some now → MountsAsOne trees 0 image → MountsTree image now
newest_one trees now image newest one =
    let at : slice_get trees 0 ≡ Some one.tree = subst (λ (n : ℕ). slice_get trees n ≡ Some one.tree) (none_back one.back one.within) one.is_tree in
    record { now = one.now; mounts = one.mounts; stands = one.stands ∙ same_some one.tree now (sym at ∙ newest) }

-- what reads of a device give is an image that a crash may leave
pub shown_left : (count : ℕ) (gave : Option (List (List ℕ))) (changes : Changes) (P : List (List ℕ) → Type 0) → IfSome gave (IsDiskOf count) → SeesDisk gave changes.disk → ((image : List (List ℕ)) → MayLeaveNow count changes image → P image) → IfSome gave P
shown_left count None changes P whole sees each = tt
shown_left count (Some gave) changes P whole sees each = each gave (by changes.disk sees)
  where
    by : (o : Option Disk) → SeesDisk (Some gave) o → IfSome o (λ d. MayLeave count d gave)
    by None none = tt
    by (Some d) sees = seen_is_left count d gave whole sees

module _ {D : Type 0} (gives : D → Option (List (List ℕ))) (count moment : D → ℕ) (changes : D → Changes) (over : (d : D) → AreOver (moment d) (changes d).past) (f : RunStart) (since : ℕ) (first : List (List ℕ)) (tree : Tree) (turns : List Turn)
    (v : SeenVolume D) (c : CarriesOn gives count changes f since first tree turns v) (closed : Result (Unit {0}) CloseFault) (device : D) (closes : ClosesTrees gives count moment changes v closed device) (sectors : count device ≡ count v.store.device)
    (far : IsFar v.store.state.place (lap_behind (facts_of v.store.state))) (far_last : IsFar v.store.state.place (lap_behind (facts_of closes.closes.last.state))) where
  abbrev Step : List Turn → Turn → Tree → Tree → Type 0
  Step past t x y = IsVolumeTurn f past t x y

  -- what a crash leaves inside the close and behind it could be left before, or mounts as one of the trees
  was_or_one : (t : ℕ) (image : List (List ℕ)) → LeftSince (count device) (changes device) t image → LeftOf count changes v t image ⊎ MountsAsOne c.trees (undurable v) image
  was_or_one t image left =
      let there : LeftSince (count v.store.device) (changes device) t image = subst (λ (n : ℕ). LeftSince n (changes device) t image) sectors left in
      let inside = (closes.inside first c.trees c.has far_last).inside in
      elim (cases_Bool (nat_le t (moment v.store.device))) [
        | inl is ↦ inside t image (leb-true t (moment v.store.device) is) there
        | inr not_so ↦ late (above t (moment v.store.device) not_so)
            (inside (moment v.store.device) image (omega arith) (since_earlier (count v.store.device) t (moment v.store.device) (changes device) image (above t (moment v.store.device) not_so) there))
      ]
    where
      late : moment v.store.device ≤ t → LeftSince (count v.store.device) (changes v.store.device) (moment v.store.device) image ⊎ MountsAsOne c.trees (undurable v) image → LeftOf count changes v t image ⊎ MountsAsOne c.trees (undurable v) image
      late le (inl was) =
          inl (now_since (count v.store.device) t (changes v.store.device) image (now_left (count v.store.device) (moment v.store.device) (moment v.store.device) (changes v.store.device) image (over v.store.device) (omega arith) was))
      late le (inr one) = inr one

  bears : (image : List (List ℕ)) (A : Type 0) → A ⊎ MountsAsOne c.trees (undurable v) image → A ⊎ ∥ BearsSynced Step turns tree c.now (MountsTree image) ∥₁
  bears image A (inl was) = inl was
  bears image A (inr one) = inr ∣ record { state = one.tree; is_synced = c.each one.back one.tree one.within one.is_tree; has = record { now = one.now; mounts = one.mounts; stands = one.stands } } ∣₁

  pub closed_leaves : LeavesStates Step MountsTree tree since (LeftSince (count device) (changes device)) turns c.now
  closed_leaves =
      store_keeps_states Step MountsTree (LeftOf count changes v) (LeftSince (count device) (changes device)) turns tree c.now since (c.leaves far)
      (λ t image le left. bears image (LeftOf count changes v t image) (was_or_one t image left))

  -- ---- behind a close that went well

  leaves_newest : (r : Result (Unit {0}) CloseFault) → closed ≡ r → is_flushed r ≡ true → LeavesNewest count changes c.trees device
  leaves_newest (Ok u) is well = subst (λ (x : Result (Unit {0}) CloseFault). OnOk x (LeavesNewest count changes c.trees device)) is (closes.left first c.trees c.has far_last)
  leaves_newest (Err Unmarked) is well = (subst (λ (x : Result (Unit {0}) CloseFault). IfErr x (λ fault. fault ≡ Unmarked → LeavesNewest count changes c.trees device)) is ((closes.inside first c.trees c.has far_last).unmarked)) refl
  leaves_newest (Err Fault) is well = absurd cc

  pub closed_newest : is_flushed closed ≡ true → (image : List (List ℕ)) → MayLeaveNow (count device) (changes device) image → MountsTree image c.now
  closed_newest well image left = newest_one c.trees c.now image c.newest (leaves_newest closed refl well image left)
