-- What a run carries on of the trees that a crash may bring back.
use Rattle.std.proofs.Common.{◌≡◌, ◌⊎◌, subst, ℕ, zero, suc, ◌≤◌, false, List, [], ◌∷◌, ◌++◌, length, Option, Some, None, All, refl, sym, ap, ◌∙◌, inl, inr, arith}
use Rattle.std.specs.Prelude.{slice_get, nat_le, IfSome}
use Rattle.std.proofs.Math.Logic.{∥∥₁_map}
use Rattle.std.proofs.lemmas.Bool.{cases_Bool, leb-true, leb-false}
use Rattle.std.proofs.lemmas.List.Elements.{All-nil, All-push}
use Rattle.sector_device.specs.Disks.{Disk, Past, MayLeave, WasLeft, AreOver}
use Rattle.sector_device.specs.Moments.{Changes, MayLeaveNow, LeftSince}
use Rattle.file_tree.specs.declared.tree.Tree.{Tree}
use Rattle.log_page.specs.declared.places.LogPlace.{LogPlace}
use Rattle.run_model.specs.declared.turn.Turn.{Turn}
use Rattle.run_model.specs.Runs.{RunStart, Segment}
use Rattle.run_model.specs.Leaving.{HoldsSynced, LeavesStates, TellsNoSync, IsSyncedState, BearsSynced, BearsSaid}
use Rattle.run_model.proofs.Segments.{segment_push}
use Rattle.run_model.proofs.Kept.{turns_keep_states, turn_keeps_states, store_keeps_states}
use Rattle.tree_model.specs.declared.reply.Reply.TheVariants.{Synced}
use Rattle.txn_state.specs.States.{facts_of}
use Rattle.volume_replies.specs.txn_laws.Windows.{lap_behind}
use Rattle.volume_replies.specs.volume_core.txn_mount.Mountable.{IsFar}
use Rattle.volume_replies.specs.volume_core.crash_trees.crash_mounts.Mounting.{MountsTree}
use Rattle.volume_replies.specs.volume_core.crash_trees.Mounting.{MountsAsOne}
use Rattle.volume_replies.specs.volume_core.Volumes.{SeenVolume, volume_tree}
use Rattle.volume_replies.specs.volume_core.Histories.{HasHistory, LeavesTrees, undurable}
use Rattle.volume_replies.specs.volume_core.Calls.{GoesOn}
use Rattle.volume_replies.specs.volume_sync.Runs.{RunsOn}
use Rattle.volume_replies.specs.volume_sync.Syncs.{LeavesNewest}
use Rattle.change_run.specs.Turns.{IsVolumeTurn, LeftOf}
use Rattle.change_run.specs.Runs.{StartsAs, CarriesOn}
use Rattle.change_run.proofs.States.{all_more, quiet_more, goes_on, present_state, present_left}

-- ---- what a crash may have left since a moment

over_left : (count u t : ℕ) (past : List Past) (image : List (List ℕ)) → AreOver u past → u ≤ t → WasLeft count past t image → ⊥
over_left count u t [] image over le left = left
over_left count u t (p ∷ ps) image over le (inl here) = (let a = over.0 in let b = here.0 in absurd (omega (arith, a, b, le)))
over_left count u t (p ∷ ps) image over le (inr rest) = over_left count u t ps image over.1 le rest

left_earlier : (count t u : ℕ) (past : List Past) (image : List (List ℕ)) → u ≤ t → WasLeft count past t image → WasLeft count past u image
left_earlier count t u [] image less left = left
left_earlier count t u (p ∷ ps) image less (inl here) = inl ((let b = here.0 in omega (arith, less, b)), here.1)
left_earlier count t u (p ∷ ps) image less (inr rest) = inr (left_earlier count t u ps image less rest)

pub since_earlier : (count t u : ℕ) (changes : Changes) (image : List (List ℕ)) → u ≤ t → LeftSince count changes t image → LeftSince count changes u image
since_earlier count t u changes image less = go changes.disk
  where
    go : (o : Option Disk) → IfSome o (λ disk. MayLeave count disk image ⊎ WasLeft count changes.past t image) → IfSome o (λ disk. MayLeave count disk image ⊎ WasLeft count changes.past u image)
    go None left = tt
    go (Some d) (inl now) = inl now
    go (Some d) (inr was) = inr (left_earlier count t u changes.past image less was)

-- since the present moment, or a later one, nothing but the present disk
pub now_left : (count u t : ℕ) (changes : Changes) (image : List (List ℕ)) → AreOver u changes.past → u ≤ t → LeftSince count changes t image → MayLeaveNow count changes image
now_left count u t changes image over le = go changes.disk
  where
    go : (o : Option Disk) → IfSome o (λ disk. MayLeave count disk image ⊎ WasLeft count changes.past t image) → IfSome o (λ disk. MayLeave count disk image)
    go None left = tt
    go (Some d) (inl now) = now
    go (Some d) (inr was) = absurd (over_left count u t changes.past image over le was)

pub now_since : (count t : ℕ) (changes : Changes) (image : List (List ℕ)) → MayLeaveNow count changes image → LeftSince count changes t image
now_since count t changes image = go changes.disk
  where
    go : (o : Option Disk) → IfSome o (λ disk. MayLeave count disk image) → IfSome o (λ disk. MayLeave count disk image ⊎ WasLeft count changes.past t image)
    go None now = tt
    go (Some d) now = inl now

pub above : (t u : ℕ) → nat_le t u ≡ false → u ≤ t
above t u h = (let high = leb-false t u h in omega (arith, high))

-- ---- trees, by how many commits back they are

same_some : (a b : Tree) → Some a ≡ Some b → a ≡ b
same_some a b is = cc

first_only : (n : ℕ) → n ≤ 0 → n ≡ 0
first_only zero le = refl
first_only (suc n) le = absurd (omega (arith, le))

farther : (p q : LogPlace) (lap less : ℕ) → q ≡ p → less ≤ lap → IsFar q lap → IsFar p less
farther p q lap less same le far = (let there : IsFar p lap = subst (λ (x : LogPlace). IsFar x lap) same far in omega (arith, le, there))

mounts_as : (trees : List Tree) (most : ℕ) (image : List (List ℕ)) (m : MountsAsOne trees most image) → MountsTree image m.tree
mounts_as trees most image m = record { now = m.now; mounts = m.mounts; stands = m.stands }

newest_mounts : (trees : List Tree) (now : Tree) (image : List (List ℕ)) → slice_get trees 0 ≡ Some now → MountsAsOne trees 0 image → MountsTree image now
newest_mounts trees now image newest m =
    let at : slice_get trees 0 ≡ Some m.tree = subst (λ (n : ℕ). slice_get trees n ≡ Some m.tree) (first_only m.back m.within) m.is_tree in
    subst (MountsTree image) (same_some m.tree now (sym at ∙ newest)) (mounts_as trees 0 image m)

-- ---- a volume now

module _ {D : Type 0} (gives : D → Option (List (List ℕ))) (count : D → ℕ) (changes : D → Changes) (moment : D → ℕ) (over : (d : D) → AreOver (moment d) (changes d).past) (first : List (List ℕ)) (tree : Tree) where
  pub starts_now : (v : SeenVolume D) → LeavesTrees gives count changes v → (older : List Tree) → HasHistory gives count changes v first (tree ∷ older) → undurable v ≡ 0 → volume_tree gives v ≡ Some tree
      → StartsAs gives count changes v (moment v.store.device) first tree
  starts_now v leaves older has durable present = record {
    older = older;
    has = has;
    durable = durable;
    present = present;
    left = λ far t image le left.
        let now = now_left (count v.store.device) (moment v.store.device) t (changes v.store.device) image (over v.store.device) le left in
        let m = subst (λ (n : ℕ). MountsAsOne (tree ∷ older) n image) durable (leaves.left first (tree ∷ older) image has far now) in
        newest_mounts (tree ∷ older) tree image refl m;
  }

-- ---- a run

module _ {D : Type 0} (gives : D → Option (List (List ℕ))) (count : D → ℕ) (changes : D → Changes) (moment : D → ℕ) (over : (d : D) → AreOver (moment d) (changes d).past) (f : RunStart) (since : ℕ) (first : List (List ℕ)) (tree : Tree) where
  abbrev Step : List Turn → Turn → Tree → Tree → Type 0
  Step past t x y = IsVolumeTurn f past t x y

  abbrev Carries : List Turn → SeenVolume D → Type 0
  Carries turns v = CarriesOn gives count changes f since first tree turns v

  -- ---- at the start

  pub begins : (v : SeenVolume D) → StartsAs gives count changes v since first tree → Carries [] v
  begins v s = record {
    trees = tree ∷ s.older;
    has = s.has;
    now = tree;
    present = s.present;
    newest = refl;
    run = refl;
    synced = All-nil (λ (t : Turn). HoldsSynced 0 t.reply);
    each = λ back other le is.
        let at : Some tree ≡ Some other = subst (λ (n : ℕ). slice_get (tree ∷ s.older) n ≡ Some other) (first_only back (let none = s.durable in omega (arith, le, none))) is in
        subst (λ (x : Tree). IsSyncedState Step [] tree tree x) (same_some tree other at) (present_state Step [] tree tree refl (All-nil (λ (t : Turn). HoldsSynced 0 t.reply)));
    leaves = λ far t image le left. ∣ present_left Step [] tree tree t (MountsTree image) refl (All-nil (λ (u : Turn). HoldsSynced 0 u.reply)) (s.left far t image le left) ∣₁;
  }

  -- ---- steps of the store

  module _ (turns : List Turn) (old new : SeenVolume D) (c : Carries turns old) (runs : RunsOn gives count moment changes old new) where
    bears_by : (image : List (List ℕ)) (A : Type 0) → A ⊎ MountsAsOne c.trees (undurable old) image → A ⊎ ∥ BearsSynced Step turns tree c.now (MountsTree image) ∥₁
    bears_by image A (inl was) = inl was
    bears_by image A (inr m) = inr ∣ record { state = m.tree; is_synced = c.each m.back m.tree m.within m.is_tree; has = mounts_as c.trees (undurable old) image m } ∣₁

    bears : IsFar old.store.state.place (lap_behind (facts_of new.store.state)) → (t : ℕ) (image : List (List ℕ)) → LeftOf count changes new t image → LeftOf count changes old t image ⊎ ∥ BearsSynced Step turns tree c.now (MountsTree image) ∥₁
    bears far t image left =
        let there : LeftSince (count old.store.device) (changes new.store.device) t image = subst (λ (n : ℕ). LeftSince n (changes new.store.device) t image) runs.sectors left in
        bears_by image (LeftOf count changes old t image) (elim (cases_Bool (nat_le t (moment old.store.device))) [
          | inl is ↦ runs.left first c.trees t image c.has far (leb-true t (moment old.store.device) is) there
          | inr not_so ↦ late (above t (moment old.store.device) not_so)
              (runs.left first c.trees (moment old.store.device) image c.has far (omega arith) (since_earlier (count old.store.device) t (moment old.store.device) (changes new.store.device) image (above t (moment old.store.device) not_so) there))
        ])
      where
        late : moment old.store.device ≤ t → LeftSince (count old.store.device) (changes old.store.device) (moment old.store.device) image ⊎ MountsAsOne c.trees (undurable old) image
            → LeftSince (count old.store.device) (changes old.store.device) t image ⊎ MountsAsOne c.trees (undurable old) image
        late le (inl was) =
            inl (now_since (count old.store.device) t (changes old.store.device) image (now_left (count old.store.device) (moment old.store.device) (moment old.store.device) (changes old.store.device) image (over old.store.device) (omega arith) was))
        late le (inr m) = inr m

    pub behind_runs : Carries turns new
    behind_runs = record {
      trees = c.trees;
      has = runs.history first c.trees c.has;
      now = c.now;
      present = runs.tree ∙ c.present;
      newest = c.newest;
      run = c.run;
      synced = c.synced;
      each = λ back other le is. c.each back other (let fewer = runs.fewer first c.trees c.has in omega (arith, le, fewer)) is;
      leaves = λ far.
          store_keeps_states Step MountsTree (LeftOf count changes old) (LeftOf count changes new) turns tree c.now since
          (c.leaves (farther old.store.state.place new.store.state.place (lap_behind (facts_of new.store.state)) (lap_behind (facts_of old.store.state)) runs.place runs.laps far))
          (λ t image le left. bears (farther old.store.state.place new.store.state.place (lap_behind (facts_of new.store.state)) (lap_behind (facts_of new.store.state)) runs.place (omega arith) far) t image left);
    }

  -- ---- an operation

  module _ (turns : List Turn) (t : Turn) (next : Tree) (old new : SeenVolume D) (c : Carries turns old) (turn : IsVolumeTurn f turns t c.now next) (quiet : TellsNoSync t.reply) (present : volume_tree gives new ≡ Some next)
      (place : new.store.state.place ≡ old.store.state.place) (laps : lap_behind (facts_of old.store.state) ≤ lap_behind (facts_of new.store.state)) (sectors : count new.store.device ≡ count old.store.device)
      (durable : new.store.state.durable ≡ old.store.state.durable) (goes : GoesOn gives count changes old new) where
    leaves_on : IsFar new.store.state.place (lap_behind (facts_of new.store.state)) → LeavesStates Step MountsTree tree since (LeftOf count changes new) (turns ++ t ∷ []) next
    leaves_on far =
        turns_keep_states Step MountsTree (LeftOf count changes old) (LeftOf count changes new) turns (t ∷ []) tree c.now next since
        (c.leaves (farther old.store.state.place new.store.state.place (lap_behind (facts_of new.store.state)) (lap_behind (facts_of old.store.state)) place laps far))
        (next, turn, refl)
        (All-push (λ (u : Turn). TellsNoSync u.reply) [] t (All-nil (λ (u : Turn). TellsNoSync u.reply)) quiet)
        (λ u image left. goes.left u image (subst (λ (n : ℕ). LeftSince n (changes new.store.device) u image) sectors left))

    run_on : Segment Step [] (turns ++ t ∷ []) tree next
    run_on = segment_push Step [] turns t tree c.now next c.run turn

    synced_on : All (λ (u : Turn). HoldsSynced (length (turns ++ t ∷ [])) u.reply) (turns ++ t ∷ [])
    synced_on = all_more turns t (quiet_more turns t quiet) c.synced

    no_commit : new.store.state.commits ≡ old.store.state.commits → Carries (turns ++ t ∷ []) new
    no_commit same = record {
      trees = c.trees;
      has = goes.same same first c.trees c.has;
      now = next;
      present = present;
      newest = c.newest ∙ ap (λ (x : Tree). Some x) (same_some c.now next (sym c.present ∙ sym (goes.stays same first c.trees c.has) ∙ present));
      run = run_on;
      synced = synced_on;
      each = λ back other le is. goes_on Step turns t tree c.now next other (c.each back other (omega (arith, le, same, durable)) is) turn quiet;
      leaves = leaves_on;
    }

    each_more : (added : Tree) (trees : List Tree) → added ≡ next → c.trees ≡ trees → new.store.state.commits ≡ suc old.store.state.commits → (back : ℕ) (other : Tree) → back ≤ undurable new → slice_get (added ∷ trees) back ≡ Some other → IsSyncedState Step (turns ++ t ∷ []) tree next other
    each_more added trees is_next same more zero other le is =
        subst (λ (x : Tree). IsSyncedState Step (turns ++ t ∷ []) tree next x) (same_some next other (ap (λ (x : Tree). Some x) (sym is_next) ∙ is)) (present_state Step (turns ++ t ∷ []) tree next run_on synced_on)
    each_more added trees is_next same more (suc back) other le is =
        goes_on Step turns t tree c.now next other (c.each back other (omega (arith, le, more, durable)) (subst (λ (xs : List Tree). slice_get xs back ≡ Some other) (sym same) is)) turn quiet

    one_commit : new.store.state.commits ≡ suc old.store.state.commits → Carries (turns ++ t ∷ []) new
    one_commit more =
        let adds = goes.more more first c.trees c.has in
        let is : adds.tree ≡ next = same_some adds.tree next (sym adds.present ∙ present) in
        record {
          trees = adds.tree ∷ c.trees;
          has = adds.has;
          now = next;
          present = present;
          newest = ap (λ (x : Tree). Some x) is;
          run = run_on;
          synced = synced_on;
          each = each_more adds.tree c.trees is refl more;
          leaves = leaves_on;
        }

    pub behind_turn : Carries (turns ++ t ∷ []) new
    behind_turn = by goes.commits
      where
        by : (new.store.state.commits ≡ old.store.state.commits) ⊎ (new.store.state.commits ≡ suc old.store.state.commits) → Carries (turns ++ t ∷ []) new
        by (inl same) = no_commit same
        by (inr more) = one_commit more

  -- ---- a sync that was answered

  module _ (turns : List Turn) (t : Turn) (v : SeenVolume D) (c : Carries turns v) (turn : IsVolumeTurn f turns t c.now c.now) (said : t.reply ≡ Synced (length turns)) (at : t.moment ≡ moment v.store.device)
      (durable : v.store.state.durable ≡ v.store.state.commits) (newest : LeavesNewest gives count changes v) where
    holds : (k : ℕ) → length turns ≤ k → HoldsSynced k t.reply
    holds k le = subst (λ r. HoldsSynced k r) (sym said) le

    run_there : Segment Step [] (turns ++ t ∷ []) tree c.now
    run_there = segment_push Step [] turns t tree c.now c.now c.run turn

    synced_there : All (λ (u : Turn). HoldsSynced (length (turns ++ t ∷ [])) u.reply) (turns ++ t ∷ [])
    synced_there = all_more turns t (holds (length (turns ++ t ∷ [])) (let more = length_more in omega (arith, more))) c.synced
      where
        length_more : length turns ≤ length (turns ++ t ∷ [])
        length_more = by turns
          where
            by : (xs : List Turn) → length xs ≤ length (xs ++ t ∷ [])
            by [] = omega arith
            by (x ∷ xs) = (let le = by xs in omega (arith, le))

    bears_said : IsFar v.store.state.place (lap_behind (facts_of v.store.state)) → (u : ℕ) (image : List (List ℕ)) → since ≤ u → LeftOf count changes v u image → ∥ BearsSaid Step turns tree c.now u (MountsTree image) t ∥₁
    bears_said far u image le left = elim (cases_Bool (nat_le (moment v.store.device) u)) [
      | inl is ↦ (
          let now = now_left (count v.store.device) (moment v.store.device) u (changes v.store.device) image (over v.store.device) (leb-true (moment v.store.device) u is) left in
          let m = newest.left first c.trees image c.has far now in
          ∣ record { some = present_left Step turns tree c.now u (MountsTree image) c.run c.synced (newest_mounts c.trees c.now image c.newest m); said = λ early. holds (length turns) (omega arith) } ∣₁)
      | inr not_so ↦ ∥∥₁_map (c.leaves far u image le left) (λ s. record { some = s; said = λ early. absurd (below not_so early) })
    ]
      where
        below : nat_le (moment v.store.device) u ≡ false → t.moment ≤ u → ⊥
        below h early = (let high = leb-false (moment v.store.device) u h in omega (arith, at, early, high))

    pub behind_sync : Carries (turns ++ t ∷ []) v
    behind_sync = record {
      trees = c.trees;
      has = c.has;
      now = c.now;
      present = c.present;
      newest = c.newest;
      run = run_there;
      synced = synced_there;
      each = λ back other le is.
          let none : undurable v ≡ 0 = omega (arith, durable) in
          let first_is : slice_get c.trees 0 ≡ Some other = subst (λ (n : ℕ). slice_get c.trees n ≡ Some other) (first_only back (omega (arith, le, none))) is in
          subst (λ (x : Tree). IsSyncedState Step (turns ++ t ∷ []) tree c.now x) (same_some c.now other (sym c.newest ∙ first_is)) (present_state Step (turns ++ t ∷ []) tree c.now run_there synced_there);
      leaves = λ far. turn_keeps_states Step MountsTree (LeftOf count changes v) turns t tree c.now c.now since turn (bears_said far);
    }
