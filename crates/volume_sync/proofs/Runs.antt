-- Steps of a volume's store, one behind the other.
use Rattle.std.proofs.Common.{◌≡◌, ◌⊎◌, subst, ℕ, ◌≤◌, List, Option, Result, Ok, Err, refl, sym, ap, ◌∙◌, inl, inr, arith}
use Rattle.std.specs.Prelude.{max}
use Rattle.std.proofs.Math.Nat.{max-le}
use Rattle.host_base.specs.declared.outside.Failed.{Failed}
use Rattle.sector_device.specs.Moments.{Changes, LeftSince}
use Rattle.file_tree.specs.declared.tree.Tree.{Tree}
use Rattle.log_page.specs.declared.places.LogPlace.{LogPlace}
use Rattle.store_claims.specs.Windows.{StoreWindow}
use Rattle.flush_policy.specs.declared.facts.StoreStep.{StoreStep}
use Rattle.flush_policy.specs.declared.facts.StoreStep.TheVariants.{SealPage, WritePage, SyncDevice, WriteOut, BeginCheckpoint, WriteRestart}
use Rattle.txn_model.specs.Values.{StoreFacts}
use Rattle.txn_model.specs.Told.{KeepsSteps}
use Rattle.txn_state.specs.States.{facts_of}
use Rattle.txn_laws.specs.Windows.{AfterWrite, lap_behind}
use Rattle.txn_laws.proofs.Telling.{waits}
use Rattle.volume_core.specs.txn_mount.Mountable.{IsFar}
use Rattle.volume_core.specs.txn_core.Kept.{IsKept}
use Rattle.volume_core.specs.txn_core.Seen.{TakesStep}
use Rattle.volume_core.specs.txn_core.Steps.{AfterTurn}
use Rattle.volume_core.proofs.txn_close.Passing.{none_begun, begun_joined}
use Rattle.volume_core.proofs.txn_close.Turning.{begins_turned, later_turned}
use Rattle.volume_core.specs.resting_states.Turns.{IsTurned}
use Rattle.volume_core.specs.crash_trees.Mounting.{MountsAsOne}
use Rattle.volume_core.specs.Volumes.{SeenVolume, volume_tree}
use Rattle.volume_core.specs.Histories.{HasHistory, undurable}
use Rattle.volume_core.specs.Calls.{TurnsTrees}
use Rattle.volume_sync.specs.Runs.{RunsOn, TurnsRun}
use Rattle.volume_sync.proofs.Laps.{laps_rise}

farther : (place : LogPlace) (lap less : ℕ) → less ≤ lap → IsFar place lap → IsFar place less
farther place lap less le far = omega (arith, le, far)

as_one_more : (trees : List Tree) (most n : ℕ) (image : List (List ℕ)) → most ≤ n → MountsAsOne trees most image → MountsAsOne trees n image
as_one_more trees most n image le m = record { back = m.back; within = (let few = m.within in omega (arith, few, le)); tree = m.tree; is_tree = m.is_tree; now = m.now; mounts = m.mounts; stands = m.stands }

module _ {D : Type 0} (gives : D → Option (List (List ℕ))) (count moment : D → ℕ) (changes : D → Changes) where
  -- ---- none, and two in a row

  pub runs_none : (v : SeenVolume D) → RunsOn gives count moment changes v v
  runs_none v = record {
    tree = refl;
    map = refl;
    table = refl;
    streams = refl;
    commits = refl;
    place = refl;
    sectors = refl;
    later = omega arith;
    laps = omega arith;
    begins_none = none_begun (facts_of v.store.state);
    history = λ first trees h. h;
    fewer = λ first trees h. omega arith;
    left = λ first trees t image h far early left. inl left;
  }

  module _ (old mid new : SeenVolume D) (one : RunsOn gives count moment changes old mid) (two : RunsOn gives count moment changes mid new) where
    left_before : (first : List (List ℕ)) (trees : List Tree) (t : ℕ) (image : List (List ℕ)) → HasHistory gives count changes old first trees → IsFar old.store.state.place (lap_behind (facts_of new.store.state)) → t ≤ moment old.store.device
        → LeftSince (count mid.store.device) (changes mid.store.device) t image ⊎ MountsAsOne trees (undurable mid) image → LeftSince (count old.store.device) (changes old.store.device) t image ⊎ MountsAsOne trees (undurable old) image
    left_before first trees t image h far early (inl left) =
        one.left first trees t image h (farther old.store.state.place (lap_behind (facts_of new.store.state)) (lap_behind (facts_of mid.store.state)) two.laps far) early (subst (λ (n : ℕ). LeftSince n (changes mid.store.device) t image) one.sectors left)
    left_before first trees t image h far early (inr mounts) = inr (as_one_more trees (undurable mid) (undurable old) image (one.fewer first trees h) mounts)

    pub runs_joined : RunsOn gives count moment changes old new
    runs_joined = record {
      tree = two.tree ∙ one.tree;
      map = two.map ∙ one.map;
      table = two.table ∙ one.table;
      streams = two.streams ∙ one.streams;
      commits = two.commits ∙ one.commits;
      place = two.place ∙ one.place;
      sectors = two.sectors ∙ one.sectors;
      later = (let a = one.later in let b = two.later in omega (arith, a, b));
      laps = (let a = one.laps in let b = two.laps in omega (arith, a, b));
      begins_none = begun_joined (facts_of old.store.state) (facts_of mid.store.state) (facts_of new.store.state) one.begins_none two.begins_none;
      history = λ first trees h. two.history first trees (one.history first trees h);
      fewer = λ first trees h. (let a = one.fewer first trees h in let b = two.fewer first trees (one.history first trees h) in omega (arith, a, b));
      left = λ first trees t image h far early left.
          left_before first trees t image h far early
          (two.left first trees t image (one.history first trees h) (subst (λ (p : LogPlace). IsFar p (lap_behind (facts_of new.store.state))) (sym one.place) far) (let rises = one.later in omega (arith, early, rises))
          (subst (λ (n : ℕ). LeftSince n (changes new.store.device) t image) (sym one.sectors) left));
    }

  -- ---- a step

  written : (w v : StoreWindow) → AfterWrite w v → v.waiting ≤ w.waiting
  written w v after = let same = ap (λ (x : StoreWindow). x.waiting) after.same in omega (arith, same)

  no_more : (step : StoreStep) (result : Result (Unit {0}) Failed) (f : StoreFacts) (w v : StoreWindow) → AfterTurn step result f w v → v.waiting ≤ w.waiting
  no_more SealPage result f w v after = written w v after
  no_more WritePage result f w v after = written w v after
  no_more SyncDevice (Ok tt) f w v after = after.waiting
  no_more SyncDevice (Err e) f w v after = written w v after
  no_more (WriteOut b) result f w v after = after.waiting
  no_more BeginCheckpoint result f w v after = written w v after
  no_more WriteRestart result f w v after = written w v after

  module _ (step : StoreStep) (result : Result (Unit {0}) Failed) (old new : SeenVolume D) (takes : TakesStep count moment changes (AfterTurn step result (facts_of old.store.state)) old.store new.store) where
    fewer_by : (first : List (List ℕ)) (trees : List Tree) → HasHistory gives count changes old first trees → undurable new ≤ undurable old
    fewer_by first trees h =
        let w = h.window in
        let has = h.holds.rests.rest.has in
        let x = takes.steps w has in
        let before = waits (changes old.store.device) (facts_of old.store.state) w has in
        let now = waits (changes new.store.device) (facts_of new.store.state) x.0 x.1 in
        let le = no_more step result (facts_of old.store.state) w x.0 x.2 in
        omega (arith, before, now, le)

    abbrev f : StoreFacts
    f = facts_of old.store.state

    abbrev g : StoreFacts
    g = facts_of new.store.state

    behind : IsKept f → KeepsSteps f → IsTurned gives count moment changes step result old.store new.store → TurnsTrees gives count moment changes old new → volume_tree gives new ≡ volume_tree gives old → new.map ≡ old.map → new.table ≡ old.table → new.streams ≡ old.streams
        → new.store.state.commits ≡ old.store.state.commits → RunsOn gives count moment changes old new
    behind kept steps turned trees tree map table streams commits =
        let rise = laps_rise step result f g kept.order.pages_some turned.facts in
        record {
          tree = tree;
          map = map;
          table = table;
          streams = streams;
          commits = commits;
          place = takes.place;
          sectors = turned.sectors;
          later = later_turned gives changes moment old.store.device new.store.device step result f g old.store.words new.store.words steps.kept turned.may turned.sent;
          laps = rise;
          begins_none = begins_turned step result f g turned.facts;
          history = trees.history;
          fewer = fewer_by;
          left = λ first trees_of t image h far early left.
              trees.left first trees_of t image h (farther old.store.state.place (lap_behind g) (max (lap_behind f) (lap_behind g)) (max-le rise (omega arith)) far) early left;
        }

  pub runs_turned : TurnsRun gives count moment changes
  runs_turned step result old new kept steps turned = behind step result old new turned.step_is kept steps turned
