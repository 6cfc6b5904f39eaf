-- What a run of a script on a device comes to.
use Rattle.std.proofs.Common.{◌≡◌, ◌⊎◌, subst, ℕ, ◌*◌, ◌^◌, ◌<◌, ◌≤◌, Bool, true, false, List, [], ◌++◌, length, take, drop, Option, Some, None, Result, Ok, Err, refl, sym, ap, ◌∙◌, inl, inr, arith}
use Rattle.std.specs.Prelude.{◌≢◌, IfSome, IfOk, IfErr, IsOk, String, string_bytes}
use Rattle.std.specs.Global.{Global}
use Rattle.std.proofs.lemmas.List.{take_all, take-append-le}
use Rattle.host_base.specs.Causes.{Rose, HasFailed, last_moment}
use Rattle.sector_device.specs.Disks.{AreOver, SeesDisk}
use Rattle.sector_device.specs.Moments.{Changes, MayLeaveNow, LeftSince}
use Rattle.sector_device.specs.Sectors.{IsDiskOf}
use Rattle.file_tree.specs.declared.tree.Tree.{Tree}
use Rattle.tree_model.specs.declared.script.Command.{Command}
use Rattle.run_model.specs.declared.turn.Turn.{Turn}
use Rattle.run_model.specs.Runs.{RunStart, Segment, IsWhole, turn_commands}
use Rattle.run_model.specs.Leaving.{LeavesStates, SomeState}
use Rattle.run_model.specs.Texts.{IsRunText}
use Rattle.serial_run.specs.Runs.{run_start, TakesTurns}
use Rattle.device_view.specs.Devices.{CountsCauseOnDevice, CountsOnDevice}
use Rattle.volume_open.specs.volume_core.image_open.declared.refusal.Refusal.{Refusal}
use Rattle.volume_open.specs.volume_core.image_open.declared.refusal.Refusal.TheVariants.{Short}
use Rattle.volume_open.specs.volume_core.volume_mount.Mounts.{MountedVolume, upper_in, tree_in, mounted_of}
use Rattle.log_page.specs.declared.places.LogPlace.{LogPlace}
use Rattle.log_area.specs.Areas.{ring_size}
use Rattle.volume_open.specs.volume_core.working_volume.txn_laws.Windows.{lap_behind}
use Rattle.volume_open.specs.volume_core.txn_core.txn_state.States.{facts_of}
use Rattle.volume_open.specs.volume_core.txn_mount.Mountable.{IsFar}
use Rattle.volume_open.specs.volume_core.crash_trees.txn_close.declared.fault.CloseFault.{CloseFault}
use Rattle.volume_open.specs.volume_core.crash_trees.txn_close.declared.fault.CloseFault.TheVariants.{Fault, Unmarked}
use Rattle.volume_open.specs.volume_core.crash_trees.txn_close.Ends.{close_cause}
use Rattle.volume_open.specs.volume_core.crash_trees.crash_mounts.Mounting.{MountsTree}
use Rattle.volume_open.specs.volume_core.Volumes.{SeenVolume, volume_tree}
use Rattle.volume_open.specs.volume_start.declared.fault.StartFault.{StartFault}
use Rattle.volume_open.specs.volume_start.declared.fault.StartFault.TheVariants.{Refused, Device, Memory, Unfit, Unknown}
use Rattle.volume_open.specs.volume_start.Faults.{count_cause}
use Rattle.volume_open.specs.volume_start.Starts.{StaysStarted, FailsStart}
use Rattle.volume_open.specs.Opens.{IsOpened}
use Rattle.change_run.specs.Turns.{IsVolumeTurn}
use Rattle.change_run.specs.Runs.{RunsTree, CarriesOn, LapsBounded}
use Rattle.change_run.specs.volume_replies.Replies.{BeginsAtMost}
use Rattle.writing_run.specs.Runs.{is_flushed, IsSoundAtEntry, RunsFrom, RunsOn, IsTold, RunsAndCloses, StopsRun, RunsScript}
use Rattle.writing_run.proofs.Starting.{start_left, starts_as, same, tree_known, far}
use Rattle.writing_run.proofs.Closing.{shown_left, closed_leaves, closed_newest}

same_tree : (a b : Tree) → Some a ≡ Some b → a ≡ b
same_tree a b is = cc

-- the text is that of a slice that was lent whole
pub printed_whole : (len : ℕ) (turns old whole : List Turn) (text : Result (String Global) StartFault) → whole ≡ take len (turns ++ drop (length turns) old) → length turns ≡ len → IfOk text (λ s. IsRunText whole [] (string_bytes s)) → IfOk text (λ s. IsRunText turns [] (string_bytes s))
printed_whole len turns old whole text is long printed =
    let same : whole ≡ turns = is ∙ take-append-le len turns (drop (length turns) old) (omega (arith, long)) ∙ take_all len turns (omega (arith, long)) in
    subst (λ (ts : List Turn). IfOk text (λ s. IsRunText ts [] (string_bytes s))) same printed

-- ---- no turn

-- a state that each image mounts as is that behind no turn
none_taken : (step : List Turn → Turn → Tree → Tree → Type 0) (tree : Tree) (t : ℕ) (image : List (List ℕ)) → MountsTree image tree → SomeState step [] tree tree t (MountsTree image)
none_taken step tree t image mounts = record {
  k = 0;
  prefix = record { within = omega arith; synced = λ i d lt. absurd (omega (arith, lt)) };
  state = tree;
  before = refl;
  after = refl;
  has = mounts;
}

module _ {D : Type 0} (gives : D → Option (List (List ℕ))) (count moment faults : D → ℕ) (changes : D → Changes)
    (over : (d : D) → AreOver (moment d) (changes d).past) (sees : (d : D) → SeesDisk (gives d) (changes d).disk) (whole : (d : D) → IfSome (gives d) (IsDiskOf (count d))) (script : List Command) (time : ℕ) where
  -- a run of which no command had a turn, since the volume wasn't opened
  pub none_ran : (start : ℕ) (old new : D) → count new ≡ count old → IfSome (gives old) (λ first. StaysStarted (count old) (moment old) first (changes old) (changes new)) → RunsOn gives count moment changes script time start [] false old new
  none_ran start old new sectors stays first m known mounts = record {
    last = tree_in m;
    run = refl;
    leaves = λ sound t image le left.
        ∣ none_taken (IsVolumeTurn (run_start (upper_in m) script time start 0)) (tree_in m) t image
        (start_left gives count moment changes over sees whole first m old known mounts sound (changes new) (subst (λ (o : Option (List (List ℕ))). IfSome o (λ f. StaysStarted (count old) (moment old) f (changes old) (changes new))) known stays) t image le
        (subst (λ (n : ℕ). LeftSince n (changes new) t image) sectors left)) ∣₁;
    newest = λ flushed. absurd cc;
    shows = λ flushed. absurd cc;
  }

  -- why there is no run
  pub none_script : (e : StartFault) (old new : D) → count new ≡ count old → IfSome (gives old) (λ first. StaysStarted (count old) (moment old) first (changes old) (changes new)) → (moment new < last_moment → faults old ≤ faults new)
      → (e ≢ Memory → StopsRun gives count moment faults changes e old new) → (count old ≡ 0 → (e ≡ Memory) ⊎ (e ≡ Refused (Short 1 0))) → RunsScript gives count moment faults changes script time (Err e) false old new
  none_script e old new sectors stays later stops empty = record {
    turns = [];
    start = faults old;
    runs = none_ran (faults old) old new sectors stays;
    sectors = sectors;
    later = later;
    told = tt;
    mounts = tt;
    stopped = λ other. (stops other, refl);
    empty = empty;
  }

  -- a device that isn't called
  pub uncalled : (e : StartFault) (d : D) → (e ≢ Memory → ((e ≡ Device) × (last_moment ≤ moment d)) ⊎ ((e ≡ Refused (Short 1 0)) × (count d ≡ 0))) → (count d ≡ 0 → (e ≡ Memory) ⊎ (e ≡ Refused (Short 1 0))) → RunsScript gives count moment faults changes script time (Err e) false d d
  uncalled e d why empty = none_script e d d refl (stays_same (gives d)) (λ early. omega arith) (λ other. inr (refl, why other)) empty
    where
      stays_same : (gave : Option (List (List ℕ))) → IfSome gave (λ first. StaysStarted (count d) (moment d) first (changes d) (changes d))
      stays_same None = tt
      stays_same (Some first) = λ m mounts. record {
        mounts = λ sound t image le left. inl left;
        place = m.opened.place;
        alike = record { sectors = λ n. refl; initialised = refl; pages = refl; clusters = refl };
        recovers = λ n disk state reads settled newer t image le left. inl left;
      }

  -- a start that failed
  rose_low : (a now : ℕ) → a < 2 ^ 64 → Rose a now → a ≤ now
  rose_low a now small rose = omega (arith, small, rose)

  failed_low : (a now end : ℕ) → a < 2 ^ 64 → HasFailed a now end → end < last_moment → a ≤ now
  failed_low a now end small (inl rose) early = rose_low a now small rose
  failed_low a now end small (inr over) early = absurd (omega (arith, over, early))

  count_low : (e : StartFault) (a now end : ℕ) → a < 2 ^ 64 → CountsCauseOnDevice a now end (count_cause e) → end < last_moment → a ≤ now
  count_low (Refused refusal) a now end small counts early = (let same : now ≡ a = counts in omega (arith, same))
  count_low Device a now end small counts early = failed_low a now end small counts early
  count_low Memory a now end small counts early = (let same : now ≡ a = counts in omega (arith, same))
  count_low Unfit a now end small counts early = (let same : now ≡ a = counts in omega (arith, same))
  count_low Unknown a now end small counts early = (let same : now ≡ a = counts in omega (arith, same))

  pub start_failed : (e : StartFault) (old new : D) → faults old < 2 ^ 64 → moment old < last_moment → (count old ≡ 0 → ⊥) → count new ≡ count old → IfSome (gives old) (λ first. StaysStarted (count old) (moment old) first (changes old) (changes new))
      → FailsStart gives count changes faults moment old (e, new) → (moment old < last_moment → CountsCauseOnDevice (faults old) (faults new) (moment new) (count_cause e)) → RunsScript gives count moment faults changes script time (Err e) false old new
  start_failed e old new small early some sectors stays fails counts =
      none_script e old new sectors stays (λ before. count_low e (faults old) (faults new) (moment new) small (counts early) before) (λ other. inl (fails, counts)) (λ none. absurd (some none))

  -- ---- turns on a volume that was opened

  module _ (laps : LapsBounded) (old : D) (v : SeenVolume D) (turns : List Turn) (flushed : Bool) (device : D) (few : length script ≤ 16384) (ran : RunsAndCloses gives count moment faults changes script time turns v flushed device)
      (sectors : count v.store.device ≡ count old) (stays : IfSome (gives old) (λ first. StaysStarted (count old) (moment old) first (changes old) (changes v.store.device))) (opened : IfSome (gives old) (λ first. IsOpened gives count changes first v)) where
    abbrev behind : SeenVolume D
    behind = ran.behind

    abbrev start : ℕ
    start = faults v.store.device

    sectors_closed : count device ≡ count behind.store.device
    sectors_closed = ap count (sym ran.closes.closes.gave) ∙ ran.closes.closes.goes.sectors

    pub sectors_now : count device ≡ count old
    sectors_now = sectors_closed ∙ ran.runs.sectors ∙ sectors

    module _ (first : List (List ℕ)) (m : MountedVolume) (known : gives old ≡ Some first) (mounts : mounted_of first ≡ Ok m) where
      opened_on : IsOpened gives count changes first v
      opened_on = subst (λ (o : Option (List (List ℕ))). IfSome o (λ f. IsOpened gives count changes f v)) known opened

      stays_on : StaysStarted (count old) (moment old) first (changes old) (changes v.store.device)
      stays_on = subst (λ (o : Option (List (List ℕ))). IfSome o (λ f. StaysStarted (count old) (moment old) f (changes old) (changes v.store.device))) known stays

      table_is : v.table ≡ upper_in m
      table_is = opened_on.table ∙ ap upper_in (same first m mounts v opened_on)

      -- the run's start, as the volume says it
      abbrev f : RunStart
      f = run_start v.table script time start 0

      -- the last tree
      last_of : (o : Option Tree) → volume_tree gives behind ≡ o → RunsTree f turns (Some (tree_in m)) o → (last : Tree) × (volume_tree gives behind ≡ Some last) × Segment (λ past t x y. IsVolumeTurn f past t x y) [] turns (tree_in m) last
      last_of (Some last) is run = (last, is, run)
      last_of None is run = absurd run

      last : (x : Tree) × (volume_tree gives behind ≡ Some x) × Segment (λ past t x y. IsVolumeTurn f past t x y) [] turns (tree_in m) x
      last = last_of (volume_tree gives behind) refl (subst (λ (o : Option Tree). RunsTree f turns o (volume_tree gives behind)) (tree_known first m mounts v opened_on) ran.runs.tree)

      -- where the start is sound
      module _ (sound : IsSoundAtEntry first m (changes old)) where
        carried : CarriesOn gives count changes f (moment old) first (tree_in m) turns behind
        carried = ran.runs.carries (moment old) first (tree_in m) (starts_as gives count moment changes over sees whole first m old known mounts sound v opened_on sectors stays_on)

        begins : BeginsAtMost (length script * ring_size (facts_of v.store.state).log) (facts_of v.store.state) (facts_of behind.store.state)
        begins = ran.runs.begins

        far_behind : IsFar behind.store.state.place (lap_behind (facts_of behind.store.state))
        far_behind = far laps first m mounts (changes old) sound v opened_on (length script) (facts_of behind.store.state) few ran.runs.place begins

        begins_last : BeginsAtMost (length script * ring_size (facts_of v.store.state).log) (facts_of v.store.state) (facts_of ran.closes.closes.last.state)
        begins_last =
            let none = ran.closes.closes.goes.passes.begins_none in
            record { pages = none.pages ∙ begins.pages; lap = none.lap ∙ begins.lap; few = (let a = begins.few in let b = none.begun in omega (arith, a, b)) }

        far_last : IsFar behind.store.state.place (lap_behind (facts_of ran.closes.closes.last.state))
        far_last =
            let place = ran.closes.closes.goes.passes.place in
            subst (λ (p : LogPlace). IsFar p (lap_behind (facts_of ran.closes.closes.last.state))) place
            (far laps first m mounts (changes old) sound v opened_on (length script) (facts_of ran.closes.closes.last.state) few (place ∙ ran.runs.place) begins_last)

        now_is : carried.now ≡ last.0
        now_is = same_tree carried.now last.0 (sym carried.present ∙ last.1)

        leaves : LeavesStates (λ past t x y. IsVolumeTurn f past t x y) MountsTree (tree_in m) (moment old) (LeftSince (count device) (changes device)) turns last.0
        leaves =
            subst (λ (x : Tree). LeavesStates (λ past t y z. IsVolumeTurn f past t y z) MountsTree (tree_in m) (moment old) (LeftSince (count device) (changes device)) turns x) now_is
            (closed_leaves gives count moment changes over f (moment old) first (tree_in m) turns behind carried ran.closed device ran.closes sectors_closed far_behind far_last)

        newest : flushed ≡ true → (image : List (List ℕ)) → MayLeaveNow (count device) (changes device) image → MountsTree image last.0
        newest well image left =
            subst (MountsTree image) now_is
            (closed_newest gives count moment changes over f (moment old) first (tree_in m) turns behind carried ran.closed device ran.closes sectors_closed far_behind far_last (sym ran.flushes ∙ well) image left)

      -- by the table of the mounted volume
      from_table : (upper : List ℕ) → v.table ≡ upper → (now : Tree) → Segment (λ past t x y. IsVolumeTurn f past t x y) [] turns (tree_in m) now
          → (IsSoundAtEntry first m (changes old) → LeavesStates (λ past t x y. IsVolumeTurn f past t x y) MountsTree (tree_in m) (moment old) (LeftSince (count device) (changes device)) turns now)
          → Segment (λ past t x y. IsVolumeTurn (run_start upper script time start 0) past t x y) [] turns (tree_in m) now
          × (IsSoundAtEntry first m (changes old) → LeavesStates (λ past t x y. IsVolumeTurn (run_start upper script time start 0) past t x y) MountsTree (tree_in m) (moment old) (LeftSince (count device) (changes device)) turns now)
      from_table upper is now run left = (
        subst (λ (u : List ℕ). Segment (λ past t x y. IsVolumeTurn (run_start u script time start 0) past t x y) [] turns (tree_in m) now) is run,
        subst (λ (u : List ℕ). IsSoundAtEntry first m (changes old) → LeavesStates (λ past t x y. IsVolumeTurn (run_start u script time start 0) past t x y) MountsTree (tree_in m) (moment old) (LeftSince (count device) (changes device)) turns now) is left,
      )

      ran_from : RunsFrom script time start first m (count device) (moment old) (changes old) (changes device) (gives device) turns flushed
      ran_from =
          let by = from_table (upper_in m) table_is last.0 last.2 leaves in
          record {
            last = last.0;
            run = by.0;
            leaves = by.1;
            newest = λ well sound. newest sound well;
            shows = λ well sound. shown_left (count device) (gives device) (changes device) (λ image. MountsTree image last.0) (whole device) (sees device) (newest sound well);
          }

    pub turns_ran : RunsOn gives count moment changes script time start turns flushed old device
    turns_ran first m known mounts = ran_from first m known mounts

    -- ---- what is told

    all_turns : IsWhole script turns
    all_turns client = ran.runs.each client ∙ ap (λ (c : List Command). length (turn_commands c client)) (take_all (length script) script (omega arith))

    taken : TakesTurns script start (faults behind.store.device) turns
    taken = record { all = all_turns; later = ran.runs.later; counted = ran.runs.counted; told = ran.runs.told }

    flush : (r : Result (Unit {0}) CloseFault) → CountsOnDevice close_cause (faults behind.store.device) (faults device) (moment device) r → is_flushed r ≡ true → faults device ≡ faults behind.store.device
    flush (Ok u) cause is = cause
    flush (Err Unmarked) cause is = cause
    flush (Err Fault) cause is = absurd cc

    failed : (r : Result (Unit {0}) CloseFault) → CountsOnDevice close_cause (faults behind.store.device) (faults device) (moment device) r → is_flushed r ≡ false → HasFailed (faults behind.store.device) (faults device) (moment device)
    failed (Ok u) cause is = absurd cc
    failed (Err Unmarked) cause is = absurd cc
    failed (Err Fault) cause is = cause

    pub turns_told : (text : String Global) → (moment old < last_moment → start ≡ faults old) → faults old ≤ start → IsRunText turns [] (string_bytes text) → IsTold script (faults old) (moment old) start flushed (faults device) (moment device) turns (string_bytes text)
    turns_told text mounted later printed = record {
      later = later;
      mounted = mounted;
      behind = faults behind.store.device;
      taken = taken;
      flush = λ well. flush ran.closed ran.cause (sym ran.flushes ∙ well);
      failed = λ not. failed ran.closed ran.cause (sym ran.flushes ∙ not);
      printed = printed;
    }

    by_failure : (a b now end : ℕ) → a ≤ b → b < 2 ^ 64 → HasFailed b now end → end < last_moment → a ≤ now
    by_failure a b now end le small (inl rose) early = omega (arith, le, small, rose)
    by_failure a b now end le small (inr over) early = absurd (omega (arith, over, early))

    counted_on : (r : Result (Unit {0}) CloseFault) → CountsOnDevice close_cause (faults behind.store.device) (faults device) (moment device) r → faults behind.store.device < 2 ^ 64 → faults old ≤ start → moment device < last_moment → faults old ≤ faults device
    counted_on (Ok u) same small later early = (let more = ran.runs.later in let is : faults device ≡ faults behind.store.device = same in omega (arith, more, later, is))
    counted_on (Err Unmarked) same small later early = (let more = ran.runs.later in let is : faults device ≡ faults behind.store.device = same in omega (arith, more, later, is))
    counted_on (Err Fault) rose small later early = by_failure (faults old) (faults behind.store.device) (faults device) (moment device) (let more = ran.runs.later in omega (arith, more, later)) small rose early

    pub turns_counted : faults old ≤ start → moment device < last_moment → faults old ≤ faults device
    turns_counted later early = counted_on ran.closed ran.cause ran.few later early

    -- ---- the whole run

    mounts_first : (gave : Option (List (List ℕ))) → IfSome gave (λ first. IsOpened gives count changes first v) → IfSome gave (λ first. IsOk (mounted_of first))
    mounts_first None o = tt
    mounts_first (Some first) o = subst (λ (r : Result MountedVolume Refusal). IsOk r) (sym o.mounts) refl

    pub ran_script : (text : Result (String Global) StartFault) → IfOk text (λ s. IsRunText turns [] (string_bytes s)) → IfErr text (λ e. e ≡ Memory) → moment old < last_moment → start ≡ faults old → (count old ≡ 0 → ⊥)
        → RunsScript gives count moment faults changes script time text flushed old device
    ran_script (Ok s) printed memory early same some = record {
      turns = turns;
      start = start;
      runs = turns_ran;
      sectors = sectors_now;
      later = λ before. turns_counted (omega (arith, same)) before;
      told = turns_told s (λ before. same) (omega (arith, same)) printed;
      mounts = mounts_first (gives old) opened;
      stopped = tt;
      empty = λ none. absurd (some none);
    }
    ran_script (Err e) printed memory early same some = record {
      turns = turns;
      start = start;
      runs = turns_ran;
      sectors = sectors_now;
      later = λ before. turns_counted (omega (arith, same)) before;
      told = tt;
      mounts = tt;
      stopped = λ other. absurd (other memory);
      empty = λ none. absurd (some none);
    }
