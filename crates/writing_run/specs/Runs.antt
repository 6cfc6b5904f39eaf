-- A run of a script on the volume of a device: its turns, and what a crash leaves of it.
use Rattle.std.specs.Prelude.{◌≡◌, ◌≢◌, ◌⊎◌, ℕ, ◌+◌, ◌^◌, ◌<◌, ◌≤◌, Bool, true, false, List, [], length, Option, Some, Result, Ok, Err, IfOk, IfErr, IfSome, IsOk, IsErrAnd, String, string_bytes}
use Rattle.std.specs.Global.{Global}
use Rattle.host_base.specs.Causes.{HasFailed, last_moment}
use Rattle.sector_device.specs.Disks.{IsSettled}
use Rattle.sector_device.specs.Moments.{Changes, MayLeaveNow, LeftSince}
use Rattle.file_tree.specs.declared.tree.Tree.{Tree}
use Rattle.tree_model.specs.declared.script.Command.{Command}
use Rattle.run_model.specs.declared.turn.Turn.{Turn}
use Rattle.run_model.specs.Runs.{Segment}
use Rattle.run_model.specs.Leaving.{LeavesStates}
use Rattle.run_model.specs.Texts.{IsRunText}
use Rattle.serial_run.specs.Runs.{run_start, TakesTurns}
use Rattle.log_page.specs.Places.{sequence_bits}
use Rattle.device_view.specs.Devices.{CountsCauseOnDevice, CountsOnDevice}
use Rattle.volume_open.specs.volume_core.image_open.declared.refusal.Refusal.TheVariants.{Short}
use Rattle.volume_open.specs.volume_core.volume_mount.Mounts.{MountedVolume, upper_in, tree_in, mounted_of}
use Rattle.volume_open.specs.volume_core.crash_trees.txn_close.declared.fault.CloseFault.{CloseFault}
use Rattle.volume_open.specs.volume_core.crash_trees.txn_close.declared.fault.CloseFault.TheVariants.{Fault, Unmarked}
use Rattle.volume_open.specs.volume_core.crash_trees.txn_close.Ends.{close_cause}
use Rattle.volume_open.specs.volume_core.crash_trees.crash_mounts.Mounting.{MountsTree}
use Rattle.volume_open.specs.volume_core.Volumes.{SeenVolume}
use Rattle.volume_open.specs.volume_core.Calls.{ClosesTrees}
use Rattle.volume_open.specs.volume_start.declared.fault.StartFault.{StartFault}
use Rattle.volume_open.specs.volume_start.declared.fault.StartFault.TheVariants.{Memory, Refused, Device}
use Rattle.volume_open.specs.volume_start.Faults.{count_cause}
use Rattle.volume_open.specs.volume_start.Starts.{HasSoundLog, FailsStart}
use Rattle.change_run.specs.Turns.{IsVolumeTurn}
use Rattle.change_run.specs.Runs.{RunsSoFar}

-- a closing flush that went well, also where the log couldn't be marked clean
abbrev pub is_flushed : Result (Unit {0}) CloseFault → Bool
is_flushed (Ok u) = true
is_flushed (Err Unmarked) = true
is_flushed (Err Fault) = false

-- ---- what a crash leaves

-- Where this is so of a volume and its device at the start, a crash is accounted for: nothing is unsynced, the volume's log is sound, and 2^17 laps are left behind its next one.
pub record IsSoundAtEntry (first : List (List ℕ)) (m : MountedVolume) (old : Changes) : Type 0 where
  pub settled : IfSome old.disk IsSettled
  pub log : HasSoundLog first m
  pub laps : m.opened.state.next_lap + 2 ^ 17 < 2 ^ sequence_bits m.opened.place.pages

-- The turns are those of one serial run of the script, from the tree of the volume that the first sectors mount as, to the last tree. Each image that a crash could leave since that moment mounts as the tree after a
-- prefix of the turns in which no sync that was answered is undone; and behind a closing flush that went well what a crash leaves, and what reads give, mounts as the last tree.
pub record RunsFrom (script : List Command) (time start : ℕ) (first : List (List ℕ)) (m : MountedVolume) (count since : ℕ) (old now : Changes) (gave : Option (List (List ℕ))) (turns : List Turn) (flushed : Bool) : Type 0 where
  pub last : Tree
  pub run : Segment (IsVolumeTurn (run_start (upper_in m) script time start 0)) [] turns (tree_in m) last
  pub leaves : IsSoundAtEntry first m old → LeavesStates (IsVolumeTurn (run_start (upper_in m) script time start 0)) MountsTree (tree_in m) since (LeftSince count now) turns last
  pub newest : flushed ≡ true → IsSoundAtEntry first m old → (image : List (List ℕ)) → MayLeaveNow count now image → MountsTree image last
  pub shows : flushed ≡ true → IsSoundAtEntry first m old → IfSome gave (λ disk. MountsTree disk last)

-- so it is where the sectors of a device were known and mount
abbrev pub RunsOn : {D : Type 0} → (D → Option (List (List ℕ))) → (count moment : D → ℕ) → (D → Changes) → List Command → (time start : ℕ) → List Turn → Bool → (old new : D) → Type 0
RunsOn gives count moment changes script time start turns flushed old new = (first : List (List ℕ)) (m : MountedVolume) → gives old ≡ Some first → mounted_of first ≡ Ok m
    → RunsFrom script time start first m (count new) (moment old) (changes old) (changes new) (gives new) turns flushed

-- ---- what is told

-- Each command had its turn, on a device that had counted so many faults by that moment before, and has counted so many by this moment now, in a session that began at so many faults: in the mount the device didn't fail, from before its last moment on; no
-- failure is passed over by a turn, and none by the closing flush. The text is that of the turns.
pub record IsTold (script : List Command) (before moment_before start : ℕ) (flushed : Bool) (now moment_now : ℕ) (turns : List Turn) (text : List ℕ) : Type 0 where
  pub later : before ≤ start
  pub mounted : moment_before < last_moment → start ≡ before
  pub behind : ℕ
  pub taken : TakesTurns script start behind turns
  pub flush : flushed ≡ true → now ≡ behind
  pub failed : flushed ≡ false → HasFailed behind now moment_now
  pub printed : IsRunText turns [] text

-- The commands of a script had their turns on a volume, which was closed then.
pub record RunsAndCloses {D : Type 0} (gives : D → Option (List (List ℕ))) (count moment faults : D → ℕ) (changes : D → Changes) (script : List Command) (time : ℕ) (turns : List Turn) (v : SeenVolume D) (flushed : Bool) (device : D) : Type 0 where
  pub behind : SeenVolume D
  pub closed : Result (Unit {0}) CloseFault
  pub runs : RunsSoFar gives count moment faults changes script time (length script) turns v behind
  pub closes : ClosesTrees gives count moment changes behind closed device
  pub few : faults behind.store.device < 2 ^ 64
  pub cause : CountsOnDevice close_cause (faults behind.store.device) (faults device) (moment device) closed
  pub flushes : flushed ≡ is_flushed closed

-- Why there is no run: a fault of the mount, in which no failure of the device is passed over, from before its last moment on; or the device's last moment had come before, or it has no sectors, and it wasn't called.
abbrev pub StopsRun : {D : Type 0} → (D → Option (List (List ℕ))) → (count moment faults : D → ℕ) → (D → Changes) → StartFault → (old new : D) → Type 0
StopsRun gives count moment faults changes e old new =
    (FailsStart gives count changes faults moment old (e, new) × (moment old < last_moment → CountsCauseOnDevice (faults old) (faults new) (moment new) (count_cause e)))
    ⊎ ((new ≡ old) × (((e ≡ Device) × (last_moment ≤ moment old)) ⊎ ((e ≡ Refused (Short 1 0)) × (count old ≡ 0))))

-- What a run of a script on a device came to: its turns, of a session that began when the device had counted so many faults. They are none where the volume wasn't mounted. Where there is no text, the mount says why, or
-- memory was wanting for the turns, or for the text behind a run that was closed.
pub record RunsScript {D : Type 0} (gives : D → Option (List (List ℕ))) (count moment faults : D → ℕ) (changes : D → Changes) (script : List Command) (time : ℕ) (text : Result (String Global) StartFault) (flushed : Bool) (old new : D) : Type 0 where
  pub turns : List Turn
  pub start : ℕ
  pub runs : RunsOn gives count moment changes script time start turns flushed old new
  pub sectors : count new ≡ count old
  pub later : moment new < last_moment → faults old ≤ faults new
  pub told : IfOk text (λ s. IsTold script (faults old) (moment old) start flushed (faults new) (moment new) turns (string_bytes s))
  pub mounts : IfOk text (λ s. IfSome (gives old) (λ first. IsOk (mounted_of first)))
  pub stopped : IfErr text (λ e. e ≢ Memory → StopsRun gives count moment faults changes e old new × (turns ≡ []))
  pub empty : count old ≡ 0 → IsErrAnd text (λ e. (e ≡ Memory) ⊎ (e ≡ Refused (Short 1 0)))
