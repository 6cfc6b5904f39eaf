-- What a run of a script on a device prints.
use Rattle.std.specs.Prelude.{◌≡◌, ℕ, ◌<◌, ◌≤◌, List, [], Option, Some, None, IfSome, Result, Ok, Err, String, string_bytes}
use Rattle.std.specs.Global.{Global}
use Rattle.host_base.specs.Answers.{ExplainsOrFails}
use Rattle.host_base.specs.Causes.{last_moment}
use Rattle.tree_model.specs.declared.script.Command.{Command}
use Rattle.run_model.specs.declared.turn.Turn.{Turn}
use Rattle.run_model.specs.Texts.{IsRunText}
use Rattle.serial_run.specs.Runs.{IsRunOf, TakesTurns}
use Rattle.volume_mount.specs.image_open.declared.refusal.Refusal.{Refusal}
use Rattle.volume_mount.specs.image_open.declared.refusal.MountFault.{MountFault}
use Rattle.volume_mount.specs.image_open.Errors.{scan_cause}
use Rattle.volume_mount.specs.Mounts.{MountedVolume, upper_in, tree_in}

-- what a device has counted at some time: its faults, and its moment
pub record Counted : Type 0 where
  pub faults : ℕ
  pub moment : ℕ

-- The text of a run of the script from this time on, on a device that had counted so much before, and so many faults now. Each command has its turn; where the mounted volume is
-- known, the turns are a serial run from its tree, by its own table of upper-case units; and in the mount the device didn't fail, from before its last moment on.
pub record IsPrintedRun (known : Option MountedVolume) (script : List Command) (time : ℕ) (before : Counted) (now : ℕ) (text : List ℕ) : Type 0 where
  pub turns : List Turn
  pub start : ℕ
  pub later : before.faults ≤ start
  pub mounted : before.moment < last_moment → start ≡ before.faults
  pub run : IfSome known (λ m. IsRunOf (upper_in m) (tree_in m) script time start turns)
  pub taken : TakesTurns script start now turns
  pub printed : IsRunText turns [] text

-- what a device has counted by now
abbrev pub counted_by : {D : Type 0} → (D → ℕ) → (D → ℕ) → D → Counted
counted_by fault_count moment_of device = record { faults = fault_count device; moment = moment_of device }

-- what a run comes to, of the mounted volume or what refuses it
abbrev pub RunsAs : Result MountedVolume Refusal → List Command → ℕ → Counted → ℕ → Result (String Global) MountFault → Type 0
RunsAs (Ok m) script time before now (Ok text) = IsPrintedRun (Some m) script time before now (string_bytes text)
RunsAs (Err refusal) script time before now (Ok text) = ⊥
RunsAs meant script time before now (Err e) = ExplainsOrFails (scan_cause e) meant
