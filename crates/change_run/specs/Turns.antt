-- The turns of a run on a volume that they change.
use Rattle.std.specs.Prelude.{◌≡◌, ℕ, ◌+◌, ◌-◌, ◌<◌, List, length, get_or, Option, None, IfSome}
use Rattle.sector_device.specs.Moments.{Changes, LeftSince}
use Rattle.file_tree.specs.declared.tree.Tree.{Tree}
use Rattle.tree_model.specs.declared.script.What.TheVariants.{Op as Operation}
use Rattle.tree_model.specs.declared.script.Command.{Command}
use Rattle.run_model.specs.declared.turn.Turn.{Turn}
use Rattle.run_model.specs.Runs.{RunStart, IsTurn, next_in_tree}
use Rattle.serial_run.specs.Volumes.{TellsFaults}
use Rattle.volume_replies.specs.volume_core.Volumes.{SeenVolume, volume_tree}
use Rattle.volume_replies.specs.volume_core.Trees.{StepsTo}
use Rattle.volume_replies.specs.Replies.{Answers}

-- A turn, behind those before it, from the one tree to the other: a step of it, but where a full record refuses the operation, of which a tree doesn't tell; then it stays.
abbrev pub IsVolumeTurn : RunStart → List Turn → Turn → Tree → Tree → Type 0
IsVolumeTurn f past t x y = IsTurn next_in_tree (λ op stamp said u v. StepsTo f.upper op stamp said u v) f past t x y

-- what a crash since a moment may have left of a volume's device
abbrev pub LeftOf : {D : Type 0} → (D → ℕ) → (D → Changes) → SeenVolume D → ℕ → List (List ℕ) → Type 0
LeftOf count changes v t image = LeftSince (count v.store.device) (changes v.store.device) t image

-- a turn of a command before it is run: whose it is, and what it asks for
pub record IsBlank (c : Command) (serial : ℕ) (t : Turn) : Type 0 where
  pub client : t.client ≡ c.client
  pub number : t.number ≡ c.number
  pub place : t.serial ≡ serial
  pub what : c.what ≡ Operation t.op

-- the turns of a script's commands, before they are run
pub record AreBlank (script : List Command) (turns : List Turn) : Type 0 where
  pub many : length turns ≡ length script
  pub each : (i : ℕ) (c : Command) (t : Turn) → i < length script → IsBlank (get_or script i c) (i + 1) (get_or turns i t)

-- The turn of an operation of a run that began at this time, of which it changes a volume to another: a sync says that all turns before it are durable.
pub record IsTurnOn {D : Type 0} (gives : D → Option (List (List ℕ))) (count moment faults : D → ℕ) (changes : D → Changes) (time : ℕ) (blank t : Turn) (old new : SeenVolume D) : Type 0 where
  pub client : t.client ≡ blank.client
  pub number : t.number ≡ blank.number
  pub serial : t.serial ≡ blank.serial
  pub asked : t.op ≡ blank.op
  pub usn : t.usn ≡ 0
  pub time_is : t.moment ≡ moment new.store.device
  pub first : t.faults_before ≡ faults old.store.device
  pub last : t.faults_after ≡ faults new.store.device
  pub answers : Answers gives count moment changes blank.op (time + blank.serial) (blank.serial - 1) t.reply old new
  pub journal : IfSome (volume_tree gives new) (λ x. x.journal ≡ None)
  pub told : TellsFaults (volume_tree gives old) (faults old.store.device) (faults new.store.device) (moment old.store.device) (moment new.store.device) t.reply
