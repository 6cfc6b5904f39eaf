-- A run without threads, on a volume that it doesn't change.
use Rattle.std.specs.Prelude.{◌≡◌, ◌≢◌, ℕ, ◌+◌, ◌<◌, ◌≤◌, true, List, [], ◌∷◌, ◌++◌, length, take, Option, IfSome, All}
use Rattle.host_base.specs.Causes.{last_moment}
use Rattle.file_tree.specs.declared.tree.Tree.{Tree}
use Rattle.tree_model.specs.declared.script.Op.{Op}
use Rattle.tree_model.specs.declared.script.What.{What}
use Rattle.tree_model.specs.declared.script.What.TheVariants.{Op as Operation, Find}
use Rattle.tree_model.specs.declared.script.Command.{Command}
use Rattle.tree_model.specs.declared.reply.Reply.TheVariants.{Fault}
use Rattle.tree_model.specs.Steps.{is_look, IsStep}
use Rattle.run_model.specs.declared.turn.Turn.{Turn}
use Rattle.run_model.specs.Runs.{RunStart, SerialRun, IsWhole, IsCounted, own, turn_commands, moment_of_last, last_faults, next_of}
use Rattle.serial_run.specs.Volumes.{TellsFaults}

abbrev pub run_start : List ℕ → List Command → ℕ → ℕ → ℕ → RunStart
run_start upper script time faults next = record { upper = upper; script = script; base = time; faults = faults; next = next }

-- The turns are a serial run of the script from the tree to itself, of which the one with the serial k is at the time `time + k`; the device had counted so many
-- faults at its start.
abbrev pub IsRunOf : List ℕ → Tree → List Command → ℕ → ℕ → List Turn → Type 0
IsRunOf upper tree script time faults turns = SerialRun (run_start upper script time faults (next_of tree.journal)) turns tree tree

-- the turn ended before the device's last moment, and isn't answered by `fault`
abbrev pub IsSound : Turn → Type 0
IsSound t = (t.moment < last_moment) × (t.reply ≢ Fault)

-- Each command has its turn, in a run in which the device's count of faults went from the one to the other; no turn has counted more, and where all are sound,
-- the device didn't fail.
pub record TakesTurns (script : List Command) (before now : ℕ) (turns : List Turn) : Type 0 where
  pub all : IsWhole script turns
  pub later : before ≤ now
  pub counted : IsCounted now turns
  pub told : All IsSound turns → now ≡ before

-- ---- so far

-- the turn of a command's operation on a volume, with what the device counted before and after it
pub record IsTurnOf (upper : List ℕ) (known : Option Tree) (next before now moment_before moment_now serial : ℕ) (c : Command) (op : Op) (t : Turn) : Type 0 where
  pub client : t.client ≡ c.client
  pub number : t.number ≡ c.number
  pub place : t.serial ≡ serial
  pub usn : t.usn ≡ next
  pub time : t.moment ≡ moment_now
  pub first : t.faults_before ≡ before
  pub last : t.faults_after ≡ now
  pub asked : t.op ≡ op
  pub looks : is_look op ≡ true
  pub step : IfSome known (λ x. (stamp : ℕ) → IsStep upper op stamp t.reply x x)
  pub told : TellsFaults known before now moment_before moment_now t.reply

-- the turns after one command more: an operation has its turn, a find has none
abbrev pub Follows : List ℕ → Option Tree → (next before now moment_before moment_now : ℕ) → Command → What → List Turn → List Turn → Type 0
Follows upper known next before now moment_before moment_now c (Operation op) old new = (t : Turn) × IsTurnOf upper known next before now moment_before moment_now (length old + 1) c op t × (new ≡ old ++ t ∷ [])
Follows upper known next before now moment_before moment_now c (Find name) old new = (new ≡ old) × (now ≡ before) × (moment_now ≡ moment_before)

-- the turns of the first commands of a script
pub record IsRunSoFar (upper : List ℕ) (known : Option Tree) (next : ℕ) (script : List Command) (time before i now moment : ℕ) (turns : List Turn) : Type 0 where
  pub run : IfSome known (λ t. SerialRun (run_start upper script time before next) turns t t)
  pub each : (client : ℕ) → length (own turns client) ≡ length (turn_commands (take i script) client)
  pub moments : moment_of_last 0 turns ≤ moment
  pub faults : (client : ℕ) → last_faults before (own turns client) ≤ now
  pub later : before ≤ now
  pub counted : IsCounted now turns
  pub told : All IsSound turns → now ≡ before
