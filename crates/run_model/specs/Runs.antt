-- Serial runs: turns that lead from one state to another, one step each; and the runs of the file tree.
use Rattle.std.specs.Prelude.{◌≡◌, ℕ, ◌+◌, ◌<◌, ◌≤◌, Bool, true, false, ◌&&◌, ◌==◌, List, [], ◌∷◌, ◌++◌, length, filter, slice_get, Option, Some, None, All}
use Rattle.host_base.specs.Causes.{HasFailed}
use Rattle.tree_model.specs.file_tree.declared.tree.Tree.{Tree}
use Rattle.tree_model.specs.file_tree.declared.journal.Journal.{Journal}
use Rattle.tree_model.specs.declared.script.What.{What}
use Rattle.tree_model.specs.declared.script.Op.{Op}
use Rattle.tree_model.specs.declared.script.Op.TheVariants as op
use Rattle.tree_model.specs.declared.script.What.TheVariants.{Op as Operation, Find}
use Rattle.tree_model.specs.declared.script.Command.{Command}
use Rattle.tree_model.specs.declared.reply.Reply.{Reply}
use Rattle.tree_model.specs.declared.reply.Reply.TheVariants.{Synced, Fault}
use Rattle.tree_model.specs.Steps.{IsStep}
use Rattle.run_model.specs.declared.turn.Turn.{Turn}

-- What stays for a whole run: the table of upper-case units, the script, the time before the first turn, the device's count of
-- faults at the start, and where the journal's next record went then, 0 without a journal.
pub record RunStart : Type 0 where
  pub upper : List ℕ
  pub script : List Command
  pub base : ℕ
  pub faults : ℕ
  pub next : ℕ

-- ---- the commands of a client, and its turns

abbrev pub takes_turn : What → Bool
takes_turn (Operation op) = true
takes_turn (Find name) = false

abbrev pub is_turn_command : ℕ → Command → Bool
is_turn_command client c = c.client == client && takes_turn c.what

-- the commands of a client that take a turn, in its order
unfoldable pub turn_commands : List Command → ℕ → List Command
turn_commands script client = filter (is_turn_command client) script

-- a client's own turns
unfoldable pub own : List Turn → ℕ → List Turn
own past client = filter (λ (t : Turn). t.client == client) past

-- the count of faults after the last of these turns, or at the start
abbrev pub last_faults : ℕ → List Turn → ℕ
last_faults start [] = start
last_faults start (t ∷ past) = last_faults t.faults_after past

abbrev pub moment_of_last : ℕ → List Turn → ℕ
moment_of_last start [] = start
moment_of_last start (t ∷ past) = moment_of_last t.moment past

-- the serial of the last of these turns
abbrev pub serial_of_last : ℕ → List Turn → ℕ
serial_of_last start [] = start
serial_of_last start (t ∷ past) = serial_of_last t.serial past

-- where the journal's next record goes, 0 without a journal
abbrev pub next_of : Option Journal → ℕ
next_of None = 0
next_of (Some j) = j.next

-- ---- one turn

-- What a turn does to the state, by its operation and reply. A `sync` leaves it, and says for how many turns the changes are on the
-- disk: at least up to the client's last turn, and not up to this one; it never wants memory. Each other turn is one step.
abbrev pub TakesStep : {S : Type 0} → (Op → ℕ → Reply → S → S → Type 0) → ℕ → List Turn → Turn → Op → Reply → S → S → Type 0
TakesStep steps base past t op.Sync (Synced turns) x y = (serial_of_last 0 (own past t.client) ≤ turns) × (turns < t.serial) × (y ≡ x)
TakesStep steps base past t op.Sync Fault x y = y ≡ x
TakesStep steps base past t op.Sync other x y = ⊥
TakesStep steps base past t op reply x y = steps op (base + t.serial) reply x y

-- A turn after those of the past, from one state to the next, by these steps at the time of its serial: it is its client's next
-- command that takes a turn. Moments and counts of faults don't fall, and a fault comes only where the count rose, or from the device's
-- last moment on. Of a state, `next_in` says where its journal's next record goes.
pub record IsTurn {S : Type 0} (next_in : S → ℕ) (steps : Op → ℕ → Reply → S → S → Type 0) (f : RunStart) (past : List Turn) (t : Turn) (x y : S) : Type 0 where
  pub serial : t.serial ≡ length past + 1
  pub command : slice_get (turn_commands f.script t.client) (length (own past t.client)) ≡ Some (record { client = t.client; number = t.number; what = Operation t.op })
  pub usn : t.usn ≡ next_in y
  pub moment : moment_of_last 0 past ≤ t.moment
  pub since : last_faults f.faults (own past t.client) ≤ t.faults_before
  pub later : t.faults_before ≤ t.faults_after
  pub fault : t.reply ≡ Fault → HasFailed t.faults_before t.faults_after t.moment
  pub step : TakesStep steps f.base past t t.op t.reply x y

abbrev pub next_in_tree : Tree → ℕ
next_in_tree t = next_of t.journal

-- a turn of the file tree
abbrev pub IsTreeTurn : RunStart → List Turn → Turn → Tree → Tree → Type 0
IsTreeTurn f past t x y = IsTurn next_in_tree (IsStep f.upper) f past t x y

-- ---- runs

-- These turns, after those of the past, lead from the one state to the other, each by its step.
abbrev pub Segment : {S : Type 0} → (List Turn → Turn → S → S → Type 0) → List Turn → List Turn → S → S → Type 0
Segment step past [] x y = y ≡ x
Segment {S} step past (t ∷ turns) x y = (z : S) × step past t x z × Segment step (past ++ t ∷ []) turns z y

-- the turns of a serial run from the one tree to the other
abbrev pub SerialRun : RunStart → List Turn → Tree → Tree → Type 0
SerialRun f turns x y = Segment (IsTreeTurn f) [] turns x y

-- each command that takes a turn has had it
abbrev pub IsWhole : List Command → List Turn → Type 0
IsWhole script turns = (client : ℕ) → length (own turns client) ≡ length (turn_commands script client)

-- no turn has counted more faults than the device has now
abbrev pub IsCounted : ℕ → List Turn → Type 0
IsCounted now turns = All (λ (t : Turn). t.faults_after ≤ now) turns
