-- What images of a disk a run leaves: each bears some state of the run, of which no sync that was answered is undone.
use Rattle.std.specs.Prelude.{⊤, ℕ, ◌≤◌, List, [], take, drop, length, All}
use Rattle.tree_model.specs.declared.reply.Reply.{Reply}
use Rattle.tree_model.specs.declared.reply.Reply.TheVariants.{Synced}
use Rattle.run_model.specs.declared.turn.Turn.{Turn}
use Rattle.run_model.specs.Runs.{Segment}

-- the first so many turns hold what this reply says is on the disk
abbrev pub HoldsSynced : ℕ → Reply → Type 0
HoldsSynced k (Synced turns) = turns ≤ k
HoldsSynced k other = ⊤

-- they hold what a turn said that was taken at this moment or before
abbrev pub HoldsSaid : ℕ → ℕ → Turn → Type 0
HoldsSaid t k turn = turn.moment ≤ t → HoldsSynced k turn.reply

-- so many of the turns may be what a crash at this moment leaves: no sync that was answered is undone
pub record AdmissiblePrefix (turns : List Turn) (t : ℕ) (k : ℕ) : Type 0 where
  pub within : k ≤ length turns
  pub synced : All (HoldsSaid t k) turns

-- Some state that has this, with the run before it from the first state and the run behind it to the present one, after turns that a
-- crash at this moment may leave.
pub record SomeState {S : Type 0} (step : List Turn → Turn → S → S → Type 0) (turns : List Turn) (first now : S) (t : ℕ) (Has : S → Type 0) : Type 0 where
  pub k : ℕ
  pub prefix : AdmissiblePrefix turns t k
  pub state : S
  pub before : Segment step [] (take k turns) first state
  pub after : Segment step (take k turns) (drop k turns) state now
  pub has : Has state

-- Each image that a crash may have left since a moment bears some such state, for each moment since the first one.
abbrev pub LeavesStates : {S I : Type 0} → (List Turn → Turn → S → S → Type 0) → (I → S → Type 0) → S → ℕ → (ℕ → I → Type 0) → List Turn → S → Type 0
LeavesStates {S} {I} step Bears first since left_since turns now = (t : ℕ) (image : I) → since ≤ t → left_since t image → ∥ SomeState step turns first now t (Bears image) ∥₁

-- ---- what has to be known of a step

-- a reply that tells of no sync
abbrev pub TellsNoSync : Reply → Type 0
TellsNoSync (Synced turns) = ⊥
TellsNoSync other = ⊤

-- A state of the run in which no sync that was answered so far is undone.
pub record IsSyncedState {S : Type 0} (step : List Turn → Turn → S → S → Type 0) (turns : List Turn) (first now state : S) : Type 0 where
  pub k : ℕ
  pub within : k ≤ length turns
  pub synced : All (λ (turn : Turn). HoldsSynced k turn.reply) turns
  pub before : Segment step [] (take k turns) first state
  pub after : Segment step (take k turns) (drop k turns) state now

-- an image bears such a state
pub record BearsSynced {S : Type 0} (step : List Turn → Turn → S → S → Type 0) (turns : List Turn) (first now : S) (Has : S → Type 0) : Type 0 where
  pub state : S
  pub is_synced : IsSyncedState step turns first now state
  pub has : Has state

-- an image bears a state that this turn too says is kept
pub record BearsSaid {S : Type 0} (step : List Turn → Turn → S → S → Type 0) (turns : List Turn) (first now : S) (t : ℕ) (Has : S → Type 0) (turn : Turn) : Type 0 where
  pub some : SomeState step turns first now t Has
  pub said : HoldsSaid t some.k turn
