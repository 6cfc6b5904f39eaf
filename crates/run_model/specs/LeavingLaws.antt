-- The laws of what a run leaves on a disk.
use Rattle.std.specs.Prelude.{◌⊎◌, ℕ, ◌≤◌, ◌<◌, List, [], ◌∷◌, ◌++◌, All}
use Rattle.run_model.specs.declared.turn.Turn.{Turn}
use Rattle.run_model.specs.Runs.{Segment}
use Rattle.run_model.specs.Leaving.{LeavesStates, TellsNoSync, BearsSynced, BearsSaid}

-- turns more that tell of no sync, after which no image is new
abbrev pub TurnsKeepStates : {S I : Type 0} → (List Turn → Turn → S → S → Type 0) → (I → S → Type 0) → (ℕ → I → Type 0) → (ℕ → I → Type 0) → Type 0
TurnsKeepStates {S} {I} step Bears left left_then = (turns more : List Turn) (first now next : S) (since : ℕ)
    → LeavesStates step Bears first since left turns now
    → Segment step turns more now next
    → All (λ (turn : Turn). TellsNoSync turn.reply) more
    → ((t : ℕ) (image : I) → left_then t image → left t image)
    → LeavesStates step Bears first since left_then (turns ++ more) next

-- one turn more, which each image left since its moment bears out
abbrev pub TurnKeepsStates : {S I : Type 0} → (List Turn → Turn → S → S → Type 0) → (I → S → Type 0) → (ℕ → I → Type 0) → Type 0
TurnKeepsStates {S} {I} step Bears left_then = (turns : List Turn) (turn : Turn) (first now next : S) (since : ℕ)
    → step turns turn now next
    → ((t : ℕ) (image : I) → since ≤ t → left_then t image → ∥ BearsSaid step turns first now t (Bears image) turn ∥₁)
    → LeavesStates step Bears first since left_then (turns ++ turn ∷ []) next

-- a step of the store, after which an image is one that might have been left before, or bears a state in which no sync is undone
abbrev pub StoreKeepsStates : {S I : Type 0} → (List Turn → Turn → S → S → Type 0) → (I → S → Type 0) → (ℕ → I → Type 0) → (ℕ → I → Type 0) → Type 0
StoreKeepsStates {S} {I} step Bears left left_then = (turns : List Turn) (first now : S) (since : ℕ)
    → LeavesStates step Bears first since left turns now
    → ((t : ℕ) (image : I) → since ≤ t → left_then t image → left t image ⊎ ∥ BearsSynced step turns first now (Bears image) ∥₁)
    → LeavesStates step Bears first since left_then turns now

-- a run that ended, from an earlier moment on, since which up to its start all images bore its first state
abbrev pub RunKeepsStates : {S I : Type 0} → (List Turn → Turn → S → S → Type 0) → (I → S → Type 0) → (ℕ → I → Type 0) → Type 0
RunKeepsStates {S} {I} step Bears left = (turns : List Turn) (first now : S) (entry since : ℕ)
    → LeavesStates step Bears first since left turns now
    → Segment step [] turns first now
    → All (λ (turn : Turn). since ≤ turn.moment) turns
    → ((t : ℕ) (image : I) → entry ≤ t → t < since → left t image → ∥ Bears image first ∥₁)
    → LeavesStates step Bears first entry left turns now
