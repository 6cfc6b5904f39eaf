-- What holds of the texts of runs.
use Rattle.std.specs.Prelude.{◌≡◌, ℕ, List}
use Rattle.run_model.specs.declared.turn.Turn.{Turn}
use Rattle.run_model.specs.declared.turn.FindLine.{FindLine}
use Rattle.run_model.specs.Texts.{IsRunText}

-- turns and finds have one text
abbrev pub RunTextIsOne : Type 0
RunTextIsOne = (turns : List Turn) (finds : List FindLine) (a b : List ℕ) → IsRunText turns finds a → IsRunText turns finds b → a ≡ b
