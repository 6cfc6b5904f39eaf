-- The text of a run behind a text that was there.
use Rattle.std.specs.Prelude.{◌≡◌, ℕ, List, ◌++◌}
use Rattle.run_model.specs.declared.turn.Turn.{Turn}
use Rattle.run_model.specs.declared.turn.FindLine.{FindLine}
use Rattle.std.specs.List.Sorted.{IsPermutation, IsSortedBy, IsStableBy}
use Rattle.run_model.specs.Texts.{Line, line_before, IsRunText}

-- the text of a run of these turns and finds stands behind the old text
pub record AppendsRunText (turns : List Turn) (finds : List FindLine) (old new : List ℕ) : Type 0 where
  pub text : List ℕ
  pub is_run_text : IsRunText turns finds text
  pub appended : new ≡ old ++ text

-- the same lines by client and then by number; those that tie stand as before
pub record IsInOrder (lines order : List Line) : Type 0 where
  pub same : IsPermutation lines order
  pub sorted : IsSortedBy line_before order
  pub ties : IsStableBy line_before lines order
