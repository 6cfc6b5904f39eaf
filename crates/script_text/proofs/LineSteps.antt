-- Steps over the lines of a script.
use Rattle.std.proofs.Common.{◌≡◌, ℕ, ◌+◌, ◌<◌, ◌≤◌, Bool, List, [], ◌∷◌, length, take, drop, Some, None, Result, Ok, sym, ap, ◌∙◌, arith}
use Rattle.std.specs.Prelude.{◌==◌, position}
use Rattle.std.specs.List.{slice_split, position_or_len}
use Rattle.std.proofs.lemmas.Bool.Decides.{nat_tests}
use Rattle.std.proofs.lemmas.List.Splits.{slice_split_none, slice_split_first, length-slice_split}
use Rattle.std.proofs.lemmas.List.Sums.{fails_before_first}
use Rattle.host_base.specs.Answers.{◌>>=◌, Explains}
use Rattle.tree_model.specs.declared.script.Command.{Command}
use Rattle.script_text.specs.declared.fault.ScriptFault.{ScriptFault}
use Rattle.script_text.specs.declared.fault.ScriptFault.TheVariants.{TooLarge, Line, TooManyClients, TooManyCommands, Memory}
use Rattle.script_text.specs.Faults.{script_cause}
use Rattle.script_text.specs.Scripts.{with_line, commands_from}

-- the test of an LF
abbrev is_lf : ℕ → Bool
is_lf b = b == 10

-- with no LF the bytes are one piece
pub one_piece : (bytes : List ℕ) → position is_lf bytes ≡ None → slice_split is_lf bytes ≡ bytes ∷ []
one_piece bytes none =
    let past : length bytes ≤ position_or_len is_lf bytes = grind (arith, nat_tests) in
    slice_split_none is_lf bytes (λ k d lt. fails_before_first is_lf bytes k d (omega arith))

-- up to the first LF stands the first piece
pub first_piece : (bytes : List ℕ) (i : ℕ) → position is_lf bytes ≡ Some i → (i < length bytes) × (slice_split is_lf bytes ≡ take i bytes ∷ slice_split is_lf (drop (i + 1) bytes))
first_piece bytes i found =
    let lt : position_or_len is_lf bytes < length bytes = grind (arith, nat_tests) in
    let same : position_or_len is_lf bytes ≡ i = grind (arith, nat_tests) in
    (omega arith, slice_split_first is_lf bytes 0 lt ∙ ap (λ (n : ℕ). take n bytes ∷ slice_split is_lf (drop (n + 1) bytes)) same)

-- a line with an LF, and at least one piece behind it
pub next_line : (number : ℕ) (commands more : List Command) (line : List ℕ) (pieces : List (List ℕ)) (whole : Result (List Command) ScriptFault)
    → 0 < length pieces → with_line number commands line ≡ Ok more → commands_from number commands (line ∷ pieces) ≡ whole → commands_from (number + 1) more pieces ≡ whole
next_line number commands more line [] whole lt read so_far = absurd (omega arith)
next_line number commands more line (next ∷ pieces) whole lt read so_far = sym (ap (λ said. said >>= λ m. commands_from (number + 1) m (next ∷ pieces)) read) ∙ so_far

pub line_at_fault : (number : ℕ) (commands : List Command) (line : List ℕ) (pieces : List (List ℕ)) (fault : ScriptFault) (whole : Result (List Command) ScriptFault)
    → 0 < length pieces → Explains (script_cause fault) (with_line number commands line) → commands_from number commands (line ∷ pieces) ≡ whole → Explains (script_cause fault) whole
line_at_fault number commands line [] fault whole lt why so_far = absurd (omega arith)
line_at_fault number commands line (next ∷ pieces) Memory whole lt why so_far = tt
line_at_fault number commands line (next ∷ pieces) TooLarge whole lt why so_far = sym so_far ∙ ap (λ said. said >>= λ m. commands_from (number + 1) m (next ∷ pieces)) why
line_at_fault number commands line (next ∷ pieces) (Line n rule) whole lt why so_far = sym so_far ∙ ap (λ said. said >>= λ m. commands_from (number + 1) m (next ∷ pieces)) why
line_at_fault number commands line (next ∷ pieces) (TooManyClients client) whole lt why so_far = sym so_far ∙ ap (λ said. said >>= λ m. commands_from (number + 1) m (next ∷ pieces)) why
line_at_fault number commands line (next ∷ pieces) TooManyCommands whole lt why so_far = sym so_far ∙ ap (λ said. said >>= λ m. commands_from (number + 1) m (next ∷ pieces)) why

-- there is a piece
pub some_piece : (bytes : List ℕ) → 0 < length (slice_split is_lf bytes)
some_piece bytes = omega (arith, length-slice_split is_lf bytes)
