-- Scripts: lines, each of which is a command or passed over.
use Rattle.std.specs.Prelude.{◌≡◌, ℕ, ◌+◌, slice_index, EachIndex, ◌==◌, nat_lt, if◌then◌else◌, List, [], ◌∷◌, ◌++◌, length, count_by, Option, Some, None, Result, Ok, Err}
use Rattle.std.specs.List.{slice_split}
use Rattle.host_base.specs.Answers.{◌>>=◌}
use Rattle.tree_model.specs.declared.script.Command.{Command}
use Rattle.script_text.specs.declared.fault.ScriptFault.{ScriptFault}
use Rattle.script_text.specs.declared.fault.ScriptFault.TheVariants.{TooLarge, Line, TooManyCommands}
use Rattle.script_text.specs.declared.line.Request.{Request}
use Rattle.script_text.specs.Lines.{request_of}

-- the most bytes and commands of a script
abbrev pub most_bytes : ℕ
most_bytes = 16777216

abbrev pub most_commands : ℕ
most_commands = 16384

-- how many commands a client has so far
abbrev pub commands_of : ℕ → List Command → ℕ
commands_of client commands = count_by (λ c. c.client == client) commands

-- the counts are those of the clients from 1 on
abbrev pub AreCounts : List ℕ → List Command → Type 0
AreCounts counts commands = EachIndex counts (λ k. slice_index counts k ≡ commands_of (k + 1) commands)

-- a request as the next command: each client's commands are numbered from 1
abbrev pub next_command : List Command → Request → Command
next_command commands request = record { client = request.client; number = commands_of request.client commands + 1; what = request.what }

-- the commands, and one more where a line asks for something; a script has 16,384 at most
unfoldable pub with_request : List Command → Option Request → Result (List Command) ScriptFault
with_request commands None = Ok commands
with_request commands (Some request) = if nat_lt (length commands) most_commands then Ok (commands ++ next_command commands request ∷ []) else Err TooManyCommands

-- the commands after a line
unfoldable pub with_line : ℕ → List Command → List ℕ → Result (List Command) ScriptFault
with_line number commands line = request_of number line >>= with_request commands

-- what follows the last LF is a line without LF where it isn't empty
abbrev pub last_line : ℕ → List Command → List ℕ → Result (List Command) ScriptFault
last_line number commands line = if length line == 0 then Ok commands else Err (Line number 1)

-- the commands, and those of the lines from this number on, of which the last has no LF after it
abbrev pub commands_from : ℕ → List Command → List (List ℕ) → Result (List Command) ScriptFault
commands_from number commands [] = Ok commands
commands_from number commands (line ∷ []) = last_line number commands line
commands_from number commands (line ∷ next ∷ lines) = with_line number commands line >>= λ more. commands_from (number + 1) more (next ∷ lines)

-- the commands of lines
abbrev pub commands_in : List ℕ → Result (List Command) ScriptFault
commands_in bytes = commands_from 1 [] (slice_split (λ b. b == 10) bytes)

-- the commands of a script, or what refuses it: its size, else its first line at fault
abbrev pub script_of : List ℕ → Result (List Command) ScriptFault
script_of bytes = if nat_lt most_bytes (length bytes) then Err TooLarge else commands_in bytes
