-- Lines of a script.
use Rattle.std.specs.Prelude.{ℕ, ◌<◌, ◌≤◌, Bool, ◌||◌, ◌==◌, nat_lt, not, if◌then◌else◌, List, [], ◌∷◌, length, slice_index, Option, Some, None, Result, Ok, Err}
use Rattle.std.specs.List.{slice_split, list_any}
use Rattle.std.specs.Str.{is_utf8}
use Rattle.host_base.specs.Numbers.{number_of}
use Rattle.tree_model.specs.declared.script.What.{What}
use Rattle.script_text.specs.declared.fault.ScriptFault.{ScriptFault}
use Rattle.script_text.specs.declared.fault.ScriptFault.TheVariants.{Line, TooManyClients}
use Rattle.script_text.specs.declared.line.Request.{Request}
use Rattle.script_text.specs.Asking.{IsAsked}
use Rattle.script_text.specs.Commands.{what_of}

-- the clients of a script are 1 to this one, so far
abbrev pub most_clients : ℕ
most_clients = 1

-- the words of a line, with one space between them
abbrev pub words_of : List ℕ → List (List ℕ)
words_of line = slice_split (λ b. b == 32) line

-- a line that is empty or begins with `#` is passed over
abbrev pub is_passed_over : List ℕ → Bool
is_passed_over line = length line == 0 || slice_index line 0 == 35

-- a client is a number other than 0
abbrev pub client_in : Option ℕ → Option ℕ
client_in None = None
client_in (Some client) = if client == 0 then None else Some client

-- the client of a request is one of those that a script may have, and it asks for what one may ask for
abbrev pub IsWithin : Request → Type 0
IsWithin request = (0 < request.client) × (request.client ≤ most_clients) × IsAsked request.what

-- what a client asks for at this line, or the rule that it breaks
abbrev pub asked : ℕ → ℕ → Result What ℕ → Result (Option Request) ScriptFault
asked number client (Ok what) = Ok (Some (record { client = client; what = what }))
asked number client (Err rule) = Err (Line number rule)

-- what a command asks for, where its client is within the bound
unfoldable pub asked_by : ℕ → Option ℕ → List (List ℕ) → Result (Option Request) ScriptFault
asked_by number None words = Err (Line number 4)
asked_by number (Some client) words = if nat_lt most_clients client then Err (TooManyClients client) else asked number client (what_of words)

-- what words ask for: first the client, then the command
unfoldable pub request_by : ℕ → List (List ℕ) → Result (Option Request) ScriptFault
request_by number [] = Err (Line number 3)
request_by number (first ∷ words) = asked_by number (client_in (number_of first)) words

-- no word is empty
unfoldable pub request_in : ℕ → List (List ℕ) → Result (Option Request) ScriptFault
request_in number words = if list_any (λ word. length word == 0) words then Err (Line number 3) else request_by number words

-- what the line of this number asks for, nothing, or what refuses it
unfoldable pub request_of : ℕ → List ℕ → Result (Option Request) ScriptFault
request_of number line =
    if not (is_utf8 line) then Err (Line number 2)
    else if is_passed_over line then Ok None
    else request_in number (words_of line)
