-- The grammar of a command line: which words are options, which are their values, and which go by
-- their place.
use Rattle.std.specs.Prelude.{ℕ, ◌==◌, Bool, not, if◌then◌else◌, List, [], ◌∷◌, ◌++◌, codes, find, Option, Some, None, option_map, Result, Ok, Err}
use Rattle.std.specs.List.{list_any, before_first, after_first}
use Rattle.std.specs.Str.{bytes_eq}
use Rattle.host_base.specs.Answers.{◌>>=◌}
use Rattle.command_line.specs.declared.fault.LineFault.{LineFault}
use Rattle.command_line.specs.declared.fault.LineFault.TheVariants.{NoLine}

-- ---- what a word looks like

pub data Form : Type 0 where
  -- a value, or a word that goes by its place
  plain : Form
  -- `--`, behind which all words go by their place
  closing : Form
  -- `--NAME` or `--NAME=VALUE`
  long : List ℕ → Option (List ℕ) → Form
  -- `-x`
  short : Form

-- the name ends at the first `=` (61), and the value is what follows it
abbrev pub long_form : List ℕ → Form
long_form text =
    long (before_first (λ b. b == 61) text) (if list_any (λ b. b == 61) text then Some (after_first (λ b. b == 61) text) else None)

abbrev pub behind_two : List ℕ → Form
behind_two [] = closing
behind_two (b ∷ text) = long_form (b ∷ text)

-- `-` alone is plain
abbrev pub behind_one : List ℕ → Form
behind_one [] = plain
behind_one (b ∷ text) = if b == 45 then behind_two text else short

abbrev pub form_of : List ℕ → Form
form_of [] = plain
form_of (b ∷ text) = if b == 45 then behind_one text else plain

-- ---- what a line gives

-- what can be given: two words by their places, and three options
pub data Name : Type 0 where
  the_image : Name
  the_command : Name
  the_time : Name
  the_seed : Name
  the_journal : Name

abbrev pub spelled : Name → List ℕ
spelled the_image = codes "image"
spelled the_command = codes "command"
spelled the_time = codes "time"
spelled the_seed = codes "seed"
spelled the_journal = codes "journal"

abbrev pub is_same : Name → Name → Bool
is_same a b = bytes_eq (spelled a) (spelled b)

abbrev pub option_named : List ℕ → Option Name
option_named text = find (λ name. bytes_eq (spelled name) text) (the_time ∷ the_seed ∷ the_journal ∷ [])

-- names with their values, in the order of the words
abbrev pub Given : Type 0
Given = List (Name × List ℕ)

abbrev pub has : Name → Given → Bool
has name given = list_any (λ g. is_same g.0 name) given

abbrev pub value_in : Name → Given → Option (List ℕ)
value_in name given = option_map (λ g. g.1) (find (λ g. is_same g.0 name) given)

-- nothing is given twice
abbrev pub with_value : Name → List ℕ → Given → Result Given LineFault
with_value name value given = if has name given then Err NoLine else Ok (given ++ (name, value) ∷ [])

-- the image comes first, then the command, and no word behind them
abbrev pub with_word : List ℕ → Given → Result Given LineFault
with_word word given =
    if not (has the_image given) then with_value the_image word given
    else if not (has the_command given) then with_value the_command word given
    else Err NoLine

-- ---- the words, one after the other

-- what the next word is: an option or a word by its place; the value of an option; or, behind `--`,
-- a word by its place
pub data Next : Type 0 where
  any_word : Next
  value_of : Name → Next
  placed_word : Next

abbrev pub State : Type 0
State = Next × Given

abbrev pub then_any : Result Given LineFault → Result State LineFault
then_any (Ok given) = Ok (any_word, given)
then_any (Err fault) = Err fault

abbrev pub then_word : Result Given LineFault → Result State LineFault
then_word (Ok given) = Ok (placed_word, given)
then_word (Err fault) = Err fault

-- an option with its value in the same word, or in the next one
abbrev pub at_option : Option Name → Option (List ℕ) → Given → Result State LineFault
at_option None text given = Err NoLine
at_option (Some name) (Some text) given = then_any (with_value name text given)
at_option (Some name) None given = Ok (value_of name, given)

abbrev pub at_any : Form → List ℕ → Given → Result State LineFault
at_any plain text given = then_any (with_word text given)
at_any closing text given = Ok (placed_word, given)
at_any (long name attached) text given = at_option (option_named name) attached given
at_any short text given = Err NoLine

-- a value looks like no option
abbrev pub at_value : Form → Name → List ℕ → Given → Result State LineFault
at_value plain name text given = then_any (with_value name text given)
at_value _ name text given = Err NoLine

abbrev pub turn : Next → List ℕ → Given → Result State LineFault
turn any_word text given = at_any (form_of text) text given
turn (value_of name) text given = at_value (form_of text) name text given
turn placed_word text given = then_word (with_word text given)

-- no option waits for its value at the end
abbrev pub at_end : State → Result Given LineFault
at_end (any_word, given) = Ok given
at_end (value_of name, given) = Err NoLine
at_end (placed_word, given) = Ok given

abbrev pub given_from : State → List (List ℕ) → Result Given LineFault
given_from state [] = at_end state
given_from state (text ∷ texts) = turn state.0 text state.1 >>= λ next. given_from next texts

-- what the words behind the program's name give
unfoldable pub given_by : List (List ℕ) → Result Given LineFault
given_by texts = given_from (any_word, []) texts
