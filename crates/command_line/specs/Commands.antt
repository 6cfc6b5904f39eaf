-- The command that the words of a command line name.
use Rattle.std.specs.Prelude.{ℕ, ◌&&◌, Bool, false, not, nat_le, if◌then◌else◌, List, [], ◌∷◌, codes, map, Option, Some, None, Result, Ok, Err, String, string_bytes, option_and_then}
use Rattle.std.specs.Global.{Global}
use Rattle.std.specs.Str.{bytes_eq}
use Rattle.host_base.specs.Answers.{◌>>=◌}
use Rattle.host_base.specs.Numbers.{number_of}
use Rattle.command_line.specs.declared.command.Command.{Command}
use Rattle.command_line.specs.declared.command.Command.TheVariants.{Scan, Dump, Check, Journal, Format, Enable, Run, Gen}
use Rattle.command_line.specs.declared.fault.LineFault.{LineFault}
use Rattle.command_line.specs.declared.fault.LineFault.TheVariants.{NoLine}
use Rattle.command_line.specs.Texts.{Texts, texts_of}

-- the command of this name, with what it takes
unfoldable pub command_named : List ℕ → ℕ → ℕ → ℕ → Option Command
command_named name time seed max =
    if bytes_eq name (codes "scan") then Some Scan
    else if bytes_eq name (codes "dump") then Some Dump
    else if bytes_eq name (codes "check") then Some Check
    else if bytes_eq name (codes "journal") then Some Journal
    else if bytes_eq name (codes "format") then Some (Format seed time)
    else if bytes_eq name (codes "enable") then Some (Enable max time)
    else if bytes_eq name (codes "run") then Some (Run time)
    else if bytes_eq name (codes "gen") then Some (Gen seed time)
    else None

-- the size of a journal is a number within its bounds
unfoldable pub size_of : List ℕ → Option ℕ
size_of text = option_and_then (λ max. if nat_le 8192 max && nat_le max 1073741824 then Some max else None) (number_of text)

-- the number in a text, where there is one
abbrev pub number_in : Option (List ℕ) → Option ℕ
number_in text = option_and_then number_of text

-- the image is the word behind the program's name
abbrev pub is_first : List ℕ → List (List ℕ) → Bool
is_first image [] = false
is_first image (program ∷ []) = false
is_first image (program ∷ word ∷ words) = bytes_eq image word

-- all three numbers are judged, whichever of them the command takes
unfoldable pub command_in : Texts → List (List ℕ) → Option Command
command_in texts words =
    option_and_then (λ image. if not (is_first image words) then None
    else option_and_then (λ time. option_and_then (λ seed. option_and_then (λ max.
    option_and_then (λ name. command_named name time seed max) texts.command)
    (option_and_then size_of texts.journal)) (number_in texts.seed)) (number_in texts.time)) texts.image

-- the command of a line, where its texts name one
abbrev pub command_or : Option Command → Result Command LineFault
command_or None = Err NoLine
command_or (Some command) = Ok command

-- the command that the words of a command line name
unfoldable pub line_in : List (List ℕ) → Result Command LineFault
line_in words = texts_of words >>= λ texts. command_or (command_in texts words)

abbrev pub line_of : List (String Global) → Result Command LineFault
line_of words = line_in (map (λ word. string_bytes word) words)
