-- A script that is read from a source.
use Rattle.std.specs.Prelude.{⊤, ℕ, ◌≤◌, ◌<◌, List, [], ◌∷◌, ◌++◌, length, codes, Option, IfSome, Result, Ok, Err, IsOk}
use Rattle.std.specs.Fmt.{decimal}
use Rattle.std.specs.Io.KnownBytes.{Consumes, IsAtEnd}
use Rattle.host_base.specs.Answers.{Cause, refused, no_memory, failed}
use Rattle.script_text.specs.declared.fault.ScriptFault.{ScriptFault}
use Rattle.script_text.specs.declared.fault.ScriptFault.TheVariants as script
use Rattle.script_text.specs.Scripts.{script_of}
use Rattle.ntfs_host.specs.declared.reading.SourceError.{SourceError}
use Rattle.ntfs_host.specs.declared.reading.SourceError.TheVariants as sources
use Rattle.ntfs_host.specs.declared.scripts.ScriptError.{ScriptError}
use Rattle.ntfs_host.specs.declared.scripts.ScriptError.TheVariants as errors

-- why a source's bytes can't be had
abbrev pub source_cause : SourceError → Cause (Unit {0})
source_cause sources.Memory = no_memory
source_cause sources.Source = failed

-- where an error comes from
abbrev pub script_error_cause : ScriptError → Cause ScriptFault
script_error_cause errors.Memory = no_memory
script_error_cause errors.Source = failed
script_error_cause (errors.Refused fault) = refused fault

-- at most so many bytes of a source were read, from the front of what it had left
pub record LosesAtMost (most : ℕ) (left left_now : Option (List ℕ)) : Type 0 where
  pub front : List ℕ
  pub few : length front ≤ most
  pub lost : Consumes left left_now front

-- A source was read to its end, or up to the first byte that is too many for a script.
pub record IsReadWhole (left left_now : Option (List ℕ)) : Type 0 where
  pub front : List ℕ
  pub lost : Consumes left left_now front
  pub whole : length front < 16777217 → IsAtEnd left_now

-- a script is read or refused only where its source was read whole
abbrev pub ReadsWhole : {A : Type 0} → Result A ScriptError → Option (List ℕ) → Option (List ℕ) → Type 0
ReadsWhole (Ok script) left left_now = IsReadWhole left left_now
ReadsWhole (Err (errors.Refused fault)) left left_now = IsReadWhole left left_now
ReadsWhole (Err errors.Memory) left left_now = ⊤
ReadsWhole (Err errors.Source) left left_now = ⊤

-- What a source had left is a script, and the source was read to its end.
pub record IsAccepted (left left_now : Option (List ℕ)) : Type 0 where
  pub script : IfSome left (λ bytes. IsOk (script_of bytes))
  pub whole : IsAtEnd left_now

-- the line that says what refuses a script
unfoldable pub script_line : ScriptFault → List ℕ
script_line script.TooLarge = codes "script bytes\n"
script_line (script.Line number rule) = codes "script line " ++ (decimal number ++ (codes " rule " ++ (decimal rule ++ 10 ∷ [])))
script_line (script.TooManyClients client) = codes "script clients " ++ decimal client ++ 10 ∷ []
script_line script.TooManyCommands = codes "script commands\n"
script_line script.Memory = []
