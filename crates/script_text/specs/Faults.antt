-- Where an error of a script's reader comes from.
use Rattle.std.specs.Prelude.{ℕ}
use Rattle.host_base.specs.Answers.{Cause, refused, no_memory}
use Rattle.script_text.specs.declared.fault.ScriptFault.{ScriptFault}
use Rattle.script_text.specs.declared.fault.ScriptFault.TheVariants as script
use Rattle.script_text.specs.declared.fault.LineFault.{LineFault}
use Rattle.script_text.specs.declared.fault.LineFault.TheVariants as line

-- of a line's words: the rule that they break
abbrev pub line_cause : LineFault → Cause ℕ
line_cause (line.Rule rule) = refused rule
line_cause line.Memory = no_memory

-- of a script
abbrev pub script_cause : ScriptFault → Cause ScriptFault
script_cause script.TooLarge = refused script.TooLarge
script_cause (script.Line number rule) = refused (script.Line number rule)
script_cause (script.TooManyClients client) = refused (script.TooManyClients client)
script_cause script.TooManyCommands = refused script.TooManyCommands
script_cause script.Memory = no_memory
