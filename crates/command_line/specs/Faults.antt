-- Where an error of the reader of command lines comes from.
use Rattle.host_base.specs.Answers.{Cause, refused, no_memory}
use Rattle.clap.specs.declared.error.kind.ErrorKind.{ErrorKind}
use Rattle.clap.specs.declared.error.kind.ErrorKind.TheVariants.{OutOfMemory}
use Rattle.command_line.specs.declared.fault.LineFault.{LineFault}
use Rattle.command_line.specs.declared.fault.LineFault.TheVariants as line

abbrev pub line_cause : LineFault → Cause LineFault
line_cause line.NoLine = refused line.NoLine
line_cause line.Memory = no_memory

-- what an error of `clap` is to a line
abbrev pub kind_fault : ErrorKind → LineFault
kind_fault OutOfMemory = line.Memory
kind_fault _ = line.NoLine
