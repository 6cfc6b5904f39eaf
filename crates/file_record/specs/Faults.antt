-- Where an error of the reader comes from.
use Rattle.std.specs.Prelude.{ℕ}
use Rattle.state_model.specs.host_base.Answers.{Cause, refused, no_memory}
use Rattle.file_record.specs.declared.fault.RecFault.{RecFault}
use Rattle.file_record.specs.declared.fault.RecFault.TheVariants.{Rule, Memory}

-- a refusal is the number of the rule that is broken
abbrev pub rec_cause : RecFault → Cause ℕ
rec_cause (Rule rule) = refused rule
rec_cause Memory = no_memory
