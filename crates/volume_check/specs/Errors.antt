-- The causes of a check's errors.
use Rattle.std.specs.Prelude.{⊤, Result, Ok, Err}
use Rattle.host_base.specs.Answers.{Cause, refused, no_memory, failed}
use Rattle.block_view.specs.declared.fault.ViewFault.{ViewFault}
use Rattle.block_view.specs.declared.fault.ViewFault.TheVariants as views
use Rattle.volume_tree.specs.state_model.declared.broken.Broken.{Broken}
use Rattle.directory_index.specs.declared.fault.IndexFault.{IndexFault}
use Rattle.directory_index.specs.declared.fault.IndexFault.TheVariants as indexes
use Rattle.stream_rules.specs.declared.fault.SizesFault.{SizesFault}
use Rattle.stream_rules.specs.declared.fault.SizesFault.TheVariants as sizes
use Rattle.usn_journal.specs.declared.journal_fault.JournalFault.{JournalFault}
use Rattle.usn_journal.specs.declared.journal_fault.JournalFault.TheVariants as journals
use Rattle.volume_check.specs.declared.fault.CheckFault.{CheckFault}
use Rattle.volume_check.specs.declared.fault.CheckFault.TheVariants as faults

-- a check is refused by the rule that is broken
abbrev pub check_cause : CheckFault → Cause Broken
check_cause (faults.Broken broken) = refused broken
check_cause faults.View = failed
check_cause faults.Memory = no_memory

-- it answers no broken rule
abbrev pub NeverBroken : {X : Type 0} → Result X CheckFault → Type 0
NeverBroken (Ok x) = ⊤
NeverBroken (Err (faults.Broken broken)) = ⊥
NeverBroken (Err faults.View) = ⊤
NeverBroken (Err faults.Memory) = ⊤

-- what the faults of the parts become
abbrev pub of_view : ViewFault → CheckFault
of_view views.Fault = faults.View
of_view views.Memory = faults.Memory

abbrev pub of_index : IndexFault → CheckFault
of_index indexes.View = faults.View
of_index indexes.Memory = faults.Memory

abbrev pub of_sizes : SizesFault → CheckFault
of_sizes sizes.View = faults.View
of_sizes sizes.Memory = faults.Memory

-- a journal at fault breaks the ninth rule, at its offset
abbrev pub of_journal : JournalFault → CheckFault
of_journal (journals.Broken at) = faults.Broken (record { rule = 9; number = at })
of_journal journals.View = faults.View
of_journal journals.Memory = faults.Memory
