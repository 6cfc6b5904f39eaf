-- The causes of errors.
use Rattle.std.specs.Prelude.{ℕ}
use Rattle.host_base.specs.Answers.{Cause, refused, no_memory, failed}
use Rattle.block_view.specs.declared.fault.ViewFault.{ViewFault}
use Rattle.block_view.specs.declared.fault.ViewFault.TheVariants as views
use Rattle.journal_model.specs.declared.fault.UsnFault.{UsnFault}
use Rattle.journal_model.specs.declared.fault.UsnFault.TheVariants as entries
use Rattle.usn_journal.specs.declared.journal_fault.JournalFault.{JournalFault}
use Rattle.usn_journal.specs.declared.journal_fault.JournalFault.TheVariants as faults

-- a journal is refused by an offset
abbrev pub journal_cause : JournalFault → Cause ℕ
journal_cause (faults.Broken at) = refused at
journal_cause faults.View = failed
journal_cause faults.Memory = no_memory

-- what a view's fault becomes
abbrev pub of_view : ViewFault → JournalFault
of_view views.Fault = faults.View
of_view views.Memory = faults.Memory

-- what the fault of a page becomes: its offset
abbrev pub of_page : UsnFault → JournalFault
of_page (entries.Cut at) = faults.Broken at
of_page (entries.Shape at) = faults.Broken at
of_page entries.Memory = faults.Memory
