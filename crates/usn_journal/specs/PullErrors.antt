-- The causes of errors.
use Rattle.std.specs.Prelude.{ℕ, ⊤}
use Rattle.host_base.specs.Answers.{Cause, refused, no_memory, failed, never}
use Rattle.block_view.specs.declared.fault.ViewFault.{ViewFault}
use Rattle.block_view.specs.declared.fault.ViewFault.TheVariants as views
use Rattle.journal_model.specs.declared.fault.UsnFault.{UsnFault}
use Rattle.journal_model.specs.declared.fault.UsnFault.TheVariants as entries
use Rattle.usn_journal.specs.declared.pull_fault.PageFault.{PageFault}
use Rattle.usn_journal.specs.declared.pull_fault.PageFault.TheVariants as pages
use Rattle.usn_journal.specs.declared.pull_fault.PullRefusal.{PullRefusal}
use Rattle.usn_journal.specs.declared.pull_fault.PullRefusal.TheVariants.{Trimmed, Ahead, Broken}
use Rattle.usn_journal.specs.declared.pull_fault.PullFault.{PullFault}
use Rattle.usn_journal.specs.declared.pull_fault.PullFault.TheVariants as faults

-- where an error of a pull comes from
abbrev pub pull_cause : PullFault → Cause PullRefusal
pull_cause (faults.Refused refusal) = refused refusal
pull_cause faults.View = failed
pull_cause faults.Memory = no_memory

-- of a page a record at fault is refused by its offset
abbrev pub page_cause : PageFault → Cause ℕ
page_cause (pages.Broken at) = refused at
page_cause pages.View = failed
page_cause pages.Memory = no_memory

-- a record at fault is never met in a journal whose records are whole
abbrev pub whole_cause : PageFault → Cause PageFault
whole_cause (pages.Broken at) = never
whole_cause pages.View = failed
whole_cause pages.Memory = no_memory

-- an error other than those of a position outside the journal
abbrev pub IsInside : PullFault → Type 0
IsInside (faults.Refused (Trimmed first)) = ⊥
IsInside (faults.Refused (Ahead next)) = ⊥
IsInside (faults.Refused (Broken at)) = ⊤
IsInside faults.View = ⊤
IsInside faults.Memory = ⊤

-- what a view's fault becomes for a page
abbrev pub page_fault_of_view : ViewFault → PageFault
page_fault_of_view views.Fault = pages.View
page_fault_of_view views.Memory = pages.Memory

-- and that of a record: its offset
abbrev pub of_record : UsnFault → PageFault
of_record (entries.Cut at) = pages.Broken at
of_record (entries.Shape at) = pages.Broken at
of_record entries.Memory = pages.Memory

-- what a page's fault becomes for a pull
abbrev pub pull_fault_of_page : PageFault → PullFault
pull_fault_of_page (pages.Broken at) = faults.Refused (Broken at)
pull_fault_of_page pages.View = faults.View
pull_fault_of_page pages.Memory = faults.Memory
