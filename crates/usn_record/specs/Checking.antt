-- Records and pages that are judged, and not kept.
use Rattle.std.specs.Prelude.{ℕ, List, [], ◌∷◌, Option, Some, None, Result, Ok}
use Rattle.host_base.specs.Answers.{◌>>=◌}
use Rattle.file_tree.specs.declared.journal.Usn.{Usn}
use Rattle.journal_model.specs.declared.fault.UsnFault.{UsnFault}
use Rattle.journal_model.specs.UsnRecords.{usn_in}
use Rattle.journal_model.specs.Pages.{page_records}

-- the length of the record at the front of these bytes, or what refuses it
unfoldable pub length_in : List ℕ → ℕ → Result ℕ UsnFault
length_in bytes at = usn_in bytes at >>= λ found. Ok found.1

-- whether a page is read, or its first fault
unfoldable pub page_check : List ℕ → ℕ → Result (Unit {0}) UsnFault
page_check page at = page_records page at >>= λ entries. Ok tt

-- the list of an entry that there may be
abbrev pub listed : Option Usn → List Usn
listed None = []
listed (Some entry) = entry ∷ []
