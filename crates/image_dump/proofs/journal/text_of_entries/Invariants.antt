use Rattle.std.proofs.Common.{◌≡◌, take, string_bytes}
use Rattle.std.specs.List.{flat_map}
use Rattle.image_dump.specs.Texts.{entry_line}
use Rattle.image_dump.proofs.journal.text_of_entries.Given as goal

-- the lines of the records so far
abbrev pub invariant-loop-entry : goal.invariant-loop-entry
invariant-loop-entry l = string_bytes l.text ≡ flat_map entry_line (take l.entry-index l.entries)
