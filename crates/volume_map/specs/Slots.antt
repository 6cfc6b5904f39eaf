-- What a record is, as the code has it.
use Rattle.std.specs.Prelude.{◌≡◌, Result, Ok, Err}
use Rattle.record_model.specs.Records.{Record}
use Rattle.file_record.specs.declared.fault.RecFault.{RecFault}
use Rattle.file_record.specs.declared.fault.RecFault.TheVariants as reads
use Rattle.state_model.specs.Loads.{Slot, Torn, Free, Broken, Used}
use Rattle.volume_map.specs.declared.slot.Slot.{Slot as Held}
use Rattle.volume_map.specs.declared.slot.Slot.TheVariants as pieces

abbrev pub seen : Held → Slot
seen pieces.Torn = Torn
seen pieces.Free = Free
seen (pieces.Broken rule) = Broken rule
seen (pieces.Used file) = Used file

-- what was made of a read
abbrev pub IsRead : Result Record RecFault → Held → Type 0
IsRead (Ok file) slot = slot ≡ pieces.Used file
IsRead (Err (reads.Rule rule)) slot = slot ≡ pieces.Broken rule
IsRead (Err reads.Memory) slot = ⊥
