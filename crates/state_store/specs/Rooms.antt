-- The room that changes need in the log.
use Rattle.std.specs.Prelude.{ℕ, ◌^◌, ◌<◌, nat_le, List, Result}
use Rattle.host_base.specs.Answers.{Cause, refused, no_memory, failed, needs}
use Rattle.disk_model.specs.declared.block.Change.{Change}
use Rattle.turn_laws.specs.log_page.Places.{sequence_bits}
use Rattle.turn_laws.specs.log_area.Areas.{free_pages}
use Rattle.turn_laws.specs.txn_model.Values.{StoreFacts}
use Rattle.turn_laws.specs.txn_log.Counts.{capped, pages_needed}
use Rattle.turn_laws.specs.txn_laws.Windows.{lap_behind}
use Rattle.state_store.specs.declared.fault.PutFault.{PutFault}
use Rattle.state_store.specs.declared.fault.PutFault.TheVariants.{NeedsRoom, Fault, Memory, Broken}

-- the pages that the changes and a commit behind them begin
abbrev pub pages_of_changes : StoreFacts → List Change → ℕ
pages_of_changes f changes = pages_needed f.log.free (λ b. (f.mark b).imaged) changes

-- so many pages were counted, by a count that stays at its type's end, and so many are free
pub record Shortage : Type 0 where
  pub pages : ℕ
  pub room : ℕ

-- there is room for so many; else this is how short it is
abbrev pub room_for : ℕ → ℕ → Result (Unit {0}) Shortage
room_for pages room = needs (nat_le pages room) (record { pages = capped pages; room = room })

-- that of the store for the changes
abbrev pub room_in : StoreFacts → List Change → Result (Unit {0}) Shortage
room_in f changes = room_for (pages_of_changes f changes) (free_pages f.log)

-- why changes are put nowhere: where only want of room counts as a refusal
abbrev pub room_cause : PutFault → Cause Shortage
room_cause (NeedsRoom pages room) = refused (record { pages = pages; room = room })
room_cause Fault = failed
room_cause Memory = no_memory
room_cause Broken = failed

-- the next transaction has a number, and its entries have laps
pub record MayNumber (f : StoreFacts) : Type 0 where
  pub number : f.tx < 2 ^ 32
  pub laps : lap_behind f < 2 ^ sequence_bits f.log.pages
