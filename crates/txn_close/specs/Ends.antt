-- How a checkpoint ends by a restart page, and what the last one leaves of the log.
use Rattle.std.specs.Prelude.{◌≡◌, ℕ, true, List, [], Option, Some, None, Result, Ok, unwrap_or, IfErr, OnOk}
use Rattle.host_base.specs.declared.outside.Failed.{Failed}
use Rattle.host_base.specs.Answers.{Cause, refused, failed}
use Rattle.disk_model.specs.declared.block.Block.{Block}
use Rattle.disk_model.specs.Sectors.{sector_of}
use Rattle.fixup_record.specs.Protecting.{protected_bytes}
use Rattle.sector_device.specs.Moments.{Changes, MayLeaveNow}
use Rattle.log_page.specs.declared.places.LogPlace.{LogPlace}
use Rattle.log_page.specs.declared.restart.Restart.{Restart}
use Rattle.log_page.specs.LiveLogs.{live_log}
use Rattle.log_page.specs.Restarts.{restart_spelling}
use Rattle.log_reading.specs.Fronts.{chosen_in}
use Rattle.found_stays.specs.log_area.Areas.{LogAreaOf, restart_sector, naming_page, named_area, synced_area}
use Rattle.found_stays.specs.log_area.Calls.{IsSent}
use Rattle.store_model.specs.Geometry.{SectorBytes}
use Rattle.store_model.specs.Volumes.{is_known, IsRecovered}
use Rattle.store_claims.specs.Windows.{StoreWindow}
use Rattle.found_stays.specs.ring_laws.PageBytes.{raw_page}
use Rattle.found_stays.specs.txn_model.Values.{StoreFacts, own_of}
use Rattle.found_stays.specs.txn_model.Calls.{front_lsn}
use Rattle.found_stays.specs.txn_state.States.{facts_of}
use Rattle.found_stays.specs.txn_laws.Windows.{HasWindow}
use Rattle.found_stays.specs.txn_laws.Laws.{SendsNaming, SyncsNow}
use Rattle.found_stays.specs.txn_core.Seen.{Seen}
use Rattle.txn_close.specs.declared.fault.CloseFault.{CloseFault}
use Rattle.txn_close.specs.declared.fault.CloseFault.TheVariants.{Fault, Unmarked}
use Rattle.txn_close.specs.Rests.{IsAtRest, IsUnmarked, stopped_facts}
use Rattle.txn_close.specs.Passing.{IsSpared, GoesToEnd}

-- why a store isn't closed: a failure of the device, or a refusal where no restart page can be made
abbrev pub close_cause : CloseFault → Cause (Unit {0})
close_cause Fault = failed
close_cause Unmarked = refused tt

-- the answer of a write that went well
abbrev pub written_ok : Unit {0} → Result (Unit {0}) Failed
written_ok u = Ok u

-- the restart page that says that the log is closed, and names the noted page, was written, and the device was synced
pub record EndsBy {D : Type 0} (gives : D → Option (List (List ℕ))) (changes : D → Changes) (moment : D → ℕ) (f : StoreFacts) (old new : D) : Type 0 where
  pub mid : D
  pub word : ℕ
  pub sends : SendsNaming gives changes moment f.log (unwrap_or f.noted 0) true word (Ok tt) old mid
  pub syncs : SyncsNow changes moment (Ok tt) mid new

-- The last calls of the device: from a log with these fields, of which each page is sealed, a restart page was written that says that the log is closed and names the
-- place behind all entries; and the device was synced.
pub record EndsClean {D : Type 0} (gives : D → Option (List (List ℕ))) (changes : D → Changes) (moment : D → ℕ) (last : Seen D) : Type 0 where
  pub log : LogAreaOf
  pub before : D
  pub mid : D
  pub word : ℕ
  pub sends : IsSent gives changes moment None (restart_sector log) (protected_bytes (restart_spelling (naming_page log (front_lsn log log.sealed) true))) word (written_ok tt) before mid
  pub syncs : SyncsNow changes moment (Ok tt) mid last.device
  pub after : last.state.log ≡ synced_area (named_area (front_lsn log log.sealed) log)

-- Recovery of the image chooses a restart page that says that the log is closed, and from the place that it names no entry is read.
pub record IsLeftClean (place : LogPlace) (image : SectorBytes) : Type 0 where
  pub restart : Restart
  pub chosen : chosen_in (raw_page place image 0) (raw_page place image 1) ≡ Some restart
  pub clean : restart.clean ≡ true
  pub empty : live_log place.pages (raw_page place image) restart.oldest ≡ record { entries = []; foreign = None }

-- where the store had a window, each image that a crash may leave of the device now is of a clean log
abbrev pub LeavesClean : {D : Type 0} → (D → ℕ) → (D → Changes) → Seen D → D → Type 0
LeavesClean count changes old device =
    (w : StoreWindow) → HasWindow (changes old.device) (facts_of old.state) w → (image : List (List ℕ)) → MayLeaveNow (count device) (changes device) image → IsLeftClean (facts_of old.state).place (sector_of image)

-- The log of a drained store was marked clean, which gave the device back: this was the store just before, which ends.
pub record MarksClean {D : Type 0} (gives : D → Option (List (List ℕ))) (count moment : D → ℕ) (changes : D → Changes) (store : Seen D) (result : Result (Unit {0}) CloseFault) (device : D) : Type 0 where
  pub last : Seen D
  pub gave : last.device ≡ device
  pub rests : OnOk result (IsAtRest (facts_of last.state))
  pub clean : OnOk result (EndsClean gives changes moment last)
  pub leaves : OnOk result (LeavesClean count changes store last.device)
  pub unmarked : IfErr result (λ fault. fault ≡ Unmarked → IsUnmarked (facts_of last.state))
  pub goes : GoesToEnd count moment changes (facts_of store.state) store last

-- The image is of a clean log, and recovery of it, by no entries, leaves each known block that was spared as it is after all commits of this window.
pub record IsLeftWhole (base f : StoreFacts) (w : StoreWindow) (image : SectorBytes) : Type 0 where
  pub clean : IsLeftClean f.place image
  pub newest : (b : Block) → IsSpared base b → is_known (own_of f) b ≡ true → IsRecovered [] image (w.before 0) b

abbrev pub LeavesWhole : {D : Type 0} → (D → ℕ) → (D → Changes) → StoreFacts → Seen D → D → Type 0
LeavesWhole count changes base old device =
    (w : StoreWindow) → HasWindow (changes old.device) (facts_of old.state) w → (image : List (List ℕ)) → MayLeaveNow (count device) (changes device) image → IsLeftWhole base (facts_of old.state) w (sector_of image)

-- A store was closed, which gave the device back: this was the store just before, which ends.
pub record Closes {D : Type 0} (gives : D → Option (List (List ℕ))) (count moment : D → ℕ) (changes : D → Changes) (store : Seen D) (result : Result (Unit {0}) CloseFault) (device : D) : Type 0 where
  pub last : Seen D
  pub gave : last.device ≡ device
  pub rests : OnOk result (IsAtRest (facts_of last.state))
  pub clean : OnOk result (EndsClean gives changes moment last)
  pub leaves : OnOk result (LeavesWhole count changes (stopped_facts (facts_of store.state)) store last.device)
  pub unmarked : IfErr result (λ fault. fault ≡ Unmarked → IsUnmarked (facts_of last.state))
  pub goes : GoesToEnd count moment changes (stopped_facts (facts_of store.state)) store last
