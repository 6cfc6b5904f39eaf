-- What each call does to a store's window.
use Rattle.std.proofs.Common.{◌≡◌, subst, ℕ, ◌<◌, Bool, true, false, List, Option, Some, None, Result, Ok, Err, refl, sym, ap}
use Rattle.std.specs.Prelude.{IfSome}
use Rattle.host_base.specs.declared.outside.Failed.{Failed}
use Rattle.device_blocks.specs.fixup_record.Protecting.{protected_bytes}
use Rattle.txn_laws.specs.sector_device.Disks.{IsSized, SeesDisk}
use Rattle.txn_laws.specs.sector_device.Moments.{Changes, Syncs}
use Rattle.device_blocks.specs.log_area.Areas.{page_sector, held_page, made_page}
use Rattle.device_blocks.specs.log_area.Calls.{IsAsked, SentOrAsked, IsSentOrNot}
use Rattle.txn_laws.specs.txn_model.Values.{StoreFacts}
use Rattle.txn_laws.specs.log_model.declared.entry.Act.TheVariants.{Commit}
use Rattle.txn_laws.specs.txn_model.Pieces.{next_entry}
use Rattle.txn_laws.specs.txn_model.Appending.{MayAppend}
use Rattle.txn_laws.specs.txn_model.Calls.{begun_facts, committed_facts, given_up_facts, sealed_facts}
use Rattle.txn_laws.specs.Windows.{SimulatesAs, Simulates, AfterBegin, AfterCommit, AfterGiveUp, AfterWrite}
use Rattle.txn_laws.proofs.Telling.{in_memory, by_read, sync_fails}
use Rattle.txn_laws.proofs.Memory.{begins, seals_page, gives_up}
use Rattle.txn_laws.proofs.Commits.{commits_now}
use Rattle.txn_laws.proofs.PageWrites.{page_goes_out, page_goes_badly}
use Rattle.txn_laws.proofs.Syncs.{is_synced}
use Rattle.txn_core.specs.Calls.{page_facts, sync_facts, AfterSync}

-- ---- calls in memory

pub begin_step : (count moment : ℕ) (changes : Changes) (f : StoreFacts) → f.is_open ≡ false → Simulates count moment changes changes f (begun_facts f) AfterBegin
begin_step count moment changes f closed = in_memory count moment changes f _ _ refl refl (λ disk m is h. begins f disk m closed h)

pub commit_step : (count moment : ℕ) (changes : Changes) (f : StoreFacts) → f.is_open ≡ true → MayAppend f.log (next_entry f.log f.tx f.last Commit) → Simulates count moment changes changes f (committed_facts f) AfterCommit
commit_step count moment changes f opened may = in_memory count moment changes f _ _ refl refl (λ disk m is h. commits_now f disk m opened may h)

pub give_up_step : (count moment : ℕ) (changes : Changes) (f : StoreFacts) → f.is_open ≡ true → Simulates count moment changes changes f (given_up_facts f) AfterGiveUp
give_up_step count moment changes f opened = in_memory count moment changes f _ _ refl refl (λ disk m is h. gives_up f disk m opened h)

pub seal_step : (count moment : ℕ) (changes : Changes) (f : StoreFacts) → Simulates count moment changes changes f (sealed_facts f) AfterWrite
seal_step count moment changes f = in_memory count moment changes f _ _ refl refl (λ disk m is h. seals_page f disk m h)

-- ---- pages of the log

abbrev failing : Failed → Result (Unit {0}) Failed
failing fault = Err fault

same_check : (f : StoreFacts) (now : Option ℕ) → now ≡ f.log.check → record f { log = record f.log { check = now } } ≡ f
same_check f now e = ap (λ (o : Option ℕ). record f { log = record f.log { check = o } }) e

pub asked_step : {ends : Bool} {D : Type 0} (gives : D → Option (List (List ℕ))) (changes : D → Changes) (moment : D → ℕ) (count : ℕ) (f : StoreFacts) (old new : D)
    → IsAsked gives changes moment old new → SimulatesAs ends count (moment old) (changes old) (changes new) f f AfterWrite
asked_step gives changes moment count f old new asked = by_read count (moment old) (changes old) (changes new) f AfterWrite (λ w. record { same = refl }) asked.unchanged

page_failed : {D : Type 0} (gives : D → Option (List (List ℕ))) (changes : D → Changes) (moment : D → ℕ) (count : ℕ) (f : StoreFacts) (fault : Failed) (now : Option ℕ) (old new : D)
    → SeesDisk (gives old) (changes old).disk → IfSome (changes new).disk IsSized → f.log.done < f.log.sealed
    → SentOrAsked gives changes moment f.log.check (page_sector f.log f.log.done) (protected_bytes (made_page (held_page f.log f.log.done))) (failing fault) old new now
    → Simulates count (moment old) (changes old) (changes new) f (record f { log = record f.log { check = now } }) AfterWrite
page_failed gives changes moment count f fault (Some word) old new sees sized lt sent = page_goes_badly gives changes moment count f word old new sees sized lt fault sent
page_failed gives changes moment count f fault None old new sees sized lt asked =
    subst (λ (g : StoreFacts). Simulates count (moment old) (changes old) (changes new) f g AfterWrite) (sym (same_check f None (sym asked.0)))
    (asked_step gives changes moment count f old new asked.1)

pub page_step : {D : Type 0} (gives : D → Option (List (List ℕ))) (changes : D → Changes) (moment : D → ℕ) (count : ℕ) (f : StoreFacts) (result : Result (Unit {0}) Failed) (now : Option ℕ) (old new : D)
    → SeesDisk (gives old) (changes old).disk → IfSome (changes new).disk IsSized → f.log.done < f.log.sealed
    → IsSentOrNot gives changes moment f.log.check now (page_sector f.log f.log.done) (protected_bytes (made_page (held_page f.log f.log.done))) result old new
    → Simulates count (moment old) (changes old) (changes new) f (page_facts result now f) AfterWrite
page_step gives changes moment count f (Ok tt) now old new sees sized lt sent = page_goes_out gives changes moment count f sent.sent.0 old new sees sized lt sent.sent.1
page_step gives changes moment count f (Err fault) now old new sees sized lt sent = page_failed gives changes moment count f fault now old new sees sized lt sent.failed

-- ---- syncs

pub sync_step : {ends : Bool} {D : Type 0} (changes : D → Changes) (moment : D → ℕ) (count : ℕ) (f : StoreFacts) (result : Result (Unit {0}) Failed) (old new : D)
    → IfSome (changes new).disk IsSized → Syncs (moment old) result (changes old) (changes new)
    → SimulatesAs ends count (moment old) (changes old) (changes new) f (sync_facts result f) (AfterSync result f)
sync_step changes moment count f (Ok tt) old new sized syncs = is_synced changes moment count f old new sized syncs
sync_step changes moment count f (Err fault) old new sized syncs = sync_fails count (moment old) fault (changes old) (changes new) f syncs
