-- The steps of a store by name: when each may be taken, and what it makes of what the store keeps, of its device and of its window.
use Rattle.std.specs.Prelude.{◌≡◌, ℕ, ◌<◌, true, false, List, Option, None, Result, Ok, is_ok}
use Rattle.host_base.specs.declared.outside.Failed.{Failed}
use Rattle.device_blocks.specs.disk_model.declared.block.Block.{Block}
use Rattle.device_blocks.specs.disk_model.Sectors.{are_rivals}
use Rattle.device_blocks.specs.fixup_record.Protecting.{protected_bytes}
use Rattle.txn_laws.specs.sector_device.Moments.{moment_after, Changes, Syncs}
use Rattle.device_blocks.specs.log_area.Areas.{is_filling, page_sector, held_page, made_page}
use Rattle.device_blocks.specs.log_area.Calls.{IsSentOrNot}
use Rattle.txn_laws.specs.store_claims.Windows.{StoreWindow}
use Rattle.txn_laws.specs.flush_policy.declared.facts.StoreStep.{StoreStep}
use Rattle.txn_laws.specs.flush_policy.declared.facts.StoreStep.TheVariants.{SealPage, WritePage, SyncDevice, WriteOut, BeginCheckpoint, WriteRestart}
use Rattle.txn_laws.specs.txn_model.Values.{StoreFacts}
use Rattle.txn_laws.specs.txn_model.Calls.{sealed_facts, noted_facts, is_ready}
use Rattle.txn_laws.specs.Windows.{AfterWrite, MovesTo}
use Rattle.device_blocks.specs.declared.word.CheckWord.{CheckWord}
use Rattle.txn_core.specs.Calls.{page_facts, sync_facts, AfterSync, is_spelled, out_facts, IsOut}
use Rattle.txn_core.specs.Turns.{MayRestart, restart_facts, SendsRestartPage}

-- The step may be taken. A checkpoint begins where no transaction is open and none has begun.
abbrev pub MayTurn : StoreFacts → StoreStep → Type 0
MayTurn f SealPage = is_filling f.log ≡ true
MayTurn f WritePage = f.log.done < f.log.sealed
MayTurn f SyncDevice = Unit {0}
MayTurn f (WriteOut b) = is_ready f b ≡ true
MayTurn f BeginCheckpoint = (f.is_open ≡ false) × (f.noted ≡ None)
MayTurn f WriteRestart = MayRestart f

-- what it makes of what the store keeps
abbrev pub HasTurned : StoreStep → Result (Unit {0}) Failed → (f g : StoreFacts) → Type 0
HasTurned SealPage result f g = (result ≡ Ok tt) × (g ≡ sealed_facts f)
HasTurned WritePage result f g = g ≡ page_facts result g.log.check f
HasTurned SyncDevice result f g = g ≡ sync_facts result f
HasTurned (WriteOut b) result f g = (now : CheckWord) × (g ≡ out_facts (is_spelled f b) (is_ok result) now b f)
HasTurned BeginCheckpoint result f g = (result ≡ Ok tt) × (g ≡ noted_facts f)
HasTurned WriteRestart result f g = g ≡ restart_facts result g.log.sent f

-- what it did on the device
abbrev pub TurnsDevice : {D : Type 0} → (D → Option (List (List ℕ))) → (D → Changes) → (D → ℕ) → StoreStep → Result (Unit {0}) Failed → (f g : StoreFacts) → (words left : List (Block × CheckWord)) → D → D → Type 0
TurnsDevice gives changes moment SealPage result f g words left old new = new ≡ old
TurnsDevice gives changes moment WritePage result f g words left old new =
    IsSentOrNot gives changes moment f.log.check g.log.check (page_sector f.log f.log.done) (protected_bytes (made_page (held_page f.log f.log.done))) result old new
TurnsDevice gives changes moment SyncDevice result f g words left old new = (gives new ≡ gives old) × Syncs (moment old) result (changes old) (changes new) × (moment new ≡ moment_after (moment old))
TurnsDevice gives changes moment (WriteOut b) result f g words left old new = IsOut gives changes moment f g b words left result old new
TurnsDevice gives changes moment BeginCheckpoint result f g words left old new = new ≡ old
TurnsDevice gives changes moment WriteRestart result f g words left old new = SendsRestartPage gives changes moment false f g result old new

-- and of its window
abbrev pub AfterTurn : StoreStep → Result (Unit {0}) Failed → StoreFacts → StoreWindow → StoreWindow → Type 0
AfterTurn SealPage result f = AfterWrite
AfterTurn WritePage result f = AfterWrite
AfterTurn SyncDevice result f = AfterSync result f
AfterTurn (WriteOut b) result f = MovesTo (are_rivals b)
AfterTurn BeginCheckpoint result f = AfterWrite
AfterTurn WriteRestart result f = AfterWrite
