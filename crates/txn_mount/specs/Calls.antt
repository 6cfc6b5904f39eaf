-- What a mount does on a device, call by call.
use Rattle.std.specs.Prelude.{◌≡◌, ◌⊎◌, ℕ, List, [], ◌∷◌, Option, None, Result, Ok, Err, false}
use Rattle.host_base.specs.declared.outside.Failed.{Failed}
use Rattle.sector_device.specs.Moments.{moment_after, Changes}
use Rattle.fixup_record.specs.Protecting.{protected_bytes}
use Rattle.txn_core.specs.log_page.Restarts.{restart_spelling}
use Rattle.txn_core.specs.log_area.Areas.{LogAreaOf, restart_sector, page_to_send}
use Rattle.txn_core.specs.log_area.Calls.{SentOrAsked}
use Rattle.log_recovery.specs.declared.found.RecoveredBlock.{RecoveredBlock}
use Rattle.txn_core.specs.area_laws.Laws.{SendsRestart}
use Rattle.txn_core.specs.txn_laws.Laws.{SyncsNow}
use Rattle.txn_core.specs.device_blocks.declared.word.CheckWord.{CheckWord}
use Rattle.txn_core.specs.device_blocks.declared.word.CheckWord.TheVariants.{Unread}
use Rattle.txn_core.specs.device_blocks.Words.{IsFitWord}
use Rattle.txn_core.specs.device_blocks.Calls.{IsPutOrNot}

-- a block is read, and its body written under the check word behind the one that stands there
pub record PutsBack {D : Type 0} (gives : D → Option (List (List ℕ))) (changes : D → Changes) (moment : D → ℕ) (r : RecoveredBlock) (result : Result (Unit {0}) Failed) (old new : D) : Type 0 where
  pub now : CheckWord
  pub fit : IsFitWord now
  pub put : IsPutOrNot gives changes moment Unread now r.block r.body.bytes result old new

-- these blocks one behind the other, up to the first that fails
abbrev pub PutsAll : {D : Type 0} → (D → Option (List (List ℕ))) → (D → Changes) → (D → ℕ) → List RecoveredBlock → Result (Unit {0}) Failed → D → D → Type 0
PutsAll gives changes moment [] (Ok u) old new = new ≡ old
PutsAll gives changes moment [] (Err e) old new = ⊥
PutsAll {D} gives changes moment (r ∷ rs) (Ok u) old new = (mid : D) × PutsBack gives changes moment r (Ok tt) old mid × PutsAll gives changes moment rs (Ok u) mid new
PutsAll {D} gives changes moment (r ∷ rs) (Err e) old new = PutsBack gives changes moment r (Err e) old new ⊎ ((mid : D) × PutsBack gives changes moment r (Ok tt) old mid × PutsAll gives changes moment rs (Err e) mid new)

-- the device is synced in one call
pub record SyncsDevice {D : Type 0} (changes : D → Changes) (moment : D → ℕ) (result : Result (Unit {0}) Failed) (old new : D) : Type 0 where
  pub syncs : SyncsNow changes moment result old new
  pub later : moment new ≡ moment_after (moment old)

-- the restart page that names this place is sent, and the device is synced; or the first of both fails, where the page's place may have been read alone
abbrev pub NamesNow : {D : Type 0} → (D → Option (List (List ℕ))) → (D → Changes) → (D → ℕ) → LogAreaOf → ℕ → Result (Unit {0}) Failed → D → D → Type 0
NamesNow {D} gives changes moment a oldest (Ok u) old new = (mid : D) × ((word : ℕ) × SendsRestart gives changes moment a oldest false word (Ok tt) old mid) × SyncsDevice changes moment (Ok tt) mid new
NamesNow {D} gives changes moment a oldest (Err e) old new =
    ((now : Option ℕ) × SentOrAsked {T = Unit {0}} gives changes moment None (restart_sector a) (protected_bytes (restart_spelling (page_to_send a oldest false))) (Err e) old new now)
    ⊎ ((mid : D) × ((word : ℕ) × SendsRestart gives changes moment a oldest false word (Ok tt) old mid) × SyncsDevice changes moment (Err e) mid new)

-- All that a mount writes: the blocks that are put out, in this order; a sync; the restart page, which names this place; a sync. The first call that fails is the last one.
abbrev pub MountsBy : {D : Type 0} → (D → Option (List (List ℕ))) → (D → Changes) → (D → ℕ) → List RecoveredBlock → LogAreaOf → ℕ → Result (Unit {0}) Failed → D → D → Type 0
MountsBy {D} gives changes moment rs a oldest (Ok u) old new =
    (put : D) × PutsAll gives changes moment rs (Ok tt) old put × ((synced : D) × SyncsDevice changes moment (Ok tt) put synced × NamesNow gives changes moment a oldest (Ok u) synced new)
MountsBy {D} gives changes moment rs a oldest (Err e) old new =
    PutsAll gives changes moment rs (Err e) old new
    ⊎ ((put : D) × PutsAll gives changes moment rs (Ok tt) old put × (SyncsDevice changes moment (Err e) put new ⊎ ((synced : D) × SyncsDevice changes moment (Ok tt) put synced × NamesNow gives changes moment a oldest (Err e) synced new)))
