-- A disk that is known stays so while a store is mounted there.
use Rattle.std.proofs.Common.{◌≡◌, ℕ, List, [], ◌∷◌, Option, Some, None, Result, Ok, Err, ap, ◌∙◌, inl, inr}
use Rattle.host_base.specs.declared.outside.Failed.{Failed}
use Rattle.sector_device.specs.Disks.{Disk, settled}
use Rattle.sector_device.specs.Moments.{Changes}
use Rattle.sector_device.proofs.Images.{known_after_write, known_after_sync}
use Rattle.log_area.specs.Areas.{LogAreaOf, new_area}
use Rattle.log_area.specs.Calls.{IsAsked, Sends, SentOrAsked}
use Rattle.log_page.specs.declared.places.LogPlace.{LogPlace}
use Rattle.log_recovery.specs.declared.found.RecoveredBlock.{RecoveredBlock}
use Rattle.log_recovery.specs.LogStates.{LogState}
use Rattle.txn_mount.specs.device_blocks.declared.word.CheckWord.{CheckWord}
use Rattle.txn_mount.specs.device_blocks.declared.word.CheckWord.TheVariants.{Unread, Missing, Stands, Sent}
use Rattle.txn_mount.specs.device_blocks.Calls.{PutOrAsked}
use Rattle.txn_mount.specs.Calls.{PutsBack, PutsAll, SyncsDevice, NamesNow, MountsBy}
use Rattle.txn_mount.specs.Laws.{MountsAs}
use Rattle.txn_mount.specs.txn_laws.Laws.{first_lsn}

-- the disk is known then where it was before
abbrev StaysKnown : Changes → Changes → Type 0
StaysKnown old new = (d : Disk) → old.disk ≡ Some d → (e : Disk) × (new.disk ≡ Some e)

module _ {D : Type 0} (gives : D → Option (List (List ℕ))) (changes : D → Changes) (moment : D → ℕ) where
  sent : {T E : Type 0} (begun at : ℕ) (bytes : List ℕ) (result : Result T E) (old new : D) → Sends gives changes moment begun at bytes result old new → StaysKnown (changes old) (changes new)
  sent begun at bytes result old new sends d was = (let next = known_after_write begun at _ result (changes old) (changes new) d sends.writes was in (next.0, next.1))

  asked : (old new : D) → IsAsked gives changes moment old new → StaysKnown (changes old) (changes new)
  asked old new asks d was = (d, ap (λ (c : Changes). c.disk) asks.unchanged ∙ was)

  same : (old new : D) → new ≡ old → StaysKnown (changes old) (changes new)
  same old new is d was = (d, ap (λ (x : D). (changes x).disk) is ∙ was)

  both : (old mid new : D) → StaysKnown (changes old) (changes mid) → StaysKnown (changes mid) (changes new) → StaysKnown (changes old) (changes new)
  both old mid new first then d was = (let next = first d was in then next.0 next.1)

  synced : (result : Result (Unit {0}) Failed) (old new : D) → SyncsDevice changes moment result old new → StaysKnown (changes old) (changes new)
  synced result old new syncs d was = elim (known_after_sync (moment old) result (changes old) (changes new) d syncs.syncs was) [
    | inl still ↦ (d, still)
    | inr dried ↦ (settled d, dried)
  ]

  -- ---- blocks that are put out

  put_or_asked : (now : CheckWord) (r : RecoveredBlock) (e : Failed) (old new : D) → PutOrAsked {T = Unit {0}} gives changes moment Unread r.block r.body.bytes (Err e) old new now → StaysKnown (changes old) (changes new)
  put_or_asked (Sent check) r e old new put = sent _ r.block.first _ (Err e) old new put.sends
  put_or_asked Unread r e old new put = asked old new put.1
  put_or_asked Missing r e old new put = absurd put
  put_or_asked (Stands check) r e old new put = absurd put

  put_back : (r : RecoveredBlock) (result : Result (Unit {0}) Failed) (old new : D) → PutsBack gives changes moment r result old new → StaysKnown (changes old) (changes new)
  put_back r (Ok u) old new puts = sent _ r.block.first _ (Ok u) old new puts.put.ok.1.put.sends
  put_back r (Err e) old new puts = put_or_asked puts.now r e old new puts.put.failed

  put_all : (rs : List RecoveredBlock) (result : Result (Unit {0}) Failed) (old new : D) → PutsAll gives changes moment rs result old new → StaysKnown (changes old) (changes new)
  put_all [] (Ok u) old new is = same old new is
  put_all [] (Err e) old new puts = absurd puts
  put_all (r ∷ rs) (Ok u) old new (mid, put, rest) = both old mid new (put_back r (Ok tt) old mid put) (put_all rs (Ok u) mid new rest)
  put_all (r ∷ rs) (Err e) old new (inl put) = put_back r (Err e) old new put
  put_all (r ∷ rs) (Err e) old new (inr (mid, put, rest)) = both old mid new (put_back r (Ok tt) old mid put) (put_all rs (Err e) mid new rest)

  -- ---- the restart page

  sent_or_asked : (now check : Option ℕ) (at : ℕ) (bytes : ℕ → List ℕ) (e : Failed) (old new : D) → SentOrAsked {T = Unit {0}} gives changes moment check at bytes (Err e) old new now → StaysKnown (changes old) (changes new)
  sent_or_asked (Some word) check at bytes e old new send = sent _ at (bytes word) (Err e) old new send.sends
  sent_or_asked None check at bytes e old new send = asked old new send.1

  named : (a : LogAreaOf) (oldest : ℕ) (result : Result (Unit {0}) Failed) (old new : D) → NamesNow gives changes moment a oldest result old new → StaysKnown (changes old) (changes new)
  named a oldest (Ok u) old new (mid, send, sync) = both old mid new (sent _ _ _ (Ok tt) old mid send.1.sends) (synced (Ok tt) mid new sync)
  named a oldest (Err e) old new (inl send) = sent_or_asked send.0 None _ _ e old new send.1
  named a oldest (Err e) old new (inr (mid, send, sync)) = both old mid new (sent _ _ _ (Ok tt) old mid send.1.sends) (synced (Err e) mid new sync)

  -- ---- all calls

  by : (rs : List RecoveredBlock) (a : LogAreaOf) (oldest : ℕ) (result : Result (Unit {0}) Failed) (old new : D) → MountsBy gives changes moment rs a oldest result old new → StaysKnown (changes old) (changes new)
  by rs a oldest (Ok u) old new (put, puts, (behind, sync, names)) = both old put new (put_all rs (Ok tt) old put puts) (both put behind new (synced (Ok tt) put behind sync) (named a oldest (Ok u) behind new names))
  by rs a oldest (Err e) old new (inl puts) = put_all rs (Err e) old new puts
  by rs a oldest (Err e) old new (inr (put, puts, inl sync)) = both old put new (put_all rs (Ok tt) old put puts) (synced (Err e) put new sync)
  by rs a oldest (Err e) old new (inr (put, puts, inr (behind, sync, names))) =
      both old put new (put_all rs (Ok tt) old put puts) (both put behind new (synced (Ok tt) put behind sync) (named a oldest (Err e) behind new names))

  pub known_behind : (place : LogPlace) (state : LogState) (rs : List RecoveredBlock) (result : Result (Unit {0}) Failed) (old new : D) → MountsAs gives changes moment place state rs result old new → (d : Disk) → (changes old).disk ≡ Some d → (e : Disk) × ((changes new).disk ≡ Some e)
  known_behind place state rs result old new mounts = by rs (new_area place state.next_lap state.restart state.opens) (first_lsn place state.next_lap state.restart state.opens) result old new mounts
