-- What a mount writes touches no sector of the blocks by which the log is found.
use Rattle.std.proofs.Common.{◌≡◌, subst, ℕ, ◌*◌, true, false, List, [], ◌∷◌, length, Option, Some, None, Result, Ok, Err, sym, ap, ◌∙◌, inl, inr}
use Rattle.std.specs.Prelude.{IfSome}
use Rattle.std.specs.List.{AllByRecursion}
use Rattle.host_base.specs.declared.outside.Failed.{Failed}
use Rattle.disk_model.specs.declared.block.Block.{Block}
use Rattle.disk_model.specs.Content.{content_of}
use Rattle.disk_model.specs.Sectors.{sectors}
use Rattle.fixup_record.specs.Protecting.{protected_bytes}
use Rattle.fixup_record.proofs.Protected.{length-protected}
use Rattle.sector_device.specs.Disks.{Disk, seen}
use Rattle.sector_device.specs.Moments.{Changes}
use Rattle.log_page.specs.declared.places.LogPlace.{LogPlace}
use Rattle.log_page.specs.Restarts.{restart_spelling}
use Rattle.log_page.proofs.Spelled.{length-restart_spelling}
use Rattle.log_area.specs.Areas.{LogAreaOf, new_area, restart_sector, page_to_send}
use Rattle.txn_mount.specs.log_recovery.declared.found.RecoveredBlock.{RecoveredBlock}
use Rattle.txn_mount.specs.log_recovery.LogStates.{LogState}
use Rattle.store_model.specs.Geometry.{SectorBytes}
use Rattle.store_model.specs.Volumes.{is_known}
use Rattle.txn_mount.specs.txn_model.Values.{is_own}
use Rattle.txn_mount.proofs.txn_laws.Telling.{known_before_write, known_before_sync}
use Rattle.txn_mount.specs.area_laws.Laws.{SendsRestart}
use Rattle.txn_mount.specs.txn_laws.Laws.{first_lsn}
use Rattle.txn_mount.specs.device_blocks.declared.word.CheckWord.TheVariants.{Unread}
use Rattle.txn_mount.specs.Calls.{PutsBack, PutsAll, SyncsDevice, NamesNow, MountsBy}
use Rattle.txn_mount.specs.Contents.{ReadsLog, ReadsWell}
use Rattle.txn_mount.specs.Images.{AreItems}
use Rattle.txn_mount.specs.Laws.{MayMount, MountsAs}
use Rattle.txn_mount.proofs.Beginning.{restart_inside}
use Rattle.txn_mount.proofs.Blocks.{out_known}
use Rattle.txn_mount.proofs.Naming.{first_placed}
use Rattle.txn_mount.proofs.Reading.{read_log, reads_well}
use Rattle.found_stays.specs.Found.{AreOffLog, StaysOver}
use Rattle.found_stays.proofs.Bearing.{none_stays, both_stay}
use Rattle.found_stays.proofs.Writing.{Misses, sync_stays, sent_stays, asked_stays, put_stays}
use Rattle.found_stays.proofs.Turning.{known_misses, page_misses}

-- a body that is put out is as long as its block, which a store may change
abbrev IsFit : LogPlace → List Block → RecoveredBlock → Type 0
IsFit place kept x = (length x.body.bytes ≡ 512 * sectors x.block.kind) × (is_known (is_own place kept) x.block ≡ true)

module _ (place : LogPlace) (kept : List Block) (state : LogState) (items : List RecoveredBlock) (d : Disk) (may : MayMount place kept state items d) where
  log_read : ReadsLog (content_of (seen d)) place kept state
  log_read = read_log (content_of (seen d)) place kept state may.read

  well_read : ReadsWell state.log
  well_read = reads_well (content_of (seen d)) place kept state may.read

  fit_by : (xs : List RecoveredBlock) → AreItems (content_of (seen d)) state.log xs → AllByRecursion (IsFit place kept) xs
  fit_by [] are = tt
  fit_by (x ∷ xs) are = ((are.0.sized, out_known place may.ring kept (content_of (seen d)) state log_read well_read x.block are.0.out), fit_by xs are.1)

  all_fit : AllByRecursion (IsFit place kept) items
  all_fit = fit_by items may.own

  restart_misses : AreOffLog place kept → Misses kept (restart_sector (new_area place state.next_lap state.restart state.opens)) 8
  restart_misses off =
      let inside = restart_inside place may.ring kept d state log_read well_read in
      page_misses place kept state.restart (restart_sector (new_area place state.next_lap state.restart state.opens)) (first_placed place state.restart inside) inside off

module _ {D : Type 0} (gives : D → Option (List (List ℕ))) (changes : D → Changes) (moment : D → ℕ) (count : ℕ) (first : SectorBytes) (place : LogPlace) (kept : List Block) (base : D) where
  -- its disk is known only where that of the first device was
  abbrev IsBehind : D → Type 0
  IsBehind mid = (e : Disk) → (changes mid).disk ≡ Some e → (d : Disk) × ((changes base).disk ≡ Some d)

  -- this holds where that disk is known
  abbrev WhereKnown : Type 0 → Type 0
  WhereKnown P = (d : Disk) → (changes base).disk ≡ Some d → P

  abbrev Stays : D → D → Type 0
  Stays old new = StaysOver count kept first (changes old) (changes new)

  -- ---- blocks that are put out

  one_put : (x : RecoveredBlock) (result : Result (Unit {0}) Failed) (old new : D) → IsBehind old → WhereKnown (IsFit place kept x) → PutsBack gives changes moment x result old new → Stays old new
  one_put x result old new behind fits puts =
      put_stays gives changes moment count kept first Unread puts.now x.block x.body.bytes result old new puts.put
      (λ e was. let known = behind e was in let fit = fits known.0 known.1 in (fit.0, known_misses place kept x.block fit.1))

  behind_put : (x : RecoveredBlock) (old new : D) → IsBehind old → PutsBack gives changes moment x (Ok tt) old new → IsBehind new
  behind_put x old new behind puts e is = (let before = known_before_write _ _ _ _ (changes old) (changes new) puts.put.ok.1.put.sends.writes e is in behind before.0 before.1)

  behind_puts : (xs : List RecoveredBlock) (u : Unit {0}) (old new : D) → IsBehind old → PutsAll gives changes moment xs (Ok u) old new → IsBehind new
  behind_puts [] u old new behind same = subst IsBehind (sym same) behind
  behind_puts (x ∷ xs) u old new behind puts = behind_puts xs u puts.0 new (behind_put x old puts.0 behind puts.1) puts.2

  all_put : (xs : List RecoveredBlock) (result : Result (Unit {0}) Failed) (old new : D) → IsBehind old → WhereKnown (AllByRecursion (IsFit place kept) xs) → PutsAll gives changes moment xs result old new → Stays old new
  all_put [] (Ok u) old new behind fits same = none_stays count kept first (changes old) (changes new) (ap changes same)
  all_put [] (Err e) old new behind fits puts = absurd puts
  all_put (x ∷ xs) (Ok u) old new behind fits puts =
      both_stay count kept first (changes old) (changes puts.0) (changes new) (one_put x (Ok tt) old puts.0 behind (λ d is. (fits d is).0) puts.1)
      (all_put xs (Ok u) puts.0 new (behind_put x old puts.0 behind puts.1) (λ d is. (fits d is).1) puts.2)
  all_put (x ∷ xs) (Err e) old new behind fits (inl puts) = one_put x (Err e) old new behind (λ d is. (fits d is).0) puts
  all_put (x ∷ xs) (Err e) old new behind fits (inr puts) =
      both_stay count kept first (changes old) (changes puts.0) (changes new) (one_put x (Ok tt) old puts.0 behind (λ d is. (fits d is).0) puts.1)
      (all_put xs (Err e) puts.0 new (behind_put x old puts.0 behind puts.1) (λ d is. (fits d is).1) puts.2)

  -- ---- the restart page

  device_synced : (result : Result (Unit {0}) Failed) (old new : D) → SyncsDevice changes moment result old new → Stays old new
  device_synced result old new syncs = sync_stays count (moment old) result kept first (changes old) (changes new) syncs.syncs

  behind_sync : (result : Result (Unit {0}) Failed) (old new : D) → IsBehind old → SyncsDevice changes moment result old new → IsBehind new
  behind_sync result old new behind syncs e is = (let before = known_before_sync _ _ (changes old) (changes new) syncs.syncs e is in behind before.0 before.1)

  module _ (a : LogAreaOf) (oldest : ℕ) (misses : WhereKnown (Misses kept (restart_sector a) 8)) where
    abbrev bytes : ℕ → List ℕ
    bytes = protected_bytes (restart_spelling (page_to_send a oldest false))

    page_fits : (old : D) → IsBehind old → (d : Disk) → (changes old).disk ≡ Some d → ((word : ℕ) → length (bytes word) ≡ 4096) × Misses kept (restart_sector a) 8
    page_fits old behind d was =
        let known = behind d was in (
          λ word. length-protected (restart_spelling (page_to_send a oldest false)) word ∙ length-restart_spelling (page_to_send a oldest false),
          misses known.0 known.1,
        )

    restart_sent : (word : ℕ) (old new : D) → IsBehind old → SendsRestart gives changes moment a oldest false word (Ok tt) old new → Stays old new
    restart_sent word old new behind sends = sent_stays gives changes moment count kept first _ (restart_sector a) bytes word (Ok tt) old new sends (page_fits old behind)

    named_now : (result : Result (Unit {0}) Failed) (old new : D) → IsBehind old → NamesNow gives changes moment a oldest result old new → Stays old new
    named_now (Ok u) old new behind names =
        both_stay count kept first (changes old) (changes names.0) (changes new) (restart_sent names.1.0 old names.0 behind names.1.1) (device_synced (Ok tt) names.0 new names.2)
    named_now (Err e) old new behind (inl sent) = asked_stays gives changes moment count kept first None (restart_sector a) bytes (Err e) old new sent.0 sent.1 (page_fits old behind)
    named_now (Err e) old new behind (inr names) =
        both_stay count kept first (changes old) (changes names.0) (changes new) (restart_sent names.1.0 old names.0 behind names.1.1) (device_synced (Err e) names.0 new names.2)

    -- ---- all calls

    module _ (items : List RecoveredBlock) (fits : WhereKnown (AllByRecursion (IsFit place kept) items)) where
      at_first : IsBehind base
      at_first e is = (e, is)

      synced_behind : (put synced : D) → PutsAll gives changes moment items (Ok tt) base put → SyncsDevice changes moment (Ok tt) put synced → IsBehind synced
      synced_behind put synced puts syncs = behind_sync (Ok tt) put synced (behind_puts items tt base put at_first puts) syncs

      synced_stays : (put synced : D) → PutsAll gives changes moment items (Ok tt) base put → SyncsDevice changes moment (Ok tt) put synced → Stays base synced
      synced_stays put synced puts syncs = both_stay count kept first (changes base) (changes put) (changes synced) (all_put items (Ok tt) base put at_first fits puts) (device_synced (Ok tt) put synced syncs)

      pub mounted_by : (result : Result (Unit {0}) Failed) (new : D) → MountsBy gives changes moment items a oldest result base new → Stays base new
      mounted_by (Ok u) new mounts =
          both_stay count kept first (changes base) (changes mounts.2.0) (changes new) (synced_stays mounts.0 mounts.2.0 mounts.1 mounts.2.1)
          (named_now (Ok u) mounts.2.0 new (synced_behind mounts.0 mounts.2.0 mounts.1 mounts.2.1) mounts.2.2)
      mounted_by (Err e) new (inl puts) = all_put items (Err e) base new at_first fits puts
      mounted_by (Err e) new (inr mounts) = elim mounts.2 [
        | inl syncs ↦ both_stay count kept first (changes base) (changes mounts.0) (changes new) (all_put items (Ok tt) base mounts.0 at_first fits mounts.1) (device_synced (Err e) mounts.0 new syncs)
        | inr names ↦
            both_stay count kept first (changes base) (changes names.0) (changes new) (synced_stays mounts.0 names.0 mounts.1 names.1)
            (named_now (Err e) names.0 new (synced_behind mounts.0 names.0 mounts.1 names.1) names.2)
      ]

pub mount_stays : {D : Type 0} (gives : D → Option (List (List ℕ))) (changes : D → Changes) (moment : D → ℕ) (count : ℕ) (first : SectorBytes) (place : LogPlace) (kept : List Block) (state : LogState) (items : List RecoveredBlock) (result : Result (Unit {0}) Failed) (old new : D) → AreOffLog place kept
    → IfSome (changes old).disk (MayMount place kept state items) → MountsAs gives changes moment place state items result old new → StaysOver count kept first (changes old) (changes new)
mount_stays {D} gives changes moment count first place kept state items result old new off may mounts =
    mounted_by gives changes moment count first place kept old (new_area place state.next_lap state.restart state.opens) (first_lsn place state.next_lap state.restart state.opens) (λ d is. restart_misses place kept state items d (may_at d is) off) items
    (λ d is. all_fit place kept state items d (may_at d is)) result new mounts
  where
    may_at : (d : Disk) → (changes old).disk ≡ Some d → MayMount place kept state items d
    may_at d is = subst (λ (o : Option Disk). IfSome o (MayMount place kept state items)) is may
