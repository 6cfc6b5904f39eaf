-- What was read of a device, and the disk behind it.
use Rattle.std.proofs.Common.{◌≡◌, subst, ℕ, List, [], ◌∷◌, Option, Some, None, Result, Ok, Err, refl, sym, ap, ◌∙◌}
use Rattle.std.specs.Prelude.{IfSome}
use mathlib.Core.Path.{fun_ext}
use Rattle.disk_model.specs.declared.block.Block.{Block}
use Rattle.disk_model.specs.Content.{content_of}
use Rattle.sector_device.specs.Disks.{Disk, IsSized, SeesDisk, seen}
use Rattle.sector_device.specs.Moments.{Changes}
use Rattle.txn_core.specs.log_page.declared.places.LogPlace.{LogPlace}
use Rattle.log_recovery.specs.log_reading.declared.fault.LogRefusal.{LogRefusal}
use Rattle.log_recovery.specs.declared.found.RecoveredBlock.{RecoveredBlock}
use Rattle.log_recovery.specs.declared.writing.ToWrite.{ToWrite}
use Rattle.log_recovery.specs.LogStates.{LogState}
use Rattle.log_recovery.specs.Writing.{to_write_in, IsToWriteBy}
use Rattle.txn_core.proofs.txn_laws.Telling.{known_before_write, known_before_sync}
use Rattle.txn_mount.specs.Calls.{PutsAll}
use Rattle.txn_mount.specs.Laws.{MayMount, FindsOn, ReadsDisk, StartsBehind}
use Rattle.txn_mount.proofs.Ending.{mounts_recover_law}

finds_by : (place : LogPlace) (kept : List Block) (found : ToWrite) (disk : Disk) (meant : Result LogState LogRefusal) → to_write_in (content_of (seen disk)) place kept ≡ meant → IsToWriteBy (content_of (seen disk)) meant found → FindsOn place kept found disk
finds_by place kept found disk (Ok state) read is = record { state = state; read = read; is = is }
finds_by place kept found disk (Err e) read is = absurd is

pub reads_disk_law : ReadsDisk
reads_disk_law place kept found None None sees answer = tt
reads_disk_law place kept found None (Some disk) sees answer = absurd sees
reads_disk_law place kept found (Some g) None sees answer = absurd sees
reads_disk_law place kept found (Some g) (Some disk) sees answer =
    finds_by place kept found disk (to_write_in (content_of (seen disk)) place kept) refl
    (subst (λ (at : ℕ → List ℕ). IsToWriteBy (content_of at) (to_write_in (content_of at) place kept) found) (fun_ext sees) answer)

module _ {D : Type 0} (gives : D → Option (List (List ℕ))) (changes : D → Changes) (moment : D → ℕ) (sees : (d : D) → SeesDisk (gives d) (changes d).disk) (values : (d : D) → IfSome (changes d).disk IsSized) where
  known_before_puts : (xs : List RecoveredBlock) (u : Unit {0}) (old new : D) → PutsAll gives changes moment xs (Ok u) old new → (e : Disk) → (changes new).disk ≡ Some e → (d : Disk) × ((changes old).disk ≡ Some d)
  known_before_puts [] u old new same e is = (e, sym (ap (λ (d : D). (changes d).disk) same) ∙ is)
  known_before_puts (x ∷ xs) u old new puts e is =
      let mid = known_before_puts xs u puts.0 new puts.2 e is in
      known_before_write _ _ _ _ (changes old) (changes puts.0) puts.1.put.ok.1.put.sends.writes mid.0 mid.1

  pub starts_behind_law : StartsBehind gives changes moment
  starts_behind_law place kept state items old new may mounts = λ found disk is.
      let named = known_before_sync _ _ (changes mounts.2.2.0) (changes new) mounts.2.2.2.syncs disk is in
      let synced = known_before_write _ _ _ _ (changes mounts.2.0) (changes mounts.2.2.0) mounts.2.2.1.1.sends.writes named.0 named.1 in
      let put = known_before_sync _ _ (changes mounts.0) (changes mounts.2.0) mounts.2.1.syncs synced.0 synced.1 in
      let first = known_before_puts items tt old mounts.0 mounts.1 put.0 put.1 in
      (mounts_recover_law gives changes moment sees values).starts place kept state items first.0 found old new first.1 (subst (λ (o : Option Disk). IfSome o (MayMount place kept state items)) first.1 may) mounts
