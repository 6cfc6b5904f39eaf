-- The blocks by which the log of a mounted volume is found lie off it, and the mount of a store leaves them.
use Rattle.std.proofs.Common.{◌≡◌, ℕ, ◌/◌, ◌<◌, List, Option, Result, Ok, Err, refl, sym, ap, subst, inl, inr, arith}
use Rattle.std.specs.Prelude.{IfSome}
use Rattle.host_base.specs.declared.outside.Failed.{Failed}
use Rattle.disk_model.specs.declared.block.Block.{Block}
use Rattle.disk_model.specs.declared.block.BlockKind.TheVariants.{Plain, FileRec}
use Rattle.disk_model.specs.Content.{Content}
use Rattle.sector_device.specs.Moments.{Changes}
use Rattle.state_model.specs.declared.geometry.Geometry.{Geometry}
use Rattle.state_model.specs.Loads.{boot_block}
use Rattle.volume_model.specs.Volumes.{Volume}
use Rattle.volume_model.specs.Owners.{uses}
use Rattle.stream_laws.specs.Owners.{stream_kind}
use Rattle.stream_laws.specs.Sharing.{StreamKey, stream_at, runs_in}
use Rattle.safe_blocks.specs.plan_owners.Agreeing.{log_key}
use Rattle.safe_blocks.specs.plan_owners.Kinds.{cluster_of, OwnsAs}
use Rattle.safe_blocks.proofs.plan_owners.ByKind.{in_grid, owned_as, one_kind}
use Rattle.safe_blocks.proofs.plan_model.Drafting.{per_is}
use Rattle.log_page.specs.declared.places.LogPlace.{LogPlace}
use Rattle.log_area.specs.Areas.{page_first}
use Rattle.log_recovery.specs.declared.writing.ToWrite.{ToWrite}
use Rattle.log_recovery.specs.Writing.{state_with}
use Rattle.safe_blocks.specs.image_open.Volumes.{boot_place}
use Rattle.safe_blocks.specs.image_open.Writing.{found_by}
use Rattle.store_model.specs.Geometry.{SectorBytes}
use Rattle.txn_model.specs.Values.{StoreFacts}
use Rattle.stays_at_mount.specs.txn_mount.declared.fault.StoreFault.{StoreFault}
use Rattle.stays_at_mount.specs.txn_mount.Laws.{MayMount}
use Rattle.stays_at_mount.specs.txn_mount.Plans.{items_by}
use Rattle.stays_at_mount.specs.txn_mount.Mounts.{ReadsAndWrites, IsMounted, StopsMount}
use Rattle.resting_states.specs.found_stays.Found.{AreOffLog, StaysOver}
use Rattle.resting_states.specs.found_stays.Laws.{LiesBeside}
use Rattle.resting_states.proofs.found_stays.Bearing.{none_stays, both_stay}
use Rattle.resting_states.proofs.found_stays.Lying.{all_off}
use Rattle.stays_at_mount.specs.Mounts.{MountsStay}
use Rattle.safe_blocks.specs.volume_mount.Boot.{boot_key}
use Rattle.safe_blocks.specs.Safe.{SuitsStore, MountsHoldStates}
use Rattle.safe_blocks.proofs.Blocks.{owns_second}
use Rattle.mounted_states.specs.Calls.{FoundLieOff, StoresKeepFound}

-- ---- they lie off the log

log_kind : stream_kind log_key ≡ Plain
unfolding stream_kind
log_kind = refl

log_is_other : log_key ≡ boot_key → ⊥
log_is_other same = (let number : 2 ≡ 7 = ap (λ (k : StreamKey). k.file) same in omega (arith, number))

differ : FileRec ≡ Plain → ⊥
differ is = cc

module _ (c : Content) (g : Geometry) (clusters : ℕ) (place : LogPlace) (v : Volume) (suits : SuitsStore c g clusters place v) where
  -- no page of the log lies in the first cluster
  off_boot : (k : ℕ) → k < place.pages → page_first place k / 8 ≡ 0 → ⊥
  off_boot k below same =
      let log : 0 < uses (runs_in (stream_at v log_key)) 0 = subst (λ (i : ℕ). 0 < uses (runs_in (stream_at v log_key)) i) same (suits.lies k below) in
      let none : uses (runs_in (stream_at v log_key)) 0 ≡ 0 = suits.boot log_key log_is_other in
      omega (arith, log, none)

  -- nor in that of record 2
  off_second : (k : ℕ) → k < place.pages → page_first place k / 8 ≡ (boot_block g 2).first / 8 → ⊥
  off_second k below same =
      let second : OwnsAs v FileRec (cluster_of (boot_block g 2)) = owned_as v (boot_block g 2) (per_is c g clusters v suits.eight suits.stands) (owns_second c g clusters v suits.stands) in
      let log : OwnsAs v Plain (cluster_of (boot_block g 2)) = record { stream = log_key; is_kind = log_kind; has = subst (λ (i : ℕ). 0 < uses (runs_in (stream_at v log_key)) i) same (suits.lies k below) } in
      differ (one_kind c g clusters v FileRec Plain (cluster_of (boot_block g 2)) suits.stands second log)

  boot_beside : LiesBeside place boot_place
  boot_beside = record { grid = refl; apart = off_boot }

  second_beside : LiesBeside place (boot_block g 2)
  second_beside = record { grid = in_grid v (boot_block g 2) (per_is c g clusters v suits.eight suits.stands) (owns_second c g clusters v suits.stands); apart = off_second }

  off_log : AreOffLog place (found_by g)
  off_log = all_off place (found_by g) suits.ring (boot_beside, (second_beside, tt))

pub lie_off : MountsHoldStates → FoundLieOff
lie_off mounts c sectors m f is store =
    subst (AreOffLog f.place) (sym store.found) (off_log m.content m.opened.geometry m.opened.total f.place m.volume (mounts.suits c sectors m f m.content is store (mounts.stands c sectors m f is store)))

-- ---- the mount of a store leaves them

module _ {D : Type 0} (gives : D → Option (List (List ℕ))) (count : D → ℕ) (changes : D → Changes) (faults moment : D → ℕ) (law : MountsStay gives moment changes) (place : LogPlace) (kept : List Block) (first : SectorBytes) (old new : D) (off : AreOffLog place kept) where
  -- a device that was only read
  read_stays : (mid : D) → changes mid ≡ changes old → StaysOver (count old) kept first (changes old) (changes mid)
  read_stays mid same = none_stays (count old) kept first (changes old) (changes mid) same

  calls_stay : (found : ToWrite) (result : Result (Unit {0}) Failed) → ReadsAndWrites gives count changes faults moment place kept found result old new → StaysOver (count old) kept first (changes old) (changes new)
  calls_stay found result calls =
      let same : changes calls.mid ≡ changes old = calls.reads.unchanged in
      both_stay (count old) kept first (changes old) (changes calls.mid) (changes new) (read_stays calls.mid same)
      (law (count old) first place kept (state_with calls.list found.recovered) (items_by found calls.keys) result calls.mid new off (subst (λ (x : Changes). IfSome x.disk (MayMount place kept (state_with calls.list found.recovered) (items_by found calls.keys))) (sym same) calls.may) calls.writes)

  done : (store : StoreFacts) → IsMounted gives count changes faults moment place kept old new store → StaysOver (count old) kept first (changes old) (changes new)
  done store is = calls_stay is.found (Ok tt) is.calls

  stopped : (fault : StoreFault) → StopsMount gives count changes faults moment place kept fault old new → StaysOver (count old) kept first (changes old) (changes new)
  stopped why (inl read) = read_stays new read.unchanged
  stopped why (inr calls) = calls_stay calls.2 (Err calls.1) calls.3

pub keeps_found : {D : Type 0} (gives : D → Option (List (List ℕ))) (count : D → ℕ) (changes : D → Changes) (faults moment : D → ℕ) → MountsStay gives moment changes → StoresKeepFound gives count changes faults moment
keeps_found gives count changes faults moment law = record {
  done = λ place kept store first old new off is. done gives count changes faults moment law place kept first old new off store is;
  stopped = λ place kept fault first old new off is. stopped gives count changes faults moment law place kept first old new off fault is;
}
