-- What stands behind a mount.
use Rattle.std.proofs.Common.{◌≡◌, ◌⊎◌, subst, ℕ, ◌-◌, ◌^◌, ◌<◌, ◌≤◌, false, List, [], ◌∷◌, Option, Some, None, Result, Ok, Err, refl, sym, ap, ap₂, ◌∙◌, inl, inr, arith}
use Rattle.std.specs.Prelude.{All, IfOk, IfErr, IfSome, nat_le, replicate}
use Rattle.std.proofs.lemmas.Bool.{cases_Bool, leb-true}
use Rattle.host_base.specs.declared.outside.Failed.{Failed}
use Rattle.disk_model.specs.declared.block.Block.{Block}
use Rattle.disk_model.specs.Content.{Content, content_of}
use Rattle.disk_model.specs.Sectors.{sector_of}
use Rattle.sector_device.specs.Disks.{Disk, IsSized, SeesDisk, AreOver, MayLeave, Past, WasLeft, seen}
use Rattle.sector_device.specs.Moments.{Changes, LeftSince}
use Rattle.log_recovery.specs.device_view.Devices.{KeepsDevice}
use Rattle.log_model.specs.declared.entry.Entry.{Entry}
use Rattle.txn_core.specs.log_page.declared.places.LogPlace.{LogPlace}
use Rattle.txn_core.specs.log_page.Places.{sequence_bits}
use Rattle.log_recovery.specs.log_reading.Rings.{IsRingPlace}
use Rattle.log_recovery.specs.log_reading.declared.fault.LogRefusal.{LogRefusal}
use Rattle.txn_core.specs.log_area.Areas.{LogAreaOf, IsOldest, new_area, named_area, synced_area, lap_at, next_number, ring_size}
use Rattle.log_recovery.specs.declared.found.Shadow.{Shadow}
use Rattle.log_recovery.specs.declared.found.RecoveredBlock.{RecoveredBlock}
use Rattle.log_recovery.specs.declared.writing.ToWrite.{ToWrite}
use Rattle.log_recovery.specs.LogStates.{LogState}
use Rattle.log_recovery.specs.Writing.{state_with, to_write_in}
use Rattle.txn_core.specs.Kept.{IsBegun}
use Rattle.txn_core.specs.Openings.{StartsThen}
use Rattle.txn_core.proofs.FirstPages.{first_begun, first_lap, oldest_place}
use Rattle.txn_core.specs.txn_laws.Mounting.{HasMounted}
use Rattle.txn_core.specs.txn_model.Values.{StoreFacts}
use Rattle.txn_core.specs.txn_model.Calls.{first_facts}
use Rattle.txn_mount.specs.declared.fault.StoreFault.{StoreFault}
use Rattle.txn_mount.specs.declared.fault.StoreFault.TheVariants.{Fault}
use Rattle.txn_core.specs.txn_state.States.{facts_of}
use Rattle.txn_mount.specs.declared.mounting.Mounted.{Mounted}
use Rattle.txn_mount.specs.declared.puts.PutOut.{PutOut}
use Rattle.txn_mount.specs.declared.room.MountPlan.{MountPlan}
use Rattle.txn_mount.specs.Calls.{MountsBy}
use Rattle.txn_mount.specs.Contents.{mounted_content}
use Rattle.txn_mount.specs.Faults.{device_behind}
use Rattle.txn_mount.specs.Images.{LeavesAlike, RecoversAlike}
use Rattle.txn_mount.specs.Laws.{MayMount}
use Rattle.txn_mount.specs.Mounts.{ReadsAndWrites, IsMounted, StopsMount, AreShadows, ShadowsFound, ShowsRecovered, StaysRecovered}
use Rattle.txn_mount.specs.Plans.{IsPlan, IsPlanOn, PlansOn, WritesPlan, StopsWriting, area_behind, bodies_in, items_by}
use Rattle.txn_mount.specs.Puts.{items_of, MayPutAt}
use Rattle.txn_mount.proofs.Choosing.{may_put_all}
use Rattle.txn_mount.proofs.Ending.{mounts_recover_law}
use Rattle.txn_mount.proofs.Knowing.{starts_behind_law}
use Rattle.txn_mount.proofs.Planned.{level_parts}

-- ---- the ring of the new session

module _ (place : LogPlace) (ring : IsRingPlace place) (count : ℕ) (plan : MountPlan) (is : IsPlan place count plan) where
  pub names_first : IsOldest plan.log plan.oldest
  names_first = oldest_place place ring plan.found.recovered.next_lap plan.found.recovered.restart plan.found.recovered.opens plan.oldest plan.log is.ring is.first

  pub lap_fits : lap_at plan.log (next_number plan.log 0x58) < 2 ^ sequence_bits plan.log.pages
  lap_fits = subst (λ (a : LogAreaOf). lap_at a (next_number a 0x58) < 2 ^ sequence_bits a.pages) (sym is.ring)
      (first_lap place ring plan.found.recovered.next_lap plan.found.recovered.restart plan.found.recovered.opens (level_parts place.pages plan.found.recovered is.level).small)

  pub opened_is : (log : LogAreaOf) → log ≡ synced_area (named_area plan.oldest plan.log) → log ≡ area_behind place plan.found.recovered
  opened_is log opened = opened ∙ ap₂ (λ (n : ℕ) (a : LogAreaOf). synced_area (named_area n a)) is.first is.ring

  pub opened_begun : (log : LogAreaOf) → log ≡ synced_area (named_area plan.oldest plan.log) → IsBegun log
  opened_begun log opened = subst IsBegun (sym (opened_is log opened)) (first_begun place ring plan.found.recovered.next_lap plan.found.recovered.restart plan.found.recovered.opens)

  pub opened_pages : (log : LogAreaOf) → log ≡ synced_area (named_area plan.oldest plan.log) → log.pages ≡ place.pages
  opened_pages log opened = ap (λ (a : LogAreaOf). a.pages) (opened_is log opened)

  pub opened_sectors : (log : LogAreaOf) → log ≡ synced_area (named_area plan.oldest plan.log) → log.sectors ≡ place.device
  opened_sectors log opened = ap (λ (a : LogAreaOf). a.sectors) (opened_is log opened)

  pub opened_ends : (log : LogAreaOf) → log ≡ synced_area (named_area plan.oldest plan.log) → plan.ends.items ≡ replicate (ring_size log) 0
  opened_ends log opened = is.counted ∙ ap (λ (n : ℕ). replicate (n - 4) 0) (sym (ap (λ (a : LogAreaOf). a.pages) opened))

  pub puts_fit : (bodies : List RecoveredBlock) (keys : List PutOut) → bodies ≡ bodies_in plan.found → keys ≡ plan.keys.items → All (MayPutAt count bodies) keys
  puts_fit bodies keys made chosen =
      subst (λ (xs : List RecoveredBlock). All (MayPutAt count xs) keys) (sym made) (subst (λ (ks : List PutOut). All (MayPutAt count (bodies_in plan.found)) ks) (sym chosen) (may_put_all count (bodies_in plan.found) plan.keys.items is.sized is.chosen))

  -- ---- the calls, in the words of the laws

  module _ {D : Type 0} (gives : D → Option (List (List ℕ))) (changes : D → Changes) (moment : D → ℕ) where
    written_as : (result : Result (Unit {0}) Failed) (old new : D) → MountsBy gives changes moment (items_by plan.found plan.keys.items) plan.log plan.oldest result old new → WritesPlan gives changes moment place plan result old new
    written_as result old new calls =
        subst (λ (n : ℕ). MountsBy gives changes moment (items_by plan.found plan.keys.items) (new_area place plan.found.recovered.next_lap plan.found.recovered.restart plan.found.recovered.opens) n result old new) is.first
        (subst (λ (a : LogAreaOf). MountsBy gives changes moment (items_by plan.found plan.keys.items) a plan.oldest result old new) is.ring calls)

    pub written_at : (bodies : List RecoveredBlock) (keys : List PutOut) → bodies ≡ bodies_in plan.found → keys ≡ plan.keys.items → (result : Result (Unit {0}) Failed) (old new : D)
        → MountsBy gives changes moment (items_of bodies keys) plan.log plan.oldest result old new → WritesPlan gives changes moment place plan result old new
    written_at bodies keys made chosen result old new calls =
        written_as result old new (subst (λ (xs : List RecoveredBlock). MountsBy gives changes moment (items_of xs plan.keys.items) plan.log plan.oldest result old new) made (subst (λ (ks : List PutOut). MountsBy gives changes moment (items_of bodies ks) plan.log plan.oldest result old new) chosen calls))

    pub starts_then : (kept : List Block) → ((d : D) → SeesDisk (gives d) (changes d).disk) → ((d : D) → IfSome (changes d).disk IsSized) → (old new : D) → IsPlanOn (changes old).disk place kept plan
        → WritesPlan gives changes moment place plan (Ok tt) old new → (log : LogAreaOf) → log ≡ synced_area (named_area plan.oldest plan.log) → StartsThen changes place log new
    starts_then kept sees values old new on calls log opened =
        subst (λ (a : LogAreaOf). StartsThen changes place a new) (sym (opened_is log opened)) (by_disk (changes old).disk refl on)
      where
        by_disk : (o : Option Disk) → (changes old).disk ≡ o → IfSome o (PlansOn place kept plan.found plan.keys.items) → StartsThen changes place (area_behind place plan.found.recovered) new
        by_disk None unknown p =
            starts_behind_law gives changes moment sees values place kept (state_with [] plan.found.recovered) (items_by plan.found plan.keys.items) old new (subst (λ (o : Option Disk). IfSome o (MayMount place kept (state_with [] plan.found.recovered) (items_by plan.found plan.keys.items))) (sym unknown) tt) calls
        by_disk (Some d) known p =
            starts_behind_law gives changes moment sees values place kept (state_with p.list plan.found.recovered) (items_by plan.found plan.keys.items) old new (subst (λ (o : Option Disk). IfSome o (MayMount place kept (state_with p.list plan.found.recovered) (items_by plan.found plan.keys.items))) (sym known) p.may) calls

-- ---- a state of a store that was just made

pub first_as : (s : StoreFacts) (place : LogPlace) (log : LogAreaOf) (kept : List Block) → s ≡ first_facts place log kept → s ≡ first_facts s.place s.log s.found
first_as s place log kept is = subst (λ (f : StoreFacts). f ≡ first_facts f.place f.log f.found) (sym is) refl

pub starts_as : {D : Type 0} (changes : D → Changes) (s : StoreFacts) (place : LogPlace) (log : LogAreaOf) (kept : List Block) (device : D) → s ≡ first_facts place log kept → StartsThen changes place log device → StartsThen changes s.place s.log device
starts_as changes s place log kept device is starts = subst (λ (f : StoreFacts). StartsThen changes f.place f.log device) (sym is) starts

-- ---- images

over_left : (count t : ℕ) (past : List Past) (image : List (List ℕ)) → AreOver t past → WasLeft count past t image → ⊥
over_left count t [] image over left = left
over_left count t (p ∷ ps) image over (inl here) = let a = over.0 in let b = here.0 in absurd (omega (arith, a, b))
over_left count t (p ∷ ps) image over (inr rest) = over_left count t ps image over.1 rest

left_earlier : (count t u : ℕ) (past : List Past) (image : List (List ℕ)) → u ≤ t → WasLeft count past t image → WasLeft count past u image
left_earlier count t u [] image less left = left
left_earlier count t u (p ∷ ps) image less (inl here) = inl ((let b = here.0 in omega (arith, less, b)), here.1)
left_earlier count t u (p ∷ ps) image less (inr rest) = inr (left_earlier count t u ps image less rest)

since_earlier : (count t u : ℕ) (changes : Changes) (image : List (List ℕ)) → u ≤ t → LeftSince count changes t image → LeftSince count changes u image
since_earlier count t u changes image less = go changes.disk
  where
    go : (o : Option Disk) → IfSome o (λ disk. MayLeave count disk image ⊎ WasLeft count changes.past t image) → IfSome o (λ disk. MayLeave count disk image ⊎ WasLeft count changes.past u image)
    go None left = tt
    go (Some d) (inl now) = inl now
    go (Some d) (inr was) = inr (left_earlier count t u changes.past image less was)

-- what was left since the past was over may be left since any moment
since_over : (count t u : ℕ) (changes : Changes) (image : List (List ℕ)) → AreOver t changes.past → LeftSince count changes t image → LeftSince count changes u image
since_over count t u changes image over = go changes.disk
  where
    go : (o : Option Disk) → IfSome o (λ disk. MayLeave count disk image ⊎ WasLeft count changes.past t image) → IfSome o (λ disk. MayLeave count disk image ⊎ WasLeft count changes.past u image)
    go None left = tt
    go (Some d) (inl now) = inl now
    go (Some d) (inr was) = absurd (over_left count t changes.past image over was)

-- of a call that reads first, whatever its moments
leaves_from : (count early late : ℕ) (place : LogPlace) (kept : List Block) (list : List Entry) (content : Content) (lap : ℕ) (old now : Changes) → AreOver early old.past → LeavesAlike count early place kept list content lap old now
    → LeavesAlike count late place kept list content lap old now
leaves_from count early late place kept list content lap old now over leaves t image le left = elim (cases_Bool (nat_le t early)) [
  | inl is ↦ leaves t image (leb-true t early is) left
  | inr not_so ↦ behind (leaves early image (omega arith) (since_earlier count t early now image (above t early not_so) left))
]
  where
    above : (t early : ℕ) → nat_le t early ≡ false → early ≤ t
    above t early h = grind (arith)

    behind : LeftSince count old early image ⊎ RecoversAlike place kept list content lap (sector_of image) → LeftSince count old t image ⊎ RecoversAlike place kept list content lap (sector_of image)
    behind (inl was) = inl (since_over count early t old image over was)
    behind (inr alike) = inr alike

leaves_same : (count moment : ℕ) (place : LogPlace) (kept : List Block) (list : List Entry) (content : Content) (lap : ℕ) (old now : Changes) → now ≡ old → LeavesAlike count moment place kept list content lap old now
leaves_same count moment place kept list content lap old now same t image le left = inl (subst (λ (c : Changes). LeftSince count c t image) same left)

-- ---- what a mount answers

same_state : (a b : LogState) → ◌≡◌ {A = Result LogState LogRefusal} (Ok a) (Ok b) → a ≡ b
same_state a b e = cc

module _ {D : Type 0} (gives : D → Option (List (List ℕ))) (count : D → ℕ) (changes : D → Changes) (faults moment : D → ℕ) (place : LogPlace) (kept : List Block) (old : D) where
  -- what is read on a known disk is what was found
  read_as : (found : ToWrite) (keys : List PutOut) (list : List Entry) (o : Option Disk) (first : Disk) (state : LogState) → o ≡ Some first → to_write_in (content_of (seen first)) place kept ≡ Ok state
      → IfSome o (MayMount place kept (state_with list found.recovered) (items_by found keys)) → (state ≡ state_with list found.recovered) × MayMount place kept (state_with list found.recovered) (items_by found keys) first
  read_as found keys list o first state known read may =
      let m : MayMount place kept (state_with list found.recovered) (items_by found keys) first = subst (λ (p : Option Disk). IfSome p (MayMount place kept (state_with list found.recovered) (items_by found keys))) known may in
      (same_state state (state_with list found.recovered) (sym read ∙ m.read), m)

  pub shadows_found : (plan : MountPlan) (shadows : List Shadow) → IsPlanOn (changes old).disk place kept plan → shadows ≡ plan.found.recovered.blocks.shadows.items → ShadowsFound place kept (changes old) shadows
  shadows_found plan shadows on same first state reads =
      let p : PlansOn place kept plan.found plan.keys.items first = subst (λ (o : Option Disk). IfSome o (PlansOn place kept plan.found plan.keys.items)) reads.known on in
      let is : state ≡ state_with p.list plan.found.recovered = same_state state (state_with p.list plan.found.recovered) (sym reads.read ∙ p.may.read) in
      subst (λ (l : List Entry). AreShadows l shadows) (sym (ap (λ (s : LogState). s.log) is))
      (subst (λ (xs : List Shadow). AreShadows p.list xs) (sym same) (record { held = p.made.shadows; once = p.made.shadowed_once }))

  -- the calls behind a plan
  pub calls_behind : (plan : MountPlan) (mid new : D) (result : Result (Unit {0}) Failed) → IsPlan place (count old) plan → IsPlanOn (changes old).disk place kept plan → KeepsDevice gives count changes faults moment old mid
      → WritesPlan gives changes moment place plan result mid new → ReadsAndWrites gives count changes faults moment place kept plan.found result old new
  calls_behind plan mid new result is on reads writes = go (changes old).disk refl on
    where
      go : (o : Option Disk) → (changes old).disk ≡ o → IfSome o (PlansOn place kept plan.found plan.keys.items) → ReadsAndWrites gives count changes faults moment place kept plan.found result old new
      go None unknown p = record {
        keys = plan.keys.items;
        chosen = is.chosen;
        list = [];
        may = subst (λ (o : Option Disk). IfSome o (MayMount place kept (state_with [] plan.found.recovered) (items_by plan.found plan.keys.items))) (sym unknown) tt;
        mid = mid;
        reads = reads;
        writes = writes;
      }
      go (Some d) known p = record {
        keys = plan.keys.items;
        chosen = is.chosen;
        list = p.list;
        may = subst (λ (o : Option Disk). IfSome o (MayMount place kept (state_with p.list plan.found.recovered) (items_by plan.found plan.keys.items))) (sym known) p.may;
        mid = mid;
        reads = reads;
        writes = writes;
      }

  module _ (sees : (d : D) → SeesDisk (gives d) (changes d).disk) (values : (d : D) → IfSome (changes d).disk IsSized) where
    pub shows_recovered : (found : ToWrite) (new : D) (store : StoreFacts) → ReadsAndWrites gives count changes faults moment place kept found (Ok tt) old new → store ≡ first_facts place (area_behind place found.recovered) kept
        → ShowsRecovered place kept (changes old) (changes new) store
    shows_recovered found new store calls start first state reads still =
        let r = read_as found calls.keys calls.list (changes old).disk first state reads.known reads.read calls.may in
        subst (λ (s : LogState). HasMounted (changes new) store s.log (mounted_content (content_of (seen first)) s.log)) (sym r.0)
        (subst (λ (f : StoreFacts). HasMounted (changes new) f calls.list (mounted_content (content_of (seen first)) calls.list)) (sym start)
        ((mounts_recover_law gives changes moment sees values).mounted place kept (state_with calls.list found.recovered) (items_by found calls.keys) first calls.mid new (ap (λ (c : Changes). c.disk) calls.reads.unchanged ∙ reads.known) r.1 still calls.writes))

    pub stays_recovered : ((d : D) → AreOver (moment d) (changes d).past) → (found : ToWrite) (new : D) (result : Result (Unit {0}) Failed) → ReadsAndWrites gives count changes faults moment place kept found result old new
        → StaysRecovered (moment old) place kept (changes old) (changes new)
    stays_recovered over found new result calls number first state reads still alone =
        let r = read_as found calls.keys calls.list (changes old).disk first state reads.known reads.read calls.may in
        let same = calls.reads.unchanged in
        subst (λ (s : LogState). LeavesAlike number (moment old) place kept s.log (mounted_content (content_of (seen first)) s.log) s.next_lap (changes old) (changes new)) (sym r.0)
        (leaves_from number (moment calls.mid) (moment old) place kept calls.list (mounted_content (content_of (seen first)) calls.list) found.recovered.next_lap (changes old) (changes new)
        (subst (λ (c : Changes). AreOver (moment calls.mid) c.past) same (over calls.mid))
        (subst (λ (c : Changes). LeavesAlike number (moment calls.mid) place kept calls.list (mounted_content (content_of (seen first)) calls.list) found.recovered.next_lap c (changes new)) same
        ((mounts_recover_law gives changes moment sees values).images number place kept (state_with calls.list found.recovered) (items_by found calls.keys) first result calls.mid new (ap (λ (c : Changes). c.disk) same ∙ reads.known) r.1 still alone calls.writes)))

    pub stays_same : (new : D) → KeepsDevice gives count changes faults moment old new → StaysRecovered (moment old) place kept (changes old) (changes new)
    stays_same new reads number first state on still alone = leaves_same number (moment old) place kept state.log (mounted_content (content_of (seen first)) state.log) state.next_lap (changes old) (changes new) reads.unchanged

  -- ---- and its clauses

  module _ (plan : MountPlan) (mid : D) (is : IsPlan place (count old) plan) (on : IsPlanOn (changes old).disk place kept plan) (reads : KeepsDevice gives count changes faults moment old mid) where
    pub all_mounted : (result : Result (Mounted D) (StoreFault × D)) → IfOk result (λ m. WritesPlan gives changes moment place plan (Ok tt) mid m.store.device)
        → IfOk result (λ m. facts_of m.store.state ≡ first_facts place (area_behind place plan.found.recovered) kept) → IfOk result (λ m. IsMounted gives count changes faults moment place kept old m.store.device (facts_of m.store.state))
    all_mounted (Ok m) done facts = record { found = plan.found; calls = calls_behind plan mid m.store.device (Ok tt) is on reads done; start = facts }
    all_mounted (Err e) done facts = tt

    pub all_stop : (result : Result (Mounted D) (StoreFault × D)) → IfErr result (λ e. (e.0 ≡ Fault) × StopsWriting gives changes moment place plan mid e.1) → IfErr result (λ e. StopsMount gives count changes faults moment place kept e.0 old e.1)
    all_stop (Ok m) stops = tt
    all_stop (Err e) stops = inr (stops.0, stops.1.0, plan.found, calls_behind plan mid e.1 (Err stops.1.0) is on reads stops.1.1)

    pub all_shadowed : (result : Result (Mounted D) (StoreFault × D)) → IfOk result (λ m. m.shadows ≡ plan.found.recovered.blocks.shadows) → IfOk result (λ m. ShadowsFound place kept (changes old) m.shadows.items)
    all_shadowed (Ok m) same = shadows_found plan m.shadows.items on (let e : m.shadows.items ≡ plan.found.recovered.blocks.shadows.items = cc in e)
    all_shadowed (Err e) same = tt

  module _ (sees : (d : D) → SeesDisk (gives d) (changes d).disk) (values : (d : D) → IfSome (changes d).disk IsSized) where
    pub all_shown : (result : Result (Mounted D) (StoreFault × D)) → IfOk result (λ m. IsMounted gives count changes faults moment place kept old m.store.device (facts_of m.store.state))
        → IfOk result (λ m. ShowsRecovered place kept (changes old) (changes m.store.device) (facts_of m.store.state))
    all_shown (Ok m) is = shows_recovered sees values is.found m.store.device (facts_of m.store.state) is.calls is.start
    all_shown (Err e) is = tt

    pub all_stay : ((d : D) → AreOver (moment d) (changes d).past) → (result : Result (Mounted D) (StoreFault × D)) → IfOk result (λ m. IsMounted gives count changes faults moment place kept old m.store.device (facts_of m.store.state))
        → IfErr result (λ e. StopsMount gives count changes faults moment place kept e.0 old e.1) → StaysRecovered (moment old) place kept (changes old) (changes (device_behind result (λ m. m.store.device)))
    all_stay over (Ok m) is stops = stays_recovered sees values over is.found m.store.device (Ok tt) is.calls
    all_stay over (Err e) is (inl reads) = stays_same sees values e.1 reads
    all_stay over (Err e) is (inr (fault, failed, found, calls)) = stays_recovered sees values over found e.1 (Err failed) calls
