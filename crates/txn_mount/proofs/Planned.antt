-- What a mount has taken before it writes.
use Rattle.std.proofs.Common.{◌≡◌, ◌⊎◌, subst, ℕ, ◌*◌, ◌^◌, ◌<◌, ◌≤◌, Bool, true, List, Option, Some, None, Result, Ok, Err, refl, sym, ap, ap₂, ◌∙◌, inl, inr, arith, le-leb, lt-ltb}
use Rattle.std.specs.Prelude.{◌&&◌, nat_le, nat_lt, IfOk, IfErr, IfSome}
use Rattle.std.proofs.lemmas.Bool.{leb-true, ltb-true}
use Rattle.host_base.specs.Answers.{ExplainsOrFails}
use Rattle.disk_model.specs.declared.block.Block.{Block}
use Rattle.disk_model.specs.Content.{content_of}
use Rattle.disk_model.specs.Sectors.{sector_of}
use Rattle.sector_device.specs.Disks.{Disk, SeesDisk, seen}
use Rattle.log_recovery.specs.device_view.Devices.{CountsOnDevice}
use Rattle.txn_core.specs.log_page.declared.places.LogPlace.{LogPlace}
use Rattle.txn_core.specs.log_page.Places.{sequence_bits}
use Rattle.log_recovery.specs.log_reading.Rings.{IsRingPlace}
use Rattle.log_recovery.specs.log_reading.declared.fault.LogRefusal.{LogRefusal}
use Rattle.log_recovery.specs.log_reading.declared.fault.RecoveryFault.{RecoveryFault}
use Rattle.log_recovery.specs.log_reading.declared.fault.RecoveryFault.TheVariants as reading
use Rattle.log_recovery.specs.log_reading.Views.{recovery_cause}
use Rattle.log_recovery.specs.declared.whole.Recovered.{Recovered}
use Rattle.log_recovery.specs.declared.writing.ToWrite.{ToWrite}
use Rattle.log_recovery.specs.LogStates.{LogState}
use Rattle.log_recovery.specs.Writing.{state_with, to_write_in}
use Rattle.txn_core.specs.txn_laws.Laws.{first_lsn}
use Rattle.txn_core.proofs.txn_laws.Syncs.{and_left, and_right}
use Rattle.store_model.proofs.Told.{true≢false}
use Rattle.txn_mount.specs.declared.fault.StoreFault.{StoreFault}
use Rattle.txn_mount.specs.declared.fault.StoreFault.TheVariants.{Refused, Fault, Memory, Broken}
use Rattle.txn_mount.specs.declared.room.MountPlan.{MountPlan}
use Rattle.txn_mount.specs.Contents.{ReadsLog}
use Rattle.txn_mount.specs.Faults.{store_fault, store_cause, count_cause}
use Rattle.txn_mount.specs.Laws.{FindsOn, MayMount}
use Rattle.txn_mount.specs.Plans.{is_level, IsUnlevel, IsPlan, IsPlanOn, PlansOn, items_by}
use Rattle.txn_mount.proofs.Choosing.{may_mount_law}
use Rattle.txn_mount.proofs.Finding.{found as finds, lap_some, lap_small, opens_small}
use Rattle.txn_mount.proofs.Reading.{read_log}

-- ---- what is level

pub record Level (pages : ℕ) (found : Recovered) : Type 0 where
  pub some : 1 ≤ found.next_lap
  pub small : found.next_lap < 2 ^ sequence_bits pages
  pub two : found.restart ≤ 1
  pub few : found.opens ≤ 2 ^ 31

pub level_parts : (pages : ℕ) (found : Recovered) → is_level pages found ≡ true → Level pages found
level_parts pages found is =
    let a = nat_le 1 found.next_lap in
    let b = nat_lt found.next_lap (2 ^ sequence_bits pages) in
    let c = nat_le found.restart 1 in
    let abc = and_left (a && b && c) (nat_le found.opens (2 ^ 31)) is in
    let ab = and_left (a && b) c abc in
    record {
      some = leb-true _ _ (and_left a b ab);
      small = ltb-true _ _ (and_right a b ab);
      two = leb-true _ _ (and_right (a && b) c abc);
      few = leb-true _ _ (and_right (a && b && c) (nat_le found.opens (2 ^ 31)) is);
    }

and_made : (x y : Bool) → x ≡ true → y ≡ true → (x && y) ≡ true
and_made x y p q = ap₂ (λ (u : Bool) (v : Bool). u && v) p q

pub level_made : (pages : ℕ) (found : Recovered) → 1 ≤ found.next_lap → found.next_lap < 2 ^ sequence_bits pages → found.restart ≤ 1 → found.opens ≤ 2 ^ 31 → is_level pages found ≡ true
level_made pages found some small two few =
    let a = nat_le 1 found.next_lap in
    let b = nat_lt found.next_lap (2 ^ sequence_bits pages) in
    let c = nat_le found.restart 1 in
    and_made (a && b && c) (nat_le found.opens (2 ^ 31)) (and_made (a && b) c (and_made a b (le-leb 1 found.next_lap some) (lt-ltb found.next_lap (2 ^ sequence_bits pages) small)) (le-leb found.restart 1 two)) (le-leb found.opens (2 ^ 31) few)

-- what is found by the log of a known disk is
pub known_level : (place : LogPlace) (kept : List Block) (found : ToWrite) → IsRingPlace place → (disk : Disk) → FindsOn place kept found disk → is_level place.pages found.recovered ≡ true
known_level place kept found ring disk on =
    let r : ReadsLog (content_of (seen disk)) place kept on.state = read_log (content_of (seen disk)) place kept on.state on.read in
    let small = (finds place ring kept disk on.state r).small in
    let restart = on.is.recovered.restart in
    level_made place.pages found.recovered
    (subst (λ (n : ℕ). 1 ≤ n) (sym on.is.recovered.next_lap) (lap_some place ring kept disk on.state r))
    (subst (λ (n : ℕ). n < 2 ^ sequence_bits place.pages) (sym on.is.recovered.next_lap) (lap_small place ring kept disk on.state r))
    (omega (arith, small, restart))
    (subst (λ (n : ℕ). n ≤ 2 ^ 31) (sym on.is.recovered.opens) (opens_small place ring kept disk on.state r))

-- ---- what is taken

same_numbers : (state : LogState) (found : Recovered) → found.next_lap ≡ state.next_lap → found.restart ≡ state.restart → found.opens ≡ state.opens → state ≡ state_with state.log found
same_numbers state found lap restart opens =
    ap (λ (n : ℕ). record state { next_lap = n }) (sym lap)
    ∙ ap₂ (λ (r : ℕ) (o : ℕ). record state { next_lap = found.next_lap; restart = r; opens = o }) (sym restart) (sym opens)

pub plans_on : (place : LogPlace) (kept : List Block) (count : ℕ) (plan : MountPlan) → IsRingPlace place → 8 * place.clusters ≤ count → IsPlan place count plan → (disk : Disk) → FindsOn place kept plan.found disk
    → PlansOn place kept plan.found plan.keys.items disk
plans_on place kept count plan ring wide is disk on =
    let same = same_numbers on.state plan.found.recovered on.is.recovered.next_lap on.is.recovered.restart on.is.recovered.opens in
    record {
      list = on.state.log;
      may = subst (λ (s : LogState). MayMount place kept s (items_by plan.found plan.keys.items) disk) same
          (may_mount_law place kept disk on.state count plan.found.recovered.blocks plan.keys.items ring on.read on.is.recovered.blocks is.sized is.chosen wide
          (subst (λ (s : LogState). first_lsn place s.next_lap s.restart s.opens < 2 ^ 64) (sym same) is.low));
      made = on.is.recovered.blocks;
    }

pub plans_known : (place : LogPlace) (kept : List Block) (count : ℕ) (found : ToWrite) (disk : Option Disk) → IsRingPlace place → 8 * place.clusters ≤ count → (result : Result MountPlan StoreFault) → IfOk result (IsPlan place count)
    → IfOk result (λ p. p.found ≡ found) → IfSome disk (FindsOn place kept found) → IfOk result (IsPlanOn disk place kept)
plans_known place kept count found disk ring wide (Err e) is same finds = tt
plans_known place kept count found None ring wide (Ok p) is same finds = tt
plans_known place kept count found (Some d) ring wide (Ok p) is same finds = plans_on place kept count p ring wide is d (subst (λ (f : ToWrite). FindsOn place kept f d) (sym same) finds)

-- ---- what refuses

pub same_cause : (fault : RecoveryFault) → store_cause (store_fault fault) ≡ recovery_cause fault
same_cause (reading.Refused refusal) = refl
same_cause reading.Fault = refl
same_cause reading.Memory = refl

abbrev IsOwn : ℕ → Recovered → StoreFault → Type 0
IsOwn pages found e = (e ≡ Memory) ⊎ IsUnlevel pages found e

-- where the disk is known, want of memory alone
pub own_refuses : (place : LogPlace) (kept : List Block) (found : ToWrite) → IsRingPlace place → (gives : Option (List (List ℕ))) (disk : Option Disk) → SeesDisk gives disk → IfSome disk (FindsOn place kept found)
    → (result : Result MountPlan StoreFault) → IfErr result (λ e. (e ≡ Memory) ⊎ IsUnlevel place.pages found.recovered e)
    → IfSome gives (λ g. IfErr result (λ e. ExplainsOrFails (store_cause e) (to_write_in (content_of (sector_of g)) place kept)))
own_refuses place kept found ring None disk sees finds result own = tt
own_refuses place kept found ring (Some g) None sees finds result own = absurd sees
own_refuses place kept found ring (Some g) (Some d) sees finds (Ok p) own = tt
own_refuses place kept found ring (Some g) (Some d) sees finds (Err e) (inl is) = subst (λ (f : StoreFault). ExplainsOrFails (store_cause f) (to_write_in (content_of (sector_of g)) place kept)) (sym is) tt
own_refuses place kept found ring (Some g) (Some d) sees finds (Err e) (inr un) = absurd (true≢false (sym (known_level place kept found ring d finds) ∙ un.unlevel))

-- and it answers `Broken` only where the disk isn't known
pub own_broken : (place : LogPlace) (kept : List Block) (found : ToWrite) → IsRingPlace place → (gives : Option (List (List ℕ))) (disk : Option Disk) → SeesDisk gives disk → IfSome disk (FindsOn place kept found)
    → (result : Result MountPlan StoreFault) → IfErr result (λ e. (e ≡ Memory) ⊎ IsUnlevel place.pages found.recovered e) → IfErr result (λ e. e ≡ Broken → gives ≡ None)
own_broken place kept found ring gives disk sees finds (Ok p) own = tt
own_broken place kept found ring None disk sees finds (Err e) own = λ is. refl
own_broken place kept found ring (Some g) None sees finds (Err e) own = absurd sees
own_broken place kept found ring (Some g) (Some d) sees finds (Err e) (inl memory) = λ is. absurd (let both = sym memory ∙ is in cc)
own_broken place kept found ring (Some g) (Some d) sees finds (Err e) (inr un) = absurd (true≢false (sym (known_level place kept found ring d finds) ∙ un.unlevel))

pub own_unfailed : (pages : ℕ) (found : Recovered) (e : StoreFault) → (e ≡ Memory) ⊎ IsUnlevel pages found e → e ≡ Fault → ⊥
own_unfailed pages found e (inl is) fault = memory_apart (sym is ∙ fault)
  where
    memory_apart : ◌≡◌ {A = StoreFault} Memory Fault → ⊥
    memory_apart h = cc
own_unfailed pages found e (inr un) fault = broken_apart (sym un.answer ∙ fault)
  where
    broken_apart : ◌≡◌ {A = StoreFault} Broken Fault → ⊥
    broken_apart h = cc

pub own_counts : (pages : ℕ) (found : Recovered) (before now moment : ℕ) (result : Result MountPlan StoreFault) → IfErr result (λ e. (e ≡ Memory) ⊎ IsUnlevel pages found e) → now ≡ before → CountsOnDevice count_cause before now moment result
own_counts pages found before now moment (Ok p) own same = same
own_counts pages found before now moment (Err Memory) own same = same
own_counts pages found before now moment (Err (Refused r)) own same = same
own_counts pages found before now moment (Err Broken) own same = same
own_counts pages found before now moment (Err Fault) own same = absurd (own_unfailed pages found Fault own refl)

pub own_never_fails : (pages : ℕ) (found : Recovered) (result : Result MountPlan StoreFault) → IfErr result (λ e. (e ≡ Memory) ⊎ IsUnlevel pages found e) → result ≡ Err Fault → ⊥
own_never_fails pages found result own is = own_unfailed pages found Fault (subst (λ (r : Result MountPlan StoreFault). IfErr r (λ e. (e ≡ Memory) ⊎ IsUnlevel pages found e)) is own) refl
