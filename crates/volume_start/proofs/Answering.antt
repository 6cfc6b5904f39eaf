-- What a start answers, by what both mounts do.
use Rattle.std.proofs.Common.{◌≡◌, ℕ, List, Option, Some, None, Result, Ok, Err, refl, ap, inl, inr}
use Rattle.std.specs.Prelude.{◌⊎◌, IfSome, IfOk, IfErr, IsErrOf}
use Rattle.host_base.specs.Answers.{ExplainsOrFails}
use Rattle.disk_model.specs.Sectors.{sector_of}
use Rattle.disk_model.specs.Content.{content_of}
use Rattle.log_recovery.specs.Writing.{to_write_in}
use Rattle.mounted_states.specs.volume_mount.declared.mounted.Mounted.{Mounted}
use Rattle.mounted_states.specs.volume_mount.Answers.{MountsAs}
use Rattle.mounted_states.specs.volume_mount.Mounts.{mounted_of}
use Rattle.txn_mount.specs.declared.fault.StoreFault.{StoreFault}
use Rattle.txn_mount.specs.declared.fault.StoreFault.TheVariants as stores
use Rattle.txn_mount.specs.Faults.{store_cause}
use Rattle.mounted_states.specs.safe_blocks.Safe.{MountsHoldStates}
use Rattle.volume_start.specs.declared.fault.StartFault.{StartFault}
use Rattle.volume_start.specs.declared.fault.StartFault.TheVariants.{Device, Memory, Unfit, Unknown}
use Rattle.volume_start.specs.declared.plan.StartPlan.{StartPlan}
use Rattle.volume_start.specs.Faults.{fault_of_store}
use Rattle.volume_start.specs.Fitting.{FitsStart}
use Rattle.volume_start.specs.Plans.{PlansFrom, PlansOn}
use Rattle.volume_start.specs.Starts.{UnfitAs, UnknownAs, IsUnfit}
use Rattle.volume_start.proofs.Meant.{found_meant, reads}

-- ---- refusals

not_ok : {A F : Type 0} (r : Result A F) (x : A) (e : F) → r ≡ Ok x → r ≡ Err e → ⊥
not_ok r x e is other = cc

-- the store's mount refuses nothing that the volume's took: on a known device it fails with that, or for want of memory
pub store_known : (law : MountsHoldStates) (first : List (List ℕ)) (plan : StartPlan) (count : ℕ) → FitsStart count plan.place → PlansOn first plan → (fault : StoreFault) → ExplainsOrFails (store_cause fault) (to_write_in (content_of (sector_of first)) plan.place plan.kept.items)
    → (fault_of_store fault ≡ Device) ⊎ (fault_of_store fault ≡ Memory)
store_known law first plan count fits on (stores.Refused r) is = absurd (not_ok (to_write_in (content_of (sector_of first)) plan.place plan.kept.items) (found_meant law first plan count fits on).meant.opened.state r (reads law first plan count fits on) is)
store_known law first plan count fits on stores.Fault is = inl refl
store_known law first plan count fits on stores.Memory is = inr refl
store_known law first plan count fits on stores.Broken is = absurd is

-- ---- a volume that can't be changed

pub unknown_on : (count : ℕ) (known : Option (List (List ℕ))) (mounted : Mounted) (r : Result StartPlan StartFault) → IfSome known (λ first. MountsAs (content_of (sector_of first)) (mounted_of first) (Ok mounted)) → (IsErrOf r Unknown → FitsStart count mounted.opening.place → ⊥)
    → IfSome known (λ first. IfErr r (UnknownAs count first))
unknown_on count None mounted r mounts unknown = tt
unknown_on count (Some first) mounted (Ok p) mounts unknown = tt
unknown_on count (Some first) mounted (Err e) mounts unknown = λ is. (mounted, mounts, unknown (ap (λ (x : StartFault). Err x) is))

-- a plan that isn't made of a mounted volume says it of that one
pub unfit_on : (known : Option (List (List ℕ))) (mounted : Mounted) (r : Result StartPlan StartFault) → IfSome known (λ first. MountsAs (content_of (sector_of first)) (mounted_of first) (Ok mounted)) → (IsErrOf r Unfit → IsUnfit mounted)
    → IfSome known (λ first. IfErr r (UnfitAs first))
unfit_on None mounted r mounts unfit = tt
unfit_on (Some first) mounted (Ok p) mounts unfit = tt
unfit_on (Some first) mounted (Err e) mounts unfit = λ is. (mounted, mounts, unfit (ap (λ (x : StartFault). Err x) is))

-- ---- answers

-- what is in memory is of what was mounted
pub plans_on : (known : Option (List (List ℕ))) (mounted : Mounted) (r : Result StartPlan StartFault) → IfSome known (λ first. MountsAs (content_of (sector_of first)) (mounted_of first) (Ok mounted)) → IfOk r (PlansFrom mounted) → IfSome known (λ first. IfOk r (PlansOn first))
plans_on None mounted r mounts plan = tt
plans_on (Some first) mounted (Ok p) mounts plan = record { mounted = mounted; mounts = mounts; of = plan }
plans_on (Some first) mounted (Err e) mounts plan = tt
