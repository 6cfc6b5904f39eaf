-- What an error of a start says and counts, by the calls before it.
use Rattle.std.proofs.Common.{◌≡◌, ℕ, ◌≤◌, List, Option, Result, Ok, Err, refl, sym, ap, subst, ◌∙◌, inl, inr, arith}
use Rattle.std.specs.Prelude.{◌≢◌, ◌⊎◌, IfSome, IfOk, IfErr, IsErrOf}
use Rattle.host_base.specs.Causes.{HasFailed}
use Rattle.host_base.proofs.Known.{one, always}
use Rattle.disk_model.specs.declared.block.Block.{Block}
use Rattle.sector_device.specs.Moments.{Changes, LeftSince}
use Rattle.device_view.specs.Devices.{KeepsDevice, CountsCauseOnDevice, CountsOnDevice}
use Rattle.log_page.specs.declared.places.LogPlace.{LogPlace}
use Rattle.mounted_states.specs.map_change.Parts.{MapParts}
use Rattle.file_puts.specs.declared.streams.VolumeStreams.{VolumeStreams}
use Rattle.txn_state.specs.States.{StateOf}
use Rattle.txn_mount.specs.declared.fault.StoreFault.{StoreFault}
use Rattle.txn_mount.specs.declared.fault.StoreFault.TheVariants as stores
use Rattle.txn_mount.specs.Faults.{count_cause as store_counts}
use Rattle.txn_mount.specs.Mounts.{StopsMount}
use Rattle.volume_start.specs.declared.fault.StartFault.{StartFault}
use Rattle.volume_start.specs.declared.fault.StartFault.TheVariants.{Refused, Device, Memory, Unfit, Unknown}
use Rattle.volume_start.specs.declared.plan.StartPlan.{StartPlan}
use Rattle.volume_start.specs.Faults.{fault_of_store, count_cause, cause_of}
use Rattle.volume_start.specs.Starts.{StartsOn, BeginsAnywhere, RefusesAs, UnfitAs, UnknownAs, IsUnwritten, FailsBehind, FailsStart}

-- ---- what is counted

-- an error of the store's mount counts what it did
pub counts_store : (why : StoreFault) (e : StartFault) (before now moment : ℕ) → e ≡ fault_of_store why → CountsCauseOnDevice before now moment (store_counts why) → CountsCauseOnDevice before now moment (count_cause e)
counts_store why e before now moment is counts = subst (λ (x : StartFault). CountsCauseOnDevice before now moment (count_cause x)) (sym is) (by why counts)
  where
    by : (w : StoreFault) → CountsCauseOnDevice before now moment (store_counts w) → CountsCauseOnDevice before now moment (count_cause (fault_of_store w))
    by (stores.Refused r) same = same
    by stores.Fault same = same
    by stores.Memory same = same
    by stores.Broken same = same

-- since an earlier count that is the same
pub counts_since : {M D : Type 0} (r : Result M (StartFault × D)) (before mid now moment : ℕ) → mid ≡ before → CountsOnDevice cause_of mid now moment r → CountsOnDevice cause_of before now moment r
counts_since r before mid now moment same counts = subst (λ (n : ℕ). CountsOnDevice cause_of n now moment r) same counts

-- ---- answers

pub ok_more : {A E : Type 0} (r : Result A E) (P Q : A → Type 0) → ((x : A) → P x → Q x) → IfOk r P → IfOk r Q
ok_more (Ok x) P Q more is = more x is
ok_more (Err e) P Q more is = tt

pub err_more : {A E : Type 0} (r : Result A E) (P Q : E → Type 0) → ((e : E) → P e → Q e) → IfErr r P → IfErr r Q
err_more (Ok x) P Q more is = tt
err_more (Err e) P Q more is = more e is

-- a failure of the device is one of the store's mount
pub store_fails : (fault : StoreFault) → fault_of_store fault ≡ Device → fault ≡ stores.Fault
store_fails stores.Fault is = refl
store_fails (stores.Refused r) is = absurd cc
store_fails stores.Memory is = absurd cc
store_fails stores.Broken is = absurd cc

failed_since : (before mid now moment : ℕ) → before ≤ mid → HasFailed mid now moment → HasFailed before now moment
failed_since before mid now moment le (inl rose) = inl (omega (arith, le, rose))
failed_since before mid now moment le (inr last) = inr last

-- a failure or want of memory is nothing else
none_refused : (first : List (List ℕ)) (e : StartFault) → (e ≡ Device) ⊎ (e ≡ Memory) → RefusesAs first e
none_refused first e (inl is) refusal same = (let not : Device ≡ Refused refusal = sym is ∙ same in absurd cc)
none_refused first e (inr is) refusal same = (let not : Memory ≡ Refused refusal = sym is ∙ same in absurd cc)

none_unfit : (first : List (List ℕ)) (e : StartFault) → (e ≡ Device) ⊎ (e ≡ Memory) → UnfitAs first e
none_unfit first e (inl is) same = (let not : Device ≡ Unfit = sym is ∙ same in absurd cc)
none_unfit first e (inr is) same = (let not : Memory ≡ Unfit = sym is ∙ same in absurd cc)

none_unknown : (count : ℕ) (first : List (List ℕ)) (e : StartFault) → (e ≡ Device) ⊎ (e ≡ Memory) → UnknownAs count first e
none_unknown count first e (inl is) same = (let not : Device ≡ Unknown = sym is ∙ same in absurd cc)
none_unknown count first e (inr is) same = (let not : Memory ≡ Unknown = sym is ∙ same in absurd cc)

module _ {D : Type 0} (gives : D → Option (List (List ℕ))) (count : D → ℕ) (changes : D → Changes) (faults moment : D → ℕ) where
  -- ---- nothing was written

  -- to a device that was only read
  pub keeps_unwritten : (old new : D) → KeepsDevice gives count changes faults moment old new → IsUnwritten gives count changes faults moment old new
  keeps_unwritten old new kept = record {
    same = kept.same;
    sectors = kept.sectors;
    writes = ap (λ (c : Changes). c.writes) kept.unchanged;
    left = λ n t image before left. subst (λ (c : Changes). LeftSince n c t image) kept.unchanged left;
    later = kept.later;
    onwards = kept.onwards;
  }

  pub unwritten_both : (old mid new : D) → IsUnwritten gives count changes faults moment old mid → IsUnwritten gives count changes faults moment mid new → IsUnwritten gives count changes faults moment old new
  unwritten_both old mid new first then = record {
    same = then.same ∙ first.same;
    sectors = then.sectors ∙ first.sectors;
    writes = then.writes ∙ first.writes;
    left = λ n t image before left. first.left n t image before (then.left n t image (omega (arith, before, first.onwards)) left);
    later = omega (arith, first.later, then.later);
    onwards = omega (arith, first.onwards, then.onwards);
  }

  -- of a store's mount that fails in no call of the device
  store_reads : (place : LogPlace) (kept : List Block) (why : StoreFault) (e : StartFault) (old new : D) → e ≡ fault_of_store why → StopsMount gives count changes faults moment place kept why old new → e ≢ Device → KeepsDevice gives count changes faults moment old new
  store_reads place kept why e old new same (inl keeps) other = keeps
  store_reads place kept why e old new same (inr (is, _, _, _)) other = absurd (other (same ∙ ap fault_of_store is))

  -- ---- errors

  -- of the store's mount
  pub store_stops : (place : LogPlace) (kept : List Block) (why : StoreFault) (e : StartFault) (old new : D) → e ≡ fault_of_store why → StopsMount gives count changes faults moment place kept why old new
      → (why ≡ stores.Fault → HasFailed (faults old) (faults new) (moment new)) → IfSome (gives old) (λ first. (fault_of_store why ≡ Device) ⊎ (fault_of_store why ≡ Memory)) → FailsBehind gives count changes faults moment old (e, new)
  store_stops place kept why e old new same stops fault known = record {
    fault = λ is. fault (store_fails why (sym same ∙ is));
    unwritten = λ other. keeps_unwritten old new (store_reads place kept why e old new same stops other);
    known = one (gives old) (λ first. (fault_of_store why ≡ Device) ⊎ (fault_of_store why ≡ Memory)) (λ first. (e ≡ Device) ⊎ (e ≡ Memory)) (λ first said. subst (λ (x : StartFault). (x ≡ Device) ⊎ (x ≡ Memory)) (sym same) said) known;
  }

  -- of a sync
  pub sync_stops : (old new : D) → HasFailed (faults old) (faults new) (moment new) → FailsBehind gives count changes faults moment old (Device, new)
  sync_stops old new failed = record { fault = λ is. failed; unwritten = λ other. absurd (other refl); known = always (gives old) (λ first. (Device ≡ Device) ⊎ (Device ≡ Memory)) (λ first. inl refl) }

  -- behind a device to which nothing was written
  pub fails_since : (old mid : D) (e : StartFault × D) → IsUnwritten gives count changes faults moment old mid → FailsBehind gives count changes faults moment mid e → FailsBehind gives count changes faults moment old e
  fails_since old mid e unwritten fails = record {
    fault = λ is. failed_since (faults old) (faults mid) (faults e.1) (moment e.1) unwritten.later (fails.fault is);
    unwritten = λ other. unwritten_both old mid e.1 unwritten (fails.unwritten other);
    known = subst (λ (o : Option (List (List ℕ))). IfSome o (λ first. (e.0 ≡ Device) ⊎ (e.0 ≡ Memory))) unwritten.same fails.known;
  }

  -- behind what was only read
  pub fails_start : (old mid : D) (e : StartFault × D) → KeepsDevice gives count changes faults moment old mid → FailsBehind gives count changes faults moment mid e → FailsStart gives count changes faults moment old e
  fails_start old mid e kept behind =
      let fails = fails_since old mid e (keeps_unwritten old mid kept) behind in
      record {
        fault = fails.fault;
        refused = one (gives old) (λ first. (e.0 ≡ Device) ⊎ (e.0 ≡ Memory)) (λ first. RefusesAs first e.0) (λ first is. none_refused first e.0 is) fails.known;
        unknown = one (gives old) (λ first. (e.0 ≡ Device) ⊎ (e.0 ≡ Memory)) (λ first. UnknownAs (count old) first e.0) (λ first is. none_unknown (count old) first e.0 is) fails.known;
        unfit = one (gives old) (λ first. (e.0 ≡ Device) ⊎ (e.0 ≡ Memory)) (λ first. UnfitAs first e.0) (λ first is. none_unfit first e.0 is) fails.known;
        unwritten = fails.unwritten;
        read = one (gives old) (λ first. (e.0 ≡ Device) ⊎ (e.0 ≡ Memory)) (λ first. e.0 ≢ Device → e.0 ≢ Memory → KeepsDevice gives count changes faults moment old e.1) (λ first is other none. absurd (neither e.0 is other none)) fails.known;
      }
    where
      neither : (x : StartFault) → (x ≡ Device) ⊎ (x ≡ Memory) → x ≢ Device → x ≢ Memory → ⊥
      neither x (inl is) other none = other is
      neither x (inr is) other none = none is

  -- where it is the whole
  pub read_fails : (old new : D) (fault : StartFault) → KeepsDevice gives count changes faults moment old new → (IsErrOf {T = StartPlan} (Err fault) Device → HasFailed (faults old) (faults new) (moment new)) → IfSome (gives old) (λ first. RefusesAs first fault) → IfSome (gives old) (λ first. UnknownAs (count old) first fault)
      → IfSome (gives old) (λ first. UnfitAs first fault) → FailsStart gives count changes faults moment old (fault, new)
  read_fails old new fault kept failed refused unknown unfit = record {
    fault = λ is. failed (ap (λ (x : StartFault). Err x) is);
    refused = refused;
    unknown = unknown;
    unfit = unfit;
    unwritten = λ other. keeps_unwritten old new kept;
    read = always (gives old) (λ first. fault ≢ Device → fault ≢ Memory → KeepsDevice gives count changes faults moment old new) (λ first other none. kept);
  }

  -- ---- what was started

  pub starts_behind : (old mid new : D) (state : StateOf) (p : MapParts) (table : List ℕ) (s : VolumeStreams) → gives mid ≡ gives old → StartsOn gives count changes mid new state p table s → StartsOn gives count changes old new state p table s
  starts_behind old mid new state p table s same starts first known = starts first (same ∙ known)

  pub anywhere_behind : (old mid new : D) (state : StateOf) → gives mid ≡ gives old → BeginsAnywhere (gives mid) (gives new) state → BeginsAnywhere (gives old) (gives new) state
  anywhere_behind old mid new state same begins = subst (λ (o : Option (List (List ℕ))). BeginsAnywhere o (gives new) state) same begins
