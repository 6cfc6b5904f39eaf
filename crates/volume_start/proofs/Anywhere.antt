-- What is so behind a start on any device.
use Rattle.std.proofs.Common.{◌≡◌, ℕ, ◌^◌, ◌<◌, ◌≤◌, List, [], ◌∷◌, Option, Some, None, Ok, refl, sym, ap, subst, ◌∙◌, arith}
use Rattle.std.specs.Option.{option_map}
use Rattle.sector_device.specs.Disks.{Disk, SeesDisk}
use Rattle.sector_device.specs.Moments.{Changes}
use Rattle.log_page.specs.declared.places.LogPlace.{LogPlace}
use Rattle.log_reading.specs.Rings.{IsRingPlace}
use Rattle.log_recovery.specs.declared.found.RecoveredBlock.{RecoveredBlock}
use Rattle.log_recovery.specs.LogStates.{LogState}
use Rattle.log_recovery.specs.Writing.{state_with}
use Rattle.txn_model.specs.Values.{StoreFacts}
use Rattle.txn_state.specs.States.{StateOf, facts_of}
use Rattle.txn_mount.specs.Calls.{PutsBack, PutsAll, SyncsDevice}
use Rattle.txn_mount.specs.Laws.{MountsAs}
use Rattle.txn_mount.specs.Mounts.{IsMounted}
use Rattle.txn_mount.specs.Plans.{items_by}
use Rattle.volume_start.specs.declared.plan.StartPlan.{StartPlan}
use Rattle.volume_start.specs.Fitting.{FitsStart}
use Rattle.volume_start.specs.Starts.{BeginsAnywhere}

-- ---- a disk that isn't known

-- what a change makes of a disk that isn't known isn't known
abbrev StaysUnknown : Changes → Changes → Type 0
StaysUnknown old new = old.disk ≡ None → new.disk ≡ None

changed : (old new : Changes) (change : Disk → Disk) → new.disk ≡ option_map change old.disk → StaysUnknown old new
changed old new change is none = is ∙ ap (option_map change) none

module _ {D : Type 0} (gives : D → Option (List (List ℕ))) (changes : D → Changes) (moment : D → ℕ) where
  put_back : (r : RecoveredBlock) (old new : D) → PutsBack gives changes moment r (Ok tt) old new → StaysUnknown (changes old) (changes new)
  put_back r old new puts = changed (changes old) (changes new) _ puts.put.ok.1.put.sends.writes.ok

  synced : (old new : D) → SyncsDevice changes moment (Ok tt) old new → StaysUnknown (changes old) (changes new)
  synced old new syncs = changed (changes old) (changes new) _ syncs.syncs.ok

  put_all : (rs : List RecoveredBlock) (old new : D) → PutsAll gives changes moment rs (Ok tt) old new → StaysUnknown (changes old) (changes new)
  put_all [] old new same none = ap (λ (d : D). (changes d).disk) same ∙ none
  put_all (r ∷ rs) old new (mid, put, rest) none = put_all rs mid new rest (put_back r old mid put none)

  mounted : (place : LogPlace) (state : LogState) (rs : List RecoveredBlock) (old new : D) → MountsAs gives changes moment place state rs (Ok tt) old new → StaysUnknown (changes old) (changes new)
  mounted place state rs old new (put, puts, (behind, first, (named, sent, last))) none =
      synced named new last (changed (changes behind) (changes named) _ sent.1.sends.writes.ok (synced put behind first (put_all rs old put puts none)))

  none_given : (known : Option (List (List ℕ))) (o : Option Disk) → SeesDisk known o → known ≡ None → o ≡ None
  none_given None None sees is = refl
  none_given None (Some d) sees is = absurd sees
  none_given (Some x) o sees is = absurd cc

  none_seen : (known : Option (List (List ℕ))) (o : Option Disk) → SeesDisk known o → o ≡ None → known ≡ None
  none_seen None o sees is = refl
  none_seen (Some x) None sees is = absurd sees
  none_seen (Some x) (Some d) sees is = absurd cc

-- ---- a store behind its mount

module _ {D : Type 0} (gives : D → Option (List (List ℕ))) (count : D → ℕ) (changes : D → Changes) (faults moment : D → ℕ) (sees : (d : D) → SeesDisk (gives d) (changes d).disk) (few : (d : D) → count d < 2 ^ 55) where
  pub begins_anywhere : (old new : D) (plan : StartPlan) (state : StateOf) → FitsStart (count old) plan.place → IsMounted gives count changes faults moment plan.place plan.kept.items old new (facts_of state) → BeginsAnywhere (gives old) (gives new) state
  begins_anywhere old new plan state fits mounts =
      let place_is : state.place ≡ plan.place = ap (λ (f : StoreFacts). f.place) mounts.start in
      let inside : state.place.device ≤ count old = subst (λ (p : LogPlace). p.device ≤ count old) (sym place_is) fits.inside in
      let most = few old in
      record {
        closed = ap (λ (f : StoreFacts). f.is_open) mounts.start;
        ring = subst IsRingPlace (sym place_is) fits.ring;
        near = omega (arith, inside, most);
        unknown = λ none.
            none_seen gives changes moment (gives new) (changes new).disk (sees new)
            (mounted gives changes moment plan.place (state_with mounts.calls.list mounts.found.recovered) (items_by mounts.found mounts.calls.keys) mounts.calls.mid new mounts.calls.writes (ap (λ (x : Changes). x.disk) mounts.calls.reads.unchanged ∙ none_given gives changes moment (gives old) (changes old).disk (sees old) none));
      }
