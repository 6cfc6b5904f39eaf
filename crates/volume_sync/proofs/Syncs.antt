-- The steps of a sync may be taken, and come to an end.
use Rattle.std.proofs.Common.{◌≡◌, subst, ℕ, ◌+◌, ◌-◌, ◌<◌, Bool, true, false, cond, List, Option, Some, None, Result, Ok, Err, refl, sym, ap, ◌∙◌, ◌⊎◌, inl, inr, arith}
use Rattle.std.specs.Prelude.{◌==◌}
use Rattle.std.proofs.lemmas.Bool.Decides.{nat_tests}
use Rattle.host_base.specs.declared.outside.Failed.{Failed}
use Rattle.sector_device.specs.Moments.{Changes}
use Rattle.log_area.specs.Areas.{is_filling}
use Rattle.flush_policy.specs.declared.facts.StoreStep.{StoreStep}
use Rattle.flush_policy.specs.declared.facts.StoreStep.TheVariants.{SealPage, WritePage, SyncDevice}
use Rattle.store_model.proofs.Told.{true≢false}
use Rattle.txn_model.specs.Values.{StoreFacts}
use Rattle.txn_model.specs.Calls.{sealed_facts, written_facts, synced_facts}
use Rattle.txn_state.specs.States.{facts_of}
use Rattle.volume_core.specs.txn_core.Kept.{IsKept}
use Rattle.volume_core.specs.txn_core.Steps.{MayTurn, HasTurned}
use Rattle.volume_core.specs.crash_trees.Mounting.{MountsAsOne}
use Rattle.volume_core.specs.Volumes.{SeenVolume}
use Rattle.volume_core.specs.Histories.{LeavesTrees}
use Rattle.volume_sync.specs.Syncs.{sync_step, to_sync, KeepsDirty, LeavesNewest}

eq_is : (n m : ℕ) → (n == m) ≡ true → n ≡ m
eq_is n m e = grind (arith, nat_tests, e)

ne_is : (n m : ℕ) → (n == m) ≡ false → n ≡ m → ⊥
ne_is n m e = grind (arith, nat_tests, e)

is_eq : (n m : ℕ) → n ≡ m → (n == m) ≡ true
is_eq n m e = grind (arith, nat_tests, e)

only : (a b : StoreStep) → Some a ≡ Some b → a ≡ b
only a b e = cc

-- the step by three tests
abbrev by_tests : (durable filling written : Bool) → Option StoreStep
by_tests durable filling written = cond durable None (cond filling (Some SealPage) (cond written (Some SyncDevice) (Some WritePage)))

abbrev left_by : (filling durable : Bool) → ℕ → ℕ
left_by filling durable n = cond {A = ℕ} filling 2 0 + n + cond {A = ℕ} durable 0 1

pub none_left : (f : StoreFacts) → sync_step f ≡ None → f.durable ≡ f.commits
none_left f is = by (f.durable == f.commits) refl (is_filling f.log) ((f.log.sealed - f.log.done) == 0) is
  where
    by : (a : Bool) → (f.durable == f.commits) ≡ a → (b c : Bool) → by_tests a b c ≡ None → f.durable ≡ f.commits
    by true e b c is = eq_is f.durable f.commits e
    by false e true c is = absurd cc
    by false e false true is = absurd cc
    by false e false false is = absurd cc

pub may_sync : (f : StoreFacts) (step : StoreStep) → sync_step f ≡ Some step → MayTurn f step
may_sync f step is = by (f.durable == f.commits) (is_filling f.log) refl ((f.log.sealed - f.log.done) == 0) refl is
  where
    by : (a b : Bool) → is_filling f.log ≡ b → (c : Bool) → ((f.log.sealed - f.log.done) == 0) ≡ c → by_tests a b c ≡ Some step → MayTurn f step
    by true b e c d is = absurd cc
    by false true e c d is = subst (λ (s : StoreStep). MayTurn f s) (only SealPage step is) e
    by false false e true d is = subst (λ (s : StoreStep). MayTurn f s) (only SyncDevice step is) tt
    by false false e false d is = subst (λ (s : StoreStep). MayTurn f s) (only WritePage step is) (let some = ne_is (f.log.sealed - f.log.done) 0 d in omega (arith, some))

less_sealed : (f : StoreFacts) → is_filling f.log ≡ true → to_sync (sealed_facts f) < to_sync f
less_sealed f e = subst (λ (t : Bool). to_sync (record f { log = cond t (record f.log { free = 0x40; sealed = f.log.sealed + 1 }) f.log }) < left_by t (f.durable == f.commits) (f.log.sealed - f.log.done)) (sym e) (omega arith)

less_written : (f : StoreFacts) → ((f.log.sealed - f.log.done) == 0) ≡ false → to_sync (written_facts f) < to_sync f
less_written f e = let some = ne_is (f.log.sealed - f.log.done) 0 e in omega (arith, some)

less_synced : (f : StoreFacts) → IsKept (synced_facts f) → (f.durable == f.commits) ≡ false → is_filling f.log ≡ false → ((f.log.sealed - f.log.done) == 0) ≡ true → to_sync (synced_facts f) < to_sync f
less_synced f kept undone empty written =
    let none = eq_is (f.log.sealed - f.log.done) 0 written in
    let end : f.log.sealed + cond {A = ℕ} (is_filling f.log) 1 0 ≡ f.log.sealed = ap (λ (t : Bool). f.log.sealed + cond {A = ℕ} t 1 0) empty ∙ omega arith in
    let all : ((synced_facts f).durable == f.commits) ≡ true = is_eq (synced_facts f).durable f.commits (kept.commits_are.all_durable (omega (arith, none, end))) in
    let now : to_sync (synced_facts f) ≡ 0 = ap (λ (t : Bool). left_by t ((synced_facts f).durable == f.commits) (f.log.sealed - f.log.done)) empty ∙ (ap (λ (t : Bool). left_by false t (f.log.sealed - f.log.done)) all ∙ omega (arith, none)) in
    let before : to_sync f ≡ left_by (is_filling f.log) false (f.log.sealed - f.log.done) = ap (λ (t : Bool). left_by (is_filling f.log) t (f.log.sealed - f.log.done)) undone in
    omega (arith, now, before)

pub less_left : (f g : StoreFacts) (step : StoreStep) → IsKept g → sync_step f ≡ Some step → HasTurned step (Ok tt) f g → to_sync g < to_sync f
less_left f g step kept is turned = by (f.durable == f.commits) refl (is_filling f.log) refl ((f.log.sealed - f.log.done) == 0) refl is
  where
    by : (a : Bool) → (f.durable == f.commits) ≡ a → (b : Bool) → is_filling f.log ≡ b → (c : Bool) → ((f.log.sealed - f.log.done) == 0) ≡ c → by_tests a b c ≡ Some step → to_sync g < to_sync f
    by true o b e c d is = absurd cc
    by false o true e c d is = subst (λ (h : StoreFacts). to_sync h < to_sync f) (sym (subst (λ (s : StoreStep). HasTurned s (Ok tt) f g) (sym (only SealPage step is)) turned).1) (less_sealed f e)
    by false o false e true d is =
        let now : g ≡ synced_facts f = subst (λ (s : StoreStep). HasTurned s (Ok tt) f g) (sym (only SyncDevice step is)) turned in
        subst (λ (h : StoreFacts). to_sync h < to_sync f) (sym now) (less_synced f (subst IsKept now kept) o e d)
    by false o false e false d is =
        let now : g ≡ written_facts f = subst (λ (s : StoreStep). HasTurned s (Ok tt) f g) (sym (only WritePage step is)) turned in
        subst (λ (h : StoreFacts). to_sync h < to_sync f) (sym now) (less_written f d)

dirty_by : (step : StoreStep) (result : Result (Unit {0}) Failed) (f g : StoreFacts) → (step ≡ SealPage) ⊎ ((step ≡ WritePage) ⊎ (step ≡ SyncDevice)) → HasTurned step result f g → KeepsDirty f g
dirty_by step result f g (inl is) turned b = ap (λ (h : StoreFacts). (h.mark b).dirty) (subst (λ (s : StoreStep). HasTurned s result f g) is turned).1
dirty_by step (Ok tt) f g (inr (inl is)) turned b = ap (λ (h : StoreFacts). (h.mark b).dirty) (subst (λ (s : StoreStep). HasTurned s (Ok tt) f g) is turned)
dirty_by step (Err e) f g (inr (inl is)) turned b = ap (λ (h : StoreFacts). (h.mark b).dirty) (subst (λ (s : StoreStep). HasTurned s (Err e) f g) is turned)
dirty_by step (Ok tt) f g (inr (inr is)) turned b = ap (λ (h : StoreFacts). (h.mark b).dirty) (subst (λ (s : StoreStep). HasTurned s (Ok tt) f g) is turned)
dirty_by step (Err e) f g (inr (inr is)) turned b = ap (λ (h : StoreFacts). (h.mark b).dirty) (subst (λ (s : StoreStep). HasTurned s (Err e) f g) is turned)

which_sync : (f : StoreFacts) (step : StoreStep) → sync_step f ≡ Some step → (step ≡ SealPage) ⊎ ((step ≡ WritePage) ⊎ (step ≡ SyncDevice))
which_sync f step is = by (f.durable == f.commits) (is_filling f.log) ((f.log.sealed - f.log.done) == 0) is
  where
    by : (a b c : Bool) → by_tests a b c ≡ Some step → (step ≡ SealPage) ⊎ ((step ≡ WritePage) ⊎ (step ≡ SyncDevice))
    by true b c is = absurd cc
    by false true c is = inl (sym (only SealPage step is))
    by false false true is = inr (inr (sym (only SyncDevice step is)))
    by false false false is = inr (inl (sym (only WritePage step is)))

-- no block is written out
pub dirty_stays : (h f g : StoreFacts) (step : StoreStep) (result : Result (Unit {0}) Failed) → sync_step f ≡ Some step → HasTurned step result f g → KeepsDirty h f → KeepsDirty h g
dirty_stays h f g step result is turned before b = dirty_by step result f g (which_sync f step is) turned b ∙ before b

-- where all is durable no step is taken
pub none_taken : (f : StoreFacts) (step : StoreStep) → sync_step f ≡ Some step → f.durable ≡ f.commits → ⊥
none_taken f step is all = by (f.durable == f.commits) (is_eq f.durable f.commits all) is
  where
    by : (a : Bool) → a ≡ true → by_tests a (is_filling f.log) ((f.log.sealed - f.log.done) == 0) ≡ Some step → ⊥
    by true e is = absurd cc
    by false e is = true≢false (sym e)

pub stays_idle : {D : Type 0} (old now new : SeenVolume D) (step : StoreStep) → sync_step (facts_of now.store.state) ≡ Some step → (old.store.state.durable ≡ old.store.state.commits → now ≡ old) → old.store.state.durable ≡ old.store.state.commits → new ≡ old
stays_idle {D} old now new step is same all = absurd (none_taken (facts_of now.store.state) step is (subst (λ (v : SeenVolume D). v.store.state.durable ≡ v.store.state.commits) (sym (same all)) all))

pub leaves_newest : {D : Type 0} (gives : D → Option (List (List ℕ))) (count : D → ℕ) (changes : D → Changes) (v : SeenVolume D) → v.store.state.durable ≡ v.store.state.commits → LeavesTrees gives count changes v → LeavesNewest gives count changes v
leaves_newest gives count changes v all leaves = record {
  left = λ first trees image h far left. subst (λ (n : ℕ). MountsAsOne trees n image) (none v.store.state.commits v.store.state.durable all) (leaves.left first trees image h far left);
}
  where
    none : (n m : ℕ) → m ≡ n → n - m ≡ 0
    none n m is = omega (arith, is)
