-- The next step of a store may be taken.
use Rattle.std.proofs.Common.{◌≡◌, ℕ, ◌≤◌, Bool, true, false, cond, List, [], ◌∷◌, length, Option, Some, None, refl, sym, ap, ◌∙◌, subst, arith}
use Rattle.std.specs.Prelude.{◌&&◌, ◌||◌, not, nat_le, IfSome, is_some}
use Rattle.area_laws.specs.disk_model.declared.block.Block.{Block}
use Rattle.store_claims.proofs.store_model.Told.{true≢false}
use Rattle.txn_model.specs.flush_policy.declared.facts.Facts.{Facts}
use Rattle.txn_model.specs.flush_policy.declared.facts.StoreStep.{StoreStep}
use Rattle.txn_model.specs.flush_policy.declared.facts.StoreStep.TheVariants.{SealPage, WritePage, SyncDevice, WriteOut, BeginCheckpoint, WriteRestart}
use Rattle.txn_model.specs.flush_policy.Choice.{next_step}
use Rattle.txn_model.specs.flush_policy.Steps.{MayTake}
use Rattle.txn_model.proofs.flush_policy.Steps.{may_be_taken}
use Rattle.txn_model.specs.Values.{StoreFacts}
use Rattle.txn_model.specs.Told.{AreLeft, FactsTold, KeepsSteps, MayTakeStep}
use Rattle.txn_laws.proofs.Syncs.{and_left}

-- where no blocks are left, no block is owed or due
none_left : (f : StoreFacts) (blocks : List Block) → length blocks ≡ 0 → AreLeft f blocks → (b : Block) → ((f.mark b).owed ≡ false) × ((f.mark b).due ≡ false)
none_left f [] none are b = by_marks (f.mark b).owed (f.mark b).due (are b)
  where
    by_marks : (owed due : Bool) → ◌≡◌ {A = ℕ} 0 (cond (owed || due) 1 0) → (owed ≡ false) × (due ≡ false)
    by_marks false false e = (refl, refl)
    by_marks true due e = absurd (omega (arith, e))
    by_marks false true e = absurd (omega (arith, e))
none_left f (c ∷ blocks) none are b = absurd (omega (arith, none))

not_some : {A : Type 0} (o : Option A) → is_some o ≡ false → o ≡ None
not_some None e = refl
not_some (Some x) e = absurd (true≢false e)

the_page : (o : Option ℕ) → is_some o ≡ true → (page : ℕ) × (o ≡ Some page)
the_page None e = absurd (true≢false (sym e))
the_page (Some page) e = (page, refl)

is_not : (v : Bool) → not v ≡ true → v ≡ false
is_not true e = absurd (true≢false (sym e))
is_not false e = refl

pub first_of : (a b c d : Bool) → (a && b && c && d) ≡ true → a ≡ true
first_of a b c d e = and_left a b (and_left (a && b) c (and_left (a && b && c) d e))

pub next_may_be_taken : (f : StoreFacts) (told : Facts) (step : StoreStep) → KeepsSteps f → FactsTold f told → f.is_open ≡ false → next_step told ≡ Some step → MayTakeStep f step
next_may_be_taken f told step keeps says closed e = by step (may_be_taken told step e)
  where
    by : (s : StoreStep) → MayTake told s → MayTakeStep f s
    by SealPage filling = sym says.filling ∙ filling
    by WritePage some = omega (arith, some, says.sealed)
    by SyncDevice any = tt
    by (WriteOut b) is =
        let ready = says.ready b is in
        (ready, keeps.kept b (first_of (f.mark b).dirty (not (is_some (f.before b))) (nat_le (f.mark b).commit f.durable) (nat_le (f.mark b).until f.log.synced) ready))
    by BeginCheckpoint (fresh, begun, synced) =
        let all = says.synced synced in
        (sym says.fresh ∙ fresh, not_noted all.unnamed (sym says.begun ∙ begun), all.unnamed)
      where
        not_noted : f.log.named ≡ None → (is_some f.noted && not (is_some f.log.named)) ≡ false → f.noted ≡ None
        not_noted unnamed e = not_some f.noted (by_named (is_some f.noted) (sym (ap (λ (o : Option ℕ). is_some f.noted && not (is_some o)) unnamed) ∙ e))
          where
            by_named : (v : Bool) → (v && not false) ≡ false → v ≡ false
            by_named true e = e
            by_named false e = refl
    by WriteRestart (begun, none, synced) =
        let all = says.synced synced.unsynced in
        let page = the_page f.noted (and_left (is_some f.noted) (not (is_some f.log.named)) (sym says.begun ∙ begun)) in
        let sealed : page.0 ≤ f.log.sealed = subst (λ (o : Option ℕ). IfSome o (λ n. n ≤ f.log.sealed)) page.1 keeps.noted in (
          page.0,
          record {
            noted = page.1;
            paid = none_left f says.left (omega (arith, says.noted_left, none)) says.are_left;
            durable = omega (arith, sealed, synced.sealed, says.sealed, all.pages);
            unnamed = all.unnamed;
          },
        )
