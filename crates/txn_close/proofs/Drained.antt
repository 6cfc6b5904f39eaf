-- What is left of a store once no step is left but those of checkpoints.
use Rattle.std.proofs.Common.{◌≡◌, subst, ℕ, ◌+◌, ◌<◌, Bool, true, false, cond, List, [], ◌∷◌, length, Option, Some, None, Ok, refl, sym, ap, ◌∙◌, arith}
use Rattle.std.specs.Prelude.{◌==◌, ◌||◌}
use Rattle.std.proofs.lemmas.Bool.Decides.{nat_tests}
use Rattle.disk_model.specs.declared.block.Block.{Block}
use Rattle.found_stays.specs.log_area.Areas.{LogAreaOf, is_filling, next_lsn}
use Rattle.flush_policy.specs.declared.facts.Facts.{Facts}
use Rattle.flush_policy.specs.declared.facts.StoreStep.{StoreStep}
use Rattle.flush_policy.specs.declared.facts.StoreStep.TheVariants.{SealPage, WritePage, SyncDevice, WriteOut, BeginCheckpoint, WriteRestart}
use Rattle.flush_policy.specs.Choice.{step_of_ring, step_of_blocks, next_step}
use Rattle.flush_policy.specs.Steps.{IsSynced, to_do}
use Rattle.store_model.proofs.Told.{true≢false}
use Rattle.found_stays.specs.txn_model.Values.{StoreFacts}
use Rattle.found_stays.specs.txn_model.Told.{FactsTold, IsAllSynced, AreDirty, KeepsMarked, KeepsSteps, MayTakeStep}
use Rattle.found_stays.specs.txn_state.States.{StateOf, facts_of}
use Rattle.found_stays.proofs.txn_laws.Choosing.{next_may_be_taken}
use Rattle.found_stays.proofs.txn_laws.Counting.{told_can_be}
use Rattle.found_stays.specs.device_blocks.declared.word.CheckWord.{CheckWord}
use Rattle.found_stays.specs.device_blocks.declared.word.CheckWord.TheVariants.{Unread, Missing, Stands, Sent}
use Rattle.found_stays.specs.txn_core.Calls.{out_facts, is_spelled}
use Rattle.found_stays.specs.txn_core.Kept.{IsKept}
use Rattle.found_stays.specs.txn_core.Leading.{dirty_blocks}
use Rattle.found_stays.specs.txn_core.Steps.{MayTurn, HasTurned}
use Rattle.found_stays.proofs.txn_core.AfterCalls.{out_log}
use Rattle.found_stays.proofs.txn_core.Leading.{steps_lead_on}
use Rattle.txn_close.specs.Rests.{draining, IsDrained}

zero_is : (n : ℕ) → (n == 0) ≡ true → n ≡ 0
zero_is n e = grind (arith, nat_tests, e)

-- ---- which step it is

-- what a store tells doesn't choose its step by the next LSN
abbrev pub with_next : ℕ → Facts → Facts
with_next n told = record told { next = n }

same_of_blocks : (o : Option Block) (told : Facts) (n : ℕ) → step_of_blocks o (with_next n told) ≡ step_of_blocks o told
unfolding step_of_blocks step_of_ring
same_of_blocks (Some b) told n = refl
same_of_blocks None told n = refl

pub same_next : (told : Facts) (n : ℕ) → next_step (with_next n told) ≡ next_step told
unfolding next_step
same_next told n = ap (λ (o : Option StoreStep). cond (told.sealed == 0) o (Some WritePage)) (same_of_blocks told.ready told n)

is_next : (o : Option StoreStep) (step : StoreStep) → draining o ≡ Some step → o ≡ Some step
is_next (Some SealPage) step is = is
is_next (Some WritePage) step is = is
is_next (Some SyncDevice) step is = is
is_next (Some (WriteOut b)) step is = is
is_next (Some BeginCheckpoint) step is = absurd cc
is_next (Some WriteRestart) step is = absurd cc
is_next None step is = absurd cc

-- the step may be taken
abbrev some_step : StoreStep → Option StoreStep → StoreStep
some_step d (Some x) = x
some_step d None = d

may_by : (f : StoreFacts) (step : StoreStep) → draining (Some step) ≡ Some step → MayTakeStep f step → MayTurn f step
may_by f SealPage is may = may
may_by f WritePage is may = may
may_by f SyncDevice is may = tt
may_by f (WriteOut b) is may = may.0
may_by f BeginCheckpoint is may = absurd cc
may_by f WriteRestart is may = absurd cc

pub may_turn : (f : StoreFacts) (told : Facts) (step : StoreStep) → KeepsSteps f → FactsTold f (with_next (next_lsn f.log 0x58) told) → f.is_open ≡ false → draining (next_step told) ≡ Some step → MayTurn f step
may_turn f told step keeps says closed is =
    let e = is_next (next_step told) step is in
    may_by f step (sym (ap draining e) ∙ is) (next_may_be_taken f (with_next (next_lsn f.log 0x58) told) step keeps says closed (same_next told (next_lsn f.log 0x58) ∙ e))

-- ---- what stays in a step

none_filled : (a : LogAreaOf) → is_filling a ≡ false → is_filling a ≡ true → {A : Type 0} → A
none_filled a none some = absurd (true≢false (sym some ∙ none))

-- nothing is open and no page is filled
pub record IsShut (f : StoreFacts) : Type 0 where
  pub closed : f.is_open ≡ false
  pub empty : is_filling f.log ≡ false

at_shut : (g h : StoreFacts) → g ≡ h → IsShut h → IsShut g
at_shut g h is shut = subst IsShut (sym is) shut

out_closed : (spells ok : Bool) (now : CheckWord) (b : Block) (f : StoreFacts) → (out_facts spells ok now b f).is_open ≡ f.is_open
out_closed true true now b f = refl
out_closed true false (Sent check) b f = refl
out_closed true false Unread b f = refl
out_closed true false Missing b f = refl
out_closed true false (Stands check) b f = refl
out_closed false true now b f = refl
out_closed false false now b f = refl

out_shut : (spells ok : Bool) (now : CheckWord) (b : Block) (f : StoreFacts) → IsShut f → IsShut (out_facts spells ok now b f)
out_shut spells ok now b f shut = record { closed = out_closed spells ok now b f ∙ shut.closed; empty = ap is_filling (out_log spells ok now b f).0 ∙ shut.empty }

shut_by : (step : StoreStep) (f g : StoreFacts) → draining (Some step) ≡ Some step → MayTurn f step → HasTurned step (Ok tt) f g → IsShut f → IsShut g
shut_by SealPage f g is may turned shut = none_filled f.log shut.empty may
shut_by WritePage f g is may turned shut = at_shut g _ turned (record { closed = shut.closed; empty = shut.empty })
shut_by SyncDevice f g is may turned shut = at_shut g _ turned (record { closed = shut.closed; empty = shut.empty })
shut_by (WriteOut b) f g is may turned shut = at_shut g _ turned.1 (out_shut (is_spelled f b) true turned.0 b f shut)
shut_by BeginCheckpoint f g is may turned shut = absurd cc
shut_by WriteRestart f g is may turned shut = absurd cc

pub stays_shut : (told : Facts) (step : StoreStep) (f g : StoreFacts) → draining (next_step told) ≡ Some step → MayTurn f step → HasTurned step (Ok tt) f g → IsShut f → IsShut g
stays_shut told step f g is may turned shut = shut_by step f g (sym (ap draining (is_next (next_step told) step is)) ∙ is) may turned shut

-- ---- less is left to do

pub less_to_do : (s t : StateOf) (told later : Facts) (step : StoreStep) → IsKept (facts_of s) → (facts_of s).is_open ≡ false → FactsTold (facts_of s) (with_next (next_lsn s.log 0x58) told) → FactsTold (facts_of t) (with_next (next_lsn t.log 0x58) later)
    → draining (next_step told) ≡ Some step → HasTurned step (Ok tt) (facts_of s) (facts_of t) → to_do (length (dirty_blocks t)) later < to_do (length (dirty_blocks s)) told
less_to_do s t told later step kept closed says now is turned =
    steps_lead_on.less (facts_of s) (facts_of t) (with_next (next_lsn s.log 0x58) told) (with_next (next_lsn t.log 0x58) later) step (dirty_blocks s) (dirty_blocks t) kept closed says now (steps_lead_on.dirty s) (steps_lead_on.dirty t)
    (same_next told (next_lsn s.log 0x58) ∙ is_next (next_step told) step is) turned

-- ---- nothing is left

-- where only steps of checkpoints are left, all that was written is durable, and no block is ready
record IsStill (told : Facts) : Type 0 where
  synced : IsSynced told
  none : told.ready ≡ None

still_blocks : (o : Option Block) (unsynced : Bool) (told : Facts) → told.sealed ≡ 0 → told.ready ≡ o → told.unsynced ≡ unsynced → draining (step_of_blocks o told) ≡ None → IsStill told
unfolding step_of_blocks
still_blocks (Some b) unsynced told sealed ready is none = absurd cc
still_blocks None true told sealed ready is none = absurd (let e = subst (λ (t : Bool). draining (cond t (Some SyncDevice) (step_of_ring told)) ≡ None) is none in cc)
still_blocks None false told sealed ready is none = record { synced = record { sealed = sealed; unsynced = is }; none = ready }

is_still : (told : Facts) → draining (next_step told) ≡ None → IsStill told
unfolding next_step
is_still told none = by (told.sealed == 0) refl none
  where
    by : (t : Bool) → (told.sealed == 0) ≡ t → draining (cond t (step_of_blocks told.ready told) (Some WritePage)) ≡ None → IsStill told
    by true e none = still_blocks told.ready told.unsynced told (zero_is told.sealed e) refl refl none
    by false e none = absurd cc

none_dirty : (f : StoreFacts) (dirty : List Block) → AreDirty f dirty → length dirty ≡ 0 → (b : Block) → (f.mark b).dirty ≡ false
none_dirty f [] are none b = by (f.mark b).dirty refl (are b)
  where
    by : (t : Bool) → (f.mark b).dirty ≡ t → ◌≡◌ {A = ℕ} 0 (cond (f.mark b).dirty 1 0) → (f.mark b).dirty ≡ false
    by true is count = absurd (let e = ap (λ (t : Bool). cond {A = ℕ} t 1 0) is in omega (arith, e, count))
    by false is count = is
none_dirty f (x ∷ xs) are none b = absurd (let e = none in omega (arith, e))

not_true : (t : Bool) → (t ≡ true → ⊥) → t ≡ false
not_true true is = absurd (is refl)
not_true false is = refl

or_none : (a b : Bool) → a ≡ false → b ≡ false → (a || b) ≡ true → ⊥
or_none true b one two is = true≢false one
or_none false true one two is = true≢false two
or_none false false one two is = true≢false (sym is)

pages_end_is : (a : LogAreaOf) → is_filling a ≡ false → ◌≡◌ {A = ℕ} (a.sealed + cond (is_filling a) 1 0) a.sealed
pages_end_is a empty = ap (λ (t : Bool). a.sealed + cond {A = ℕ} t 1 0) empty ∙ omega arith

module _ (f : StoreFacts) (told : Facts) (dirty : List Block) (kept : IsKept f) (marked : KeepsMarked f) (steps : KeepsSteps f) (says : FactsTold f (with_next (next_lsn f.log 0x58) told)) (are : AreDirty f dirty) (shut : IsShut f)
    (none : draining (next_step told) ≡ None) where
  still : IsStill told
  still = is_still told none

  all_synced : IsAllSynced f
  all_synced = says.synced still.synced.unsynced

  written : f.log.done ≡ f.log.sealed
  written = let zero = sym says.sealed ∙ still.synced.sealed in let le = kept.order.done_pages in omega (arith, zero, le)

  synced : f.log.synced ≡ f.log.sealed
  synced = sym all_synced.pages ∙ written

  clean : (b : Block) → (f.mark b).dirty ≡ false
  clean b =
      let can = told_can_be f (with_next (next_lsn f.log 0x58) told) dirty marked says are shut.closed in
      none_dirty f dirty are (can.waits (says.filling ∙ shut.empty) (record { sealed = still.synced.sealed; unsynced = still.synced.unsynced }) still.none) b

  alive : (b : Block) → (f.mark b).dead ≡ false
  alive b = not_true (f.mark b).dead (λ is. let k = marked.killed b is in let one = k.0 in let two = k.1 in let same = synced in let end = pages_end_is f.log shut.empty in omega (arith, one, two, same, end))

  pub is_drained : IsDrained f
  is_drained = record {
    closed = shut.closed;
    durable = marked.all shut.empty (let same = synced in omega (arith, same));
    empty = shut.empty;
    written = written;
    synced = synced;
    unnamed = all_synced.unnamed;
    plain = λ b. record {
      clean = clean b;
      alive = alive b;
      dry = all_synced.dry b;
      paid = not_true (f.mark b).owed (λ is. or_none (f.mark b).dirty (f.mark b).dead (clean b) (alive b) (marked.owed b is));
      past = not_true (f.mark b).due (λ is. true≢false (sym (marked.due b is) ∙ all_synced.dry b));
    };
    noted = steps.noted;
  }
