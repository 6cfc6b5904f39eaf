-- What is always so of a store stays so in each call.
use Rattle.std.proofs.Common.{◌≡◌, subst, ℕ, Bool, true, false, cond, List, Option, Some, None, Result, Ok, Err, refl, sym, ap, ◌∙◌, arith}
use Rattle.std.specs.Prelude.{IfSome, OnOk, OnErr, is_some, ◌||◌}
use Rattle.std.specs.Option.{option_or}
use Rattle.host_base.specs.declared.outside.Failed.{Failed}
use Rattle.device_blocks.specs.disk_model.declared.block.Block.{Block}
use Rattle.device_blocks.specs.disk_model.declared.block.Body.{Body}
use Rattle.txn_laws.specs.sector_device.Moments.{Changes}
use Rattle.txn_laws.specs.log_page.declared.places.LogPlace.{LogPlace}
use Rattle.txn_laws.specs.store_claims.Windows.{StoreWindow}
use Rattle.txn_laws.specs.block_pool.Pools.{held}
use Rattle.txn_laws.specs.txn_model.Values.{StoreFacts}
use Rattle.txn_laws.specs.txn_model.Calls.{given_up_facts, is_buried, written_facts, synced_facts}
use Rattle.txn_state.specs.States.{StateOf, facts_of, IsStore}
use Rattle.txn_laws.specs.Windows.{HasMachineAs, SimulatesAs}
use Rattle.txn_laws.proofs.Telling.{keeps, machine_ends}
use Rattle.device_blocks.specs.declared.word.CheckWord.{CheckWord}
use Rattle.device_blocks.specs.Words.{IsFitWord}
use Rattle.txn_core.specs.Kept.{IsKept}
use Rattle.txn_core.specs.Calls.{page_facts, sync_facts}
use Rattle.txn_core.specs.Seen.{Seen, StandsOnAs, StandsOn, EndsOn, TakesStepAs}

-- ---- from the fields to what contracts see

pub step_of : {ends : Bool} {D : Type 0} (count moment : D → ℕ) (changes : D → Changes) (After : Seen D → StoreWindow → StoreWindow → Type 0) (old seen new : Seen D) (g : StoreFacts) → old ≡ seen → facts_of new.state ≡ g
    → SimulatesAs ends (count old.device) (moment old.device) (changes old.device) (changes new.device) (facts_of old.state) g (After old) → TakesStepAs ends count moment changes (After seen) seen new
step_of {ends} {D} count moment changes After old seen new g is facts step =
    subst (λ (s : Seen D). TakesStepAs ends count moment changes (After s) s new) is
    (subst (λ (h : StoreFacts). SimulatesAs ends (count old.device) (moment old.device) (changes old.device) (changes new.device) (facts_of old.state) h (After old)) (sym facts) step)

pub facts_seen : {D : Type 0} (after : StoreFacts → StoreFacts) (old seen : Seen D) (new : StateOf) → old ≡ seen → facts_of new ≡ after (facts_of old.state) → facts_of new ≡ after (facts_of seen.state)
facts_seen {D} after old seen new is facts = facts ∙ ap (λ (s : Seen D). after (facts_of s.state)) is

-- ---- what is always so

pub stands_after : {ends : Bool} (count later moment : ℕ) (old now : Changes) (before after : StateOf) (words left : List (Block × CheckWord)) (g : StoreFacts) (After : StoreWindow → StoreWindow → Type 0)
    → later ≡ count → StandsOnAs ends count old before words → facts_of after ≡ g → SimulatesAs ends count moment old now (facts_of before) g After → IsKept g
    → ((b : Block) → is_some (g.body b) ≡ true → is_some (held left b) ≡ true) → ((b : Block) → IfSome (held left b) IsFitWord) → StandsOnAs ends later now after left
stands_after {ends} count later moment old now before after words left g After same stands facts step kept worded fit =
    let device : (facts_of after).place.device ≡ (facts_of before).place.device = ap (λ (f : StoreFacts). f.place.device) facts ∙ ap (λ (p : LogPlace). p.device) step.place in
    let inside = stands.place in
    record {
      place = omega (arith, device, inside, same);
      kept = subst IsKept (sym facts) kept;
      worded = λ b h. worded b (ap (λ (f : StoreFacts). is_some (f.body b)) (sym facts) ∙ h);
      fit = fit;
      machine = subst (λ (f : StoreFacts). HasMachineAs ends now f) (sym facts) (keeps count moment old now (facts_of before) g After step stands.machine);
    }

-- a give-up brings back bodies of blocks that have one
pub given_up_worded : (f : StoreFacts) (words : List (Block × CheckWord)) → IsStore f → ((b : Block) → is_some (f.body b) ≡ true → is_some (held words b) ≡ true)
    → (b : Block) → is_some ((given_up_facts f).body b) ≡ true → is_some (held words b) ≡ true
given_up_worded f words store worded b is = worded b (by_before (f.before b) (f.body b) (λ h. store.blocks.kept b ∙ ap (λ (v : Bool). v || (f.mark b).dead) (store.blocks.changed b h)) is)
  where
    by_before : (o p : Option Body) → (is_some o ≡ true → is_some p ≡ true) → is_some (option_or o p) ≡ true → is_some p ≡ true
    by_before (Some x) p has is = has refl
    by_before None p has is = is

pub page_result : (result : Result (Unit {0}) Failed) (old new : StateOf) → OnOk result (facts_of new ≡ written_facts (facts_of old)) → OnErr result (new ≡ record old { log = record old.log { check = new.log.check } })
    → facts_of new ≡ page_facts result new.log.check (facts_of old)
page_result (Ok tt) old new ok err = ok
page_result (Err fault) old new ok err = ap facts_of err

pub page_worded : (result : Result (Unit {0}) Failed) (check : Option ℕ) (f : StoreFacts) (b : Block) → is_some ((page_facts result check f).body b) ≡ true → is_some (f.body b) ≡ true
page_worded (Ok tt) check f b is = is
page_worded (Err fault) check f b is = is

pub sync_result : (result : Result (Unit {0}) Failed) (old new : StateOf) → OnOk result (facts_of new ≡ synced_facts (facts_of old)) → OnErr result (new ≡ old) → facts_of new ≡ sync_facts result (facts_of old)
sync_result (Ok tt) old new ok err = ok
sync_result (Err fault) old new ok err = ap facts_of err

pub sync_worded : (result : Result (Unit {0}) Failed) (f : StoreFacts) (b : Block) → is_some ((sync_facts result f).body b) ≡ true → is_some (f.body b) ≡ true
sync_worded (Ok tt) f b is = kept (is_buried f.log.done (f.mark b)) (f.body b) is
  where
    kept : (v : Bool) (o : Option Body) → is_some (cond v None o) ≡ true → is_some o ≡ true
    kept true o is = absurd cc
    kept false o is = is
sync_worded (Err fault) f b is = is

-- what reads alone leaves it
pub read_stands : (count later : ℕ) (old now : Changes) (state : StateOf) (words : List (Block × CheckWord)) → later ≡ count → now ≡ old → StandsOn count old state words → StandsOn later now state words
read_stands count later old now state words same unchanged stands = record {
  place = (let inside = stands.place in omega (arith, inside, same));
  kept = stands.kept;
  worded = stands.worded;
  fit = stands.fit;
  machine = subst (λ (c : Changes). HasMachineAs false c (facts_of state)) (sym unchanged) stands.machine;
}

-- a store that goes on is one that ends
pub stands_ends : (count : ℕ) (changes : Changes) (state : StateOf) (words : List (Block × CheckWord)) → StandsOn count changes state words → EndsOn count changes state words
stands_ends count changes state words stands = record { place = stands.place; kept = stands.kept; worded = stands.worded; fit = stands.fit; machine = machine_ends changes (facts_of state) stands.machine }
