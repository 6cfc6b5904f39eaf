-- The loop over a list of changes: what is left leads where all of them lead.
use Rattle.std.proofs.Common.{◌≡◌, subst, ℕ, suc, ◌+◌, ◌^◌, ◌<◌, ◌≤◌, List, [], ◌∷◌, length, drop, get_or, Option, Result, Ok, Err, refl, sym, ap, ◌∙◌, inl, inr, arith}
use Rattle.std.proofs.Math.Seq.{drop-cons}
use Rattle.std.proofs.lemmas.List.{drop_all}
use Rattle.disk_model.specs.declared.block.Change.{Change}
use Rattle.sector_device.specs.Moments.{Changes}
use Rattle.turn_laws.specs.store_claims.Windows.{StoreWindow}
use Rattle.turn_laws.specs.txn_model.Values.{StoreFacts}
use Rattle.turn_laws.specs.txn_model.Calls.{given_up_facts}
use Rattle.turn_laws.specs.txn_state.States.{IsStore}
use Rattle.turn_laws.specs.txn_laws.Windows.{Simulates, AfterChange, AfterGiveUp}
use Rattle.turn_laws.specs.txn_log.Laws.{PagesAreEnough}
use Rattle.turn_laws.specs.txn_core.declared.fault.ChangeFault.{ChangeFault}
use Rattle.turn_laws.specs.txn_core.Changes.{MayChangeNow, HasChanged}
use Rattle.state_store.specs.Windows.{LeadsTo, AfterLogged, AfterStop, AfterLogging}
use Rattle.state_store.specs.Logging.{MayLogAll, ChangedBy, StoppedBy, HasLogged}
use Rattle.state_store.proofs.Logged.{may_change_first, may_log_rest}
use Rattle.state_store.proofs.Windowed.{leads_by, leads_other, leads_weaker, leads_joined, logging_more, stops, logs_none}

-- What is left of the changes may be made, and whatever comes of it comes of all of them.
pub record GoesOn (gives : Option (List (List ℕ))) (changes : Changes) (f g : StoreFacts) (all rest : List Change) : Type 0 where
  pub may : MayLogAll gives g rest
  pub done : (result : Result (Unit {0}) ChangeFault) (h : StoreFacts) → HasLogged result gives rest g h → HasLogged result gives all f h
  pub windows : (result : Result (Unit {0}) ChangeFault) (h : StoreFacts) → LeadsTo changes g h (AfterLogging result rest) → LeadsTo changes f h (AfterLogging result all)

pub goes_at_first : (gives : Option (List (List ℕ))) (changes : Changes) (f : StoreFacts) (all : List Change) → MayLogAll gives f all → GoesOn gives changes f f all all
goes_at_first gives changes f all may = record { may = may; done = λ result h is. is; windows = λ result h is. is }

-- the next one is this one
pub goes_at : (gives : Option (List (List ℕ))) (changes : Changes) (f g : StoreFacts) (all : List Change) (k : ℕ) (x : Change) → k < length all → x ≡ get_or all k x → GoesOn gives changes f g all (drop k all) → GoesOn gives changes f g all (x ∷ drop (k + 1) all)
goes_at gives changes f g all k x lt is goes = subst (λ (xs : List Change). GoesOn gives changes f g all xs) there goes
  where
    there : drop k all ≡ x ∷ drop (k + 1) all
    there = (let more : suc k ≡ k + 1 = omega arith in drop-cons all k x lt ∙ ap (λ (y : Change). y ∷ drop (suc k) all) (sym is) ∙ ap (λ (j : ℕ). x ∷ drop j all) more)

logged_more : (result : Result (Unit {0}) ChangeFault) (gives : Option (List (List ℕ))) (x : Change) (xs : List Change) (g h k : StoreFacts) → HasChanged (Ok tt) gives g h x.block x.offset x.new → HasLogged result gives xs h k → HasLogged result gives (x ∷ xs) g k
logged_more (Ok tt) gives x xs g h k changed more = (changed.0, changed.1, subst (λ (y : StoreFacts). ChangedBy gives xs y k) changed.2 more)
logged_more (Err e) gives x xs g h k changed more = inr (changed.0, changed.1, subst (λ (y : StoreFacts). StoppedBy gives xs y k) changed.2 more)

pub goes_more : (gives : Option (List (List ℕ))) (changes : Changes) (f g h : StoreFacts) (all : List Change) (x : Change) (xs : List Change) → PagesAreEnough → x.block.first < 2 ^ 64 → IsStore h → HasChanged (Ok tt) gives g h x.block x.offset x.new
    → LeadsTo changes g h (AfterChange x.block x.offset x.new) → GoesOn gives changes f g all (x ∷ xs) → GoesOn gives changes f h all xs
goes_more gives changes f g h all x xs enough near store changed leads goes = record {
  may = subst (λ (y : StoreFacts). MayLogAll gives y xs) (sym changed.2) (may_log_rest gives g x xs changed.0 enough (subst IsStore changed.2 store) near changed.1 goes.may);
  done = λ result k is. goes.done result k (logged_more result gives x xs g h k changed is);
  windows = λ result k is. goes.windows result k (leads_joined changes g h k (AfterChange x.block x.offset x.new) (AfterLogging result xs) (AfterLogging result (x ∷ xs)) (λ w u v has one two. logging_more result x xs w u v one two) leads is);
}

-- one of them failed
pub goes_badly : (gives : Option (List (List ℕ))) (changes : Changes) (f g h : StoreFacts) (all : List Change) (x : Change) (xs : List Change) (fault : ChangeFault) → h ≡ given_up_facts g → LeadsTo changes g h AfterGiveUp → GoesOn gives changes f g all (x ∷ xs)
    → StoppedBy gives all f h × LeadsTo changes f h (AfterStop all)
goes_badly gives changes f g h all x xs fault is leads goes = (
  goes.done (Err fault) h (inl is),
  goes.windows (Err fault) h (leads_weaker changes g h AfterGiveUp (AfterStop (x ∷ xs)) (λ w v has after. stops (x ∷ xs) w v after) leads),
)

-- none is left
pub goes_to_end : (gives : Option (List (List ℕ))) (changes : Changes) (f g : StoreFacts) (all : List Change) → GoesOn gives changes f g all [] → ChangedBy gives all f g × LeadsTo changes f g (AfterLogged all)
goes_to_end gives changes f g all goes = (goes.done (Ok tt) g refl, goes.windows (Ok tt) g (logs_none changes g))

-- ---- as the loop has them

pub may_here : (given now : Option (List (List ℕ))) (changes : Changes) (f g : StoreFacts) (all : List Change) (k : ℕ) (x : Change) (bytes : List ℕ) → PagesAreEnough → now ≡ given → IsStore g → x.block.first < 2 ^ 64 → bytes ≡ x.new → k < length all → x ≡ get_or all k x
    → GoesOn given changes f g all (drop k all) → MayChangeNow now g x.block x.offset bytes
may_here given now changes f g all k x bytes enough same store near is lt item goes =
    subst (λ (o : Option (List (List ℕ))). MayChangeNow o g x.block x.offset bytes) (sym same)
    (subst (λ (bs : List ℕ). MayChangeNow given g x.block x.offset bs) (sym is) (may_change_first given g x (drop (k + 1) all) enough store near (goes_at given changes f g all k x lt item goes).may))

leads_here : (changes here after : Changes) (count moment : ℕ) (g h : StoreFacts) (After : StoreWindow → StoreWindow → Type 0) → here ≡ changes → after ≡ here → Simulates count moment here after g h After → LeadsTo changes g h After
leads_here changes here after count moment g h After same stays step = leads_other changes here g h After same (leads_by count moment here after g h After stays step)

pub goes_here : (given now : Option (List (List ℕ))) (changes here after : Changes) (count moment : ℕ) (f g h : StoreFacts) (all : List Change) (k : ℕ) (x : Change) (bytes : List ℕ) → PagesAreEnough → now ≡ given → here ≡ changes → after ≡ here → IsStore h → x.block.first < 2 ^ 64
    → bytes ≡ x.new → k < length all → x ≡ get_or all k x → HasChanged (Ok tt) now g h x.block x.offset bytes → Simulates count moment here after g h (AfterChange x.block x.offset bytes) → GoesOn given changes f g all (drop k all) → GoesOn given changes f h all (drop (k + 1) all)
goes_here given now changes here after count moment f g h all k x bytes enough same at_first stays store near is lt item changed step goes =
    goes_more given changes f g h all x (drop (k + 1) all) enough near store
    (subst (λ (o : Option (List (List ℕ))). HasChanged (Ok tt) o g h x.block x.offset x.new) same (subst (λ (bs : List ℕ). HasChanged (Ok tt) now g h x.block x.offset bs) is changed))
    (leads_here changes here after count moment g h (AfterChange x.block x.offset x.new) at_first stays (subst (λ (bs : List ℕ). Simulates count moment here after g h (AfterChange x.block x.offset bs)) is step))
    (goes_at given changes f g all k x lt item goes)

pub stops_here : (given : Option (List (List ℕ))) (changes here after : Changes) (count moment : ℕ) (f g h : StoreFacts) (all : List Change) (k : ℕ) (x : Change) (fault : ChangeFault) → here ≡ changes → after ≡ here → k < length all → x ≡ get_or all k x → h ≡ given_up_facts g
    → Simulates count moment here after g h AfterGiveUp → GoesOn given changes f g all (drop k all) → StoppedBy given all f h × LeadsTo changes f h (AfterStop all)
stops_here given changes here after count moment f g h all k x fault at_first stays lt item is step goes =
    goes_badly given changes f g h all x (drop (k + 1) all) fault is (leads_here changes here after count moment g h AfterGiveUp at_first stays step) (goes_at given changes f g all k x lt item goes)

pub ends_here : (given : Option (List (List ℕ))) (changes : Changes) (f g : StoreFacts) (all : List Change) (k : ℕ) → length all ≤ k → GoesOn given changes f g all (drop k all) → ChangedBy given all f g × LeadsTo changes f g (AfterLogged all)
ends_here given changes f g all k past goes = goes_to_end given changes f g all (subst (λ (xs : List Change). GoesOn given changes f g all xs) (drop_all k all past) goes)
