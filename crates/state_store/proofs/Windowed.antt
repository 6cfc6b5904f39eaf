-- The window of a store after changes in a transaction.
use Rattle.std.proofs.Common.{◌≡◌, subst, ℕ, suc, ◌*◌, ◌≤◌, Bool, true, false, cond, List, [], ◌∷◌, Result, Ok, Err, refl, sym, ap, ◌∙◌, arith}
use mathlib.Core.Path.{fun_ext}
use Rattle.disk_model.specs.declared.block.Block.{Block}
use Rattle.disk_model.specs.declared.block.Change.{Change}
use Rattle.disk_model.specs.Bytes.{written}
use Rattle.disk_model.specs.Content.{Content}
use Rattle.disk_model.specs.Sectors.{sectors, same_block}
use Rattle.disk_model.proofs.Frames.{same_block-is}
use Rattle.sector_device.specs.Disks.{Disk}
use Rattle.sector_device.specs.Moments.{Changes}
use Rattle.log_model.specs.declared.entry.Entry.{Entry}
use Rattle.turn_laws.specs.store_model.Logs.{AllBytes, back, undone, has_update}
use Rattle.turn_laws.specs.store_model.Stores.{Store, Window, member}
use Rattle.turn_laws.specs.store_model.Volumes.{window_of, first_bytes}
use Rattle.turn_laws.specs.store_claims.Windows.{StoreWindow, store_window}
use Rattle.turn_laws.specs.txn_model.Values.{StoreFacts}
use Rattle.turn_laws.specs.txn_laws.Standing.{StandsBehind}
use Rattle.turn_laws.specs.txn_laws.Windows.{HasWindow, Simulates, AfterBegin, AfterChange, AfterCommit, AfterGiveUp}
use Rattle.turn_laws.proofs.txn_laws.Memory.{undone_none}
use Rattle.turn_laws.specs.txn_state.States.{facts_of}
use Rattle.turn_laws.specs.txn_core.Seen.{Seen, TakesStep}
use Rattle.state_store.specs.Windows.{changed_content, changed_by, LeadsTo, AfterLogged, AfterStop, AfterLogging, AfterPut, StaysWindow}
use Rattle.state_store.proofs.Lists.{body_with, same_body}
use Rattle.state_store.proofs.Claiming.{logged_claims, none_logged, stopped_claims, given_up_claims, put_claims, left_claims}

-- ---- one call

pub leads_by : (count moment : ℕ) (old now : Changes) (f g : StoreFacts) (After : StoreWindow → StoreWindow → Type 0) → now ≡ old → Simulates count moment old now f g After → LeadsTo old f g After
leads_by count moment old now f g After same s = λ w has. (let x = s.steps w has in (x.0, subst (λ (c : Changes). HasWindow c g x.0) same x.1, x.2))

pub leads_other : (old now : Changes) (f g : StoreFacts) (After : StoreWindow → StoreWindow → Type 0) → now ≡ old → LeadsTo now f g After → LeadsTo old f g After
leads_other old now f g After same s = subst (λ (c : Changes). LeadsTo c f g After) same s

pub leads_weaker : (changes : Changes) (f g : StoreFacts) (After Behind : StoreWindow → StoreWindow → Type 0) → ((w v : StoreWindow) → HasWindow changes f w → After w v → Behind w v) → LeadsTo changes f g After → LeadsTo changes f g Behind
leads_weaker changes f g After Behind weaker s = λ w has. (let x = s w has in (x.0, x.1, weaker w x.0 has x.2))

pub leads_joined : (changes : Changes) (f g h : StoreFacts) (One Two Both : StoreWindow → StoreWindow → Type 0) → ((w u v : StoreWindow) → HasWindow changes f w → One w u → Two u v → Both w v) → LeadsTo changes f g One → LeadsTo changes g h Two → LeadsTo changes f h Both
leads_joined changes f g h One Two Both joined one two = λ w has. (let x = one w has in let y = two x.0 x.1 in (y.0, y.1, joined w x.0 y.0 has x.2 y.2))

-- ---- changes

changed_present : (x : Change) (w u : StoreWindow) → AfterChange x.block x.offset x.new w u → u.present ≡ changed_content x w.present
unfolding body_with
changed_present x w u after = fun_ext (λ b. by b (same_block b x.block) refl)
  where
    by : (b : Block) (t : Bool) → same_block b x.block ≡ t → u.present b ≡ cond t (body_with (written x.offset x.new (w.present b).bytes) false) (w.present b)
    by b true is =
        subst (λ (c : Block). u.present c ≡ body_with (written x.offset x.new (w.present c).bytes) false) (sym (same_block-is b x.block is))
        (same_body (u.present x.block) (body_with (written x.offset x.new (w.present x.block).bytes) false) after.bytes after.torn)
    by b false is = after.elsewhere b is

logged_more : (x : Change) (xs : List Change) (w u v : StoreWindow) → AfterChange x.block x.offset x.new w u → AfterLogged xs u v → AfterLogged (x ∷ xs) w v
logged_more x xs w u v one two = record {
  present = λ b. two.present b ∙ ap (λ (c : Content). changed_by xs c b) (changed_present x w u one);
  waiting = two.waiting ∙ one.waiting;
  others = λ k le b. (let waits = one.waiting in two.others k (omega (arith, le, waits)) b ∙ one.others k (omega (arith, le, waits)) b);
  claimed = logged_claims x xs w.claimed u.claimed v.claimed one.claimed two.claimed;
}

stopped_more : (x : Change) (xs : List Change) (w u v : StoreWindow) → AfterChange x.block x.offset x.new w u → AfterStop xs u v → AfterStop (x ∷ xs) w v
stopped_more x xs w u v one two = record {
  claimed = stopped_claims x xs w.claimed u.claimed v.claimed one.claimed two.claimed;
  present = λ b. two.present b ∙ one.others 0 (omega arith) b;
  waiting = two.waiting ∙ one.waiting;
  is_open = two.is_open;
  others = λ k le b. (let waits = one.waiting in two.others k (omega (arith, le, waits)) b ∙ one.others k (omega (arith, le, waits)) b);
}

pub logging_more : {E : Type 0} (result : Result (Unit {0}) E) (x : Change) (xs : List Change) (w u v : StoreWindow) → AfterChange x.block x.offset x.new w u → AfterLogging result xs u v → AfterLogging result (x ∷ xs) w v
logging_more (Ok tt) x xs w u v one two = logged_more x xs w u v one two
logging_more (Err e) x xs w u v one two = stopped_more x xs w u v one two

pub stops : (xs : List Change) (w v : StoreWindow) → AfterGiveUp w v → AfterStop xs w v
stops xs w v after = record { present = after.present; waiting = after.waiting; is_open = after.is_open; others = λ k le b. after.others k b; claimed = given_up_claims xs w.claimed v.claimed after.claimed }

pub logs_none : (changes : Changes) (f : StoreFacts) → LeadsTo changes f f (AfterLogged [])
logs_none changes f = λ w has. (w, has, record { present = λ b. refl; waiting = refl; others = λ k le b. refl; claimed = none_logged w.claimed })

-- ---- the newest content is the present one, where no transaction is open

back_none : (ws : List (List Entry)) (bytes : AllBytes) → back ws 0 bytes ≡ bytes
back_none [] bytes = refl
back_none (us ∷ ws) bytes = refl

newest_of : (m : Window) (b : Block) → m.draft ≡ [] → m.was_torn 0 b ≡ m.is_torn b → (window_of m).before 0 b ≡ (window_of m).present b
unfolding body_with
newest_of m b none even =
    let quiet : has_update m.draft b ≡ false = ap (λ (us : List Entry). has_update us b) none in
    let bytes : member m 0 b ≡ m.body b = ap (λ (c : AllBytes). c b) (back_none m.waiting (undone m.draft m.body)) ∙ undone_none m.draft m.body b quiet in
    same_body ((window_of m).before 0 b) ((window_of m).present b) (ap (first_bytes (512 * sectors b.kind)) bytes) even

pub newest_is_present : (changes : Changes) (f : StoreFacts) (w : StoreWindow) → HasWindow changes f w → f.is_open ≡ false → (b : Block) → w.before 0 b ≡ w.present b
newest_is_present changes f w has closed b = behind has.0 has.2 has.3 has.4
  where
    behind : (disk : Disk) (m : Store) → StandsBehind f disk m → store_window m ≡ w → w.before 0 b ≡ w.present b
    behind disk m h is =
        let none = h.sound.closed (h.window.is_open ∙ closed) in
        let even = h.sound.even b (ap (λ (us : List Entry). has_update us b) none) in
        subst (λ (v : StoreWindow). v.before 0 b ≡ v.present b) is (newest_of m.window b none even)

-- ---- a whole transaction

pub put_whole : (xs : List Change) (w u x v : StoreWindow) → AfterBegin w u → AfterLogged xs u x → AfterCommit x v → AfterPut xs w v
put_whole xs w u x v begun logged committed = record {
  present = λ b. ap (λ (c : Content). c b) committed.present ∙ logged.present b ∙ ap (λ (z : StoreWindow). changed_by xs z.present b) begun.same;
  newest = λ b. committed.newest b ∙ ap (λ (c : Content). c b) (sym committed.present);
  others = λ k le b. committed.others k b ∙ logged.others k (subst (λ (z : StoreWindow). k ≤ z.waiting) (sym begun.same) le) b ∙ ap (λ (z : StoreWindow). z.before k b) begun.same;
  waiting = committed.waiting ∙ ap suc (logged.waiting ∙ ap (λ (z : StoreWindow). z.waiting) begun.same);
  is_open = committed.is_open;
  claimed = put_claims xs w.claimed u.claimed x.claimed v.claimed (ap (λ (z : StoreWindow). z.claimed) begun.same) begun.will logged.claimed committed.claimed;
}

pub stays_whole : (xs : List Change) (w u v : StoreWindow) → ((b : Block) → w.before 0 b ≡ w.present b) → AfterBegin w u → AfterStop xs u v → StaysWindow xs w v
stays_whole xs w u v newest begun stopped = record {
  claimed = left_claims xs w.claimed u.claimed v.claimed (ap (λ (z : StoreWindow). z.claimed) begun.same) stopped.claimed;
  present = λ b. stopped.present b ∙ ap (λ (z : StoreWindow). z.before 0 b) begun.same ∙ newest b;
  others = λ k le b. stopped.others k (subst (λ (z : StoreWindow). k ≤ z.waiting) (sym begun.same) le) b ∙ ap (λ (z : StoreWindow). z.before k b) begun.same;
  waiting = stopped.waiting ∙ ap (λ (z : StoreWindow). z.waiting) begun.same;
  is_open = stopped.is_open;
}

-- the three of them, as calls leave them
pub put_by : {D : Type 0} (count moment : D → ℕ) (changes : D → Changes) (xs : List Change) (old begun done new : Seen D) → begun.device ≡ old.device → changes done.device ≡ changes begun.device → new.device ≡ done.device
    → TakesStep count moment changes AfterBegin old begun → LeadsTo (changes begun.device) (facts_of begun.state) (facts_of done.state) (AfterLogged xs) → TakesStep count moment changes AfterCommit done new
    → LeadsTo (changes old.device) (facts_of old.state) (facts_of new.state) (AfterPut xs)
put_by {D} count moment changes xs old begun done new one two three begins logs commits =
    let first = ap changes one in
    let last = ap changes three in
    let base = leads_by (count old.device) (moment old.device) (changes old.device) (changes begun.device) (facts_of old.state) (facts_of begun.state) AfterBegin first begins in
    let middle = leads_other (changes old.device) (changes begun.device) (facts_of begun.state) (facts_of done.state) (AfterLogged xs) first logs in
    let top = leads_other (changes old.device) (changes done.device) (facts_of done.state) (facts_of new.state) AfterCommit (two ∙ first) (leads_by (count done.device) (moment done.device) (changes done.device) (changes new.device) (facts_of done.state) (facts_of new.state) AfterCommit last commits) in
    λ w has. (
    let u = base w has in
    let x = middle u.0 u.1 in
    let v = top x.0 x.1 in
    (v.0, v.1, put_whole xs w u.0 x.0 v.0 u.2 x.2 v.2)
    )

pub stays_by : {D : Type 0} (count moment : D → ℕ) (changes : D → Changes) (xs : List Change) (old begun new : Seen D) → old.state.is_open ≡ false → begun.device ≡ old.device
    → TakesStep count moment changes AfterBegin old begun → LeadsTo (changes begun.device) (facts_of begun.state) (facts_of new.state) (AfterStop xs)
    → LeadsTo (changes old.device) (facts_of old.state) (facts_of new.state) (StaysWindow xs)
stays_by {D} count moment changes xs old begun new closed one begins stops_now =
    let first = ap changes one in
    let base = leads_by (count old.device) (moment old.device) (changes old.device) (changes begun.device) (facts_of old.state) (facts_of begun.state) AfterBegin first begins in
    let top = leads_other (changes old.device) (changes begun.device) (facts_of begun.state) (facts_of new.state) (AfterStop xs) first stops_now in
    λ w has. (
    let u = base w has in
    let v = top u.0 u.1 in
    (v.0, v.1, stays_whole xs w u.0 v.0 (newest_is_present (changes old.device) (facts_of old.state) w has closed) u.2 v.2)
    )
