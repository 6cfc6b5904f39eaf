-- A checkpoint begins, and ends by a restart page.
use Rattle.std.proofs.Common.{◌≡◌, subst, ℕ, ◌+◌, ◌-◌, ◌*◌, ◌/◌, ◌%◌, ◌^◌, ◌<◌, ◌≤◌, Bool, true, false, cond, List, Option, Some, None, Result, Ok, Err, refl, sym, ap, ap₂, ◌∙◌, arith}
use Rattle.std.specs.Prelude.{IfSome, OnOk, OnErr, is_some, unwrap_or}
use Rattle.std.proofs.Math.Nat.{div-lt_iff_lt-mul, lt-mul-div-succ}
use Rattle.std.proofs.lemmas.Nat.{div-add-mod'}
use Rattle.host_base.specs.declared.outside.Failed.{Failed}
use Rattle.device_blocks.specs.fixup_record.Protecting.{protected_bytes}
use Rattle.txn_laws.specs.sector_device.Disks.{IsSized, SeesDisk}
use Rattle.txn_laws.specs.sector_device.Moments.{Changes}
use Rattle.txn_laws.specs.log_page.declared.restart.Restart.{Restart}
use Rattle.txn_laws.specs.log_page.Places.{sequence_bits, lsn_at, lap_of, page_of, is_in_ring}
use Rattle.txn_laws.specs.log_page.Restarts.{restart_spelling}
use Rattle.device_blocks.specs.log_area.declared.restart.SentRestart.{SentRestart}
use Rattle.device_blocks.specs.log_area.Areas.{LogAreaOf, is_filling, ring_size, lap_at, fits, next_number, number_of, IsOldest, restart_sector, sent_word, page_to_send, named_area}
use Rattle.device_blocks.specs.log_area.Calls.{SentOrAsked, IsSentOrNot}
use Rattle.txn_laws.specs.ring_laws.Numbers.{LogSession, lsn_of_page}
use Rattle.txn_laws.proofs.ring_laws.Numbering.{says_lap, says_page, says_ring}
use Rattle.txn_laws.specs.txn_model.Values.{StoreFacts}
use Rattle.txn_laws.specs.txn_model.Calls.{noted_facts, front_lsn}
use Rattle.txn_state.specs.States.{StateOf, facts_of, IsStore}
use Rattle.txn_laws.specs.Windows.{SimulatesAs, Simulates, AfterWrite}
use Rattle.txn_laws.specs.txn_model.Told.{pages_end}
use Rattle.txn_laws.specs.Laws.{MayEndCheckpoint, MayClose}
use Rattle.txn_laws.proofs.Telling.{in_memory}
use Rattle.txn_laws.proofs.Noting.{notes}
use Rattle.txn_laws.proofs.Naming.{names_page, fails_to_name}
use Rattle.txn_core.specs.declared.telling.Telling.{Telling}
use Rattle.txn_core.specs.Kept.{IsKept}
use Rattle.txn_core.specs.Tells.{TellsFront, LeavesOpen, IsTold}
use Rattle.txn_core.specs.Turns.{MayRestart, IsLast, restart_page, restart_facts}
use Rattle.txn_core.proofs.Calling.{asked_step}
use Rattle.txn_core.proofs.Tellings.{named_front, sent_front}

pub note_step : (count moment : ℕ) (changes : Changes) (f : StoreFacts) → f.is_open ≡ false → f.noted ≡ None → Simulates count moment changes changes f (noted_facts f) AfterWrite
note_step count moment changes f closed none = in_memory count moment changes f _ _ refl refl (λ disk m is h. notes f disk m closed none h)

-- no restart page was sent where no checkpoint has begun
pub none_sent : (f : StoreFacts) (t : Telling) → f.noted ≡ None → IsTold f t → (noted_facts f).log.sent ≡ None
none_sent f t none told = same_sent (is_filling f.log) ∙ by f.log.sent told.front.sent
  where
    same_sent : (v : Bool) → (cond v (record f.log { free = 0x40; sealed = f.log.sealed + 1 }) f.log).sent ≡ f.log.sent
    same_sent true = refl
    same_sent false = refl

    by : (o : Option SentRestart) → IfSome o (λ x. (is_some f.noted ≡ true) × (x.page.oldest ≡ t.front)) → o ≡ None
    by (Some x) is = absurd (let e = ap (λ (n : Option ℕ). is_some n) none in let h = is.0 in cc)
    by None is = refl

-- ---- the place that is noted

module _ (f : StoreFacts) (kept : IsKept f) (store : IsStore f) (may : MayRestart f) where
  abbrev named : ℕ
  named = may.0.0

  abbrev a : LogAreaOf
  a = f.log

  abbrev lsn : ℕ
  lsn = front_lsn f.log named

  noted_is : f.noted ≡ Some named
  noted_is = may.0.1.noted

  pub page_is : unwrap_or f.noted 0 ≡ named
  page_is = ap (λ (o : Option ℕ). unwrap_or o 0) noted_is

  from : f.log.oldest ≤ named
  from = subst (λ (o : Option ℕ). IfSome o (λ n. f.log.oldest ≤ n)) noted_is kept.order.notes_page

  upto : named ≤ f.log.synced
  upto = may.0.1.durable

  abbrev s : LogSession
  s = record { place = f.place; lap = f.log.lap }

  pages : a.pages ≡ f.place.pages
  pages = store.on_log.pages_are

  has : 4 < f.place.pages
  has = subst (λ (n : ℕ). 4 < n) pages kept.order.pages_some

  small : 4096 * f.place.pages < 2 ^ 64
  small = let few = subst (λ (n : ℕ). n < 2 ^ 52) pages kept.order.pages_few in omega arith

  first : lsn ≡ lsn_of_page s named
  first = ap (λ (p : ℕ). lsn_at p (a.lap + named / (p - 4)) (4096 * (4 + named % (p - 4)) + 0x40)) pages

  lap_is : lap_of a.pages lsn ≡ a.lap + named / ring_size a
  lap_is = ap₂ lap_of pages first ∙ says_lap s has small named ∙ ap (λ (p : ℕ). a.lap + named / (p - 4)) (sym pages)

  there_is : page_of a.pages lsn ≡ 4 + named % ring_size a
  there_is = ap₂ page_of pages first ∙ says_page s has small named ∙ ap (λ (p : ℕ). 4 + named % (p - 4)) (sym pages)

  number_is : number_of a lsn ≡ named
  number_is =
      ap₂ (λ (l : ℕ) (p : ℕ). (l - a.lap) * ring_size a + (p - 4)) lap_is there_is
      ∙ ap₂ (λ (l : ℕ) (p : ℕ). l * ring_size a + p) (let e : a.lap + named / ring_size a - a.lap ≡ named / ring_size a = omega arith in e) (let e : 4 + named % ring_size a - 4 ≡ named % ring_size a = omega arith in e)
      ∙ div-add-mod' named (ring_size a)

  pub noted_number : f.noted ≡ Some (number_of f.log lsn)
  noted_number = noted_is ∙ ap (λ (n : ℕ). Some n) (sym number_is)

  pub front_oldest : IsOldest f.log lsn
  front_oldest =
      let lap = lap_is in
      let number = number_is in
      record {
        inside = ap₂ is_in_ring pages first ∙ says_ring s has small named;
        lap = omega arith;
        from = omega (arith, number, from);
        upto = omega (arith, number, upto);
      }

  -- its lap is at most that of the next entry
  own_lap : lap_at f.log named < 2 ^ sequence_bits f.log.pages
  own_lap =
      let size = ring_size a in
      let full : 0 < size = omega (arith, kept.order.pages_some) in
      let le : named ≤ next_number a 0x58 = omega (arith, upto, kept.order.synced_pages, kept.order.done_pages, by_fit (fits a 0x58)) in
      let lt : next_number a 0x58 < size * (next_number a 0x58 / size + 1) = lt-mul-div-succ (next_number a 0x58) full in
      let below : named < (next_number a 0x58 / size + 1) * size = omega arith in
      let q : named / size < next_number a 0x58 / size + 1 = (div-lt_iff_lt-mul full).1 below in
      omega (arith, may.1.lap)
    where
      by_fit : (t : Bool) → a.sealed ≤ cond t a.sealed (a.sealed + 1)
      by_fit true = omega arith
      by_fit false = omega arith

  -- a store ends by a page that says so, where no page stands from the noted one on
  pub may_close : (clean : Bool) → (clean ≡ true → IsLast f) → MayClose clean f named clean
  may_close clean last is = (is, subst (λ (o : Option ℕ). IfSome o (λ page. pages_end f ≤ page)) noted_is (last is))

  module _ (front : ℕ) (told : TellsFront f.log f.noted front) where
    pub front_is : front ≡ lsn
    front_is = (subst (λ (o : Option ℕ). IfSome o (λ n. lap_at f.log n < 2 ^ sequence_bits f.log.pages → front ≡ front_lsn f.log n)) noted_is told.page) own_lap

    sent_names : (o : Option SentRestart) → IfSome o (λ x. (is_some f.noted ≡ true) × (x.page.oldest ≡ front)) → IfSome o (λ x. x.page.oldest ≡ lsn)
    sent_names (Some x) is = is.1 ∙ front_is
    sent_names None is = tt

    pub may_end : MayEndCheckpoint f named
    may_end = record { may = may.0.1; again = sent_names f.log.sent told.sent; lap = may.1.lap; opens = may.1.opens }

    pub may_send : (flag : Bool) → IfSome f.log.sent (λ x. x.page.clean ≡ flag) → IfSome f.log.sent (λ x. (x.page.oldest ≡ front) × (x.page.clean ≡ flag))
    may_send flag flags = by_sent f.log.sent told.sent flags
      where
        by_sent : (o : Option SentRestart) → IfSome o (λ x. (is_some f.noted ≡ true) × (x.page.oldest ≡ front)) → IfSome o (λ x. x.page.clean ≡ flag) → IfSome o (λ x. (x.page.oldest ≡ front) × (x.page.clean ≡ flag))
        by_sent (Some x) one two = (one.1, two)
        by_sent None one two = tt

    pub front_named : IsOldest f.log front
    front_named = subst (λ (n : ℕ). IsOldest f.log n) (sym front_is) front_oldest

-- ---- what is sent

-- the page is the same with the flag that it had
pub same_page : (a : LogAreaOf) (oldest : ℕ) (clean flag : Bool) → IfSome a.sent (λ x. x.page.clean ≡ flag) → (a.sent ≡ None → flag ≡ clean) → page_to_send a oldest flag ≡ page_to_send a oldest clean
same_page a oldest clean flag kept fresh = by_sent a.sent refl
  where
    by_sent : (o : Option SentRestart) → a.sent ≡ o → page_to_send a oldest flag ≡ page_to_send a oldest clean
    by_sent (Some x) is = ap (λ (o : Option SentRestart). page_to_send (record a { sent = o }) oldest flag) is ∙ sym (ap (λ (o : Option SentRestart). page_to_send (record a { sent = o }) oldest clean) is)
    by_sent None is = ap (λ (v : Bool). page_to_send a oldest v) (fresh is)

-- the page that is sent, where the place that it names has this LSN
pub page_sent : (f : StoreFacts) (front : ℕ) (clean flag : Bool) → front ≡ front_lsn f.log (unwrap_or f.noted 0) → IfSome f.log.sent (λ x. x.page.clean ≡ flag) → (f.log.sent ≡ None → flag ≡ clean) → page_to_send f.log front flag ≡ restart_page clean f
page_sent f front clean flag is kept fresh = ap (λ (n : ℕ). page_to_send f.log n flag) is ∙ same_page f.log (front_lsn f.log (unwrap_or f.noted 0)) clean flag kept fresh

pub restart_result : (result : Result (Unit {0}) Failed) (old new : StateOf) (front : ℕ) → front ≡ front_lsn old.log (unwrap_or old.noted 0) → OnOk result (new ≡ record old { log = named_area front old.log }) → OnErr result (new ≡ record old { log = record old.log { sent = new.log.sent } })
    → facts_of new ≡ restart_facts result new.log.sent (facts_of old)
restart_result (Ok tt) old new front is ok err = ap facts_of ok ∙ ap (λ (n : ℕ). facts_of (record old { log = named_area n old.log })) is
restart_result (Err e) old new front is ok err = ap facts_of err

sent_made : (page : Restart) (x : SentRestart) → x.page ≡ page → x ≡ record { page = page; check = x.check }
sent_made page x is = ap (λ (p : Restart). record { page = p; check = x.check }) is

abbrev failing : Failed → Result (Unit {0}) Failed
failing fault = Err fault

none_word : (o : Option SentRestart) → sent_word o ≡ None → o ≡ None
none_word (Some x) e = absurd cc
none_word None e = refl

restart_failed : {D : Type 0} (gives : D → Option (List (List ℕ))) (changes : D → Changes) (moment : D → ℕ) (count page : ℕ) (ends clean : Bool) (f : StoreFacts) (fault : Failed) (now : Option SentRestart) (old new : D)
    → SeesDisk (gives old) (changes old).disk → IfSome (changes new).disk IsSized → MayEndCheckpoint f page → MayClose ends f page clean → IfSome now (λ x. x.page ≡ page_to_send f.log (front_lsn f.log page) clean)
    → SentOrAsked gives changes moment (sent_word f.log.sent) (restart_sector f.log) (protected_bytes (restart_spelling (page_to_send f.log (front_lsn f.log page) clean))) (failing fault) old new (sent_word now)
    → SimulatesAs ends count (moment old) (changes old) (changes new) f (record f { log = record f.log { sent = now } }) AfterWrite
restart_failed gives changes moment count page ends clean f fault (Some x) old new sees sized may close made sent =
    subst (λ (o : Option SentRestart). SimulatesAs ends count (moment old) (changes old) (changes new) f (record f { log = record f.log { sent = o } }) AfterWrite) (ap (λ (y : SentRestart). Some y) (sym (sent_made (page_to_send f.log (front_lsn f.log page) clean) x made)))
    (fails_to_name gives changes moment count page x.check ends clean f old new sees sized may close fault sent)
restart_failed gives changes moment count page ends clean f fault None old new sees sized may close made asked =
    subst (λ (o : Option SentRestart). SimulatesAs ends count (moment old) (changes old) (changes new) f (record f { log = record f.log { sent = o } }) AfterWrite) (none_word f.log.sent asked.0) (asked_step gives changes moment count f old new asked.1)

pub restart_step : {D : Type 0} (gives : D → Option (List (List ℕ))) (changes : D → Changes) (moment : D → ℕ) (count page : ℕ) (ends clean : Bool) (f : StoreFacts) (result : Result (Unit {0}) Failed) (now : Option SentRestart) (old new : D)
    → SeesDisk (gives old) (changes old).disk → IfSome (changes new).disk IsSized → MayEndCheckpoint f page → MayClose ends f page clean → unwrap_or f.noted 0 ≡ page → OnErr result (IfSome now (λ x. x.page ≡ restart_page clean f))
    → IsSentOrNot gives changes moment (sent_word f.log.sent) (sent_word now) (restart_sector f.log) (protected_bytes (restart_spelling (restart_page clean f))) result old new
    → SimulatesAs ends count (moment old) (changes old) (changes new) f (restart_facts result now f) AfterWrite
restart_step gives changes moment count page ends clean f (Ok tt) now old new sees sized may close is made sent =
    names_page gives changes moment count (unwrap_or f.noted 0) sent.sent.0 ends clean f old new sees sized (subst (λ (n : ℕ). MayEndCheckpoint f n) (sym is) may) (subst (λ (n : ℕ). MayClose ends f n clean) (sym is) close) sent.sent.1
restart_step gives changes moment count page ends clean f (Err fault) now old new sees sized may close is made sent =
    restart_failed gives changes moment count (unwrap_or f.noted 0) ends clean f fault now old new sees sized (subst (λ (n : ℕ). MayEndCheckpoint f n) (sym is) may) (subst (λ (n : ℕ). MayClose ends f n clean) (sym is) close) made sent.failed

-- ---- what a store tells behind it

told_page : (o now : Option SentRestart) (page : Restart) (noted : Bool) (front : ℕ) → noted ≡ true → page.oldest ≡ front → IfSome now (λ x. x.page ≡ page) → IfSome now (λ x. (noted ≡ true) × (x.page.oldest ≡ front))
told_page o (Some x) page noted front is names made = (is, ap (λ (p : Restart). p.oldest) made ∙ names)
told_page o None page noted front is names made = tt

-- the page that is sent names that place
page_names : (a : LogAreaOf) (oldest : ℕ) (clean : Bool) → IfSome a.sent (λ x. x.page.oldest ≡ oldest) → (page_to_send a oldest clean).oldest ≡ oldest
page_names a oldest clean again = by_sent a.sent refl
  where
    by_sent : (o : Option SentRestart) → a.sent ≡ o → (page_to_send a oldest clean).oldest ≡ oldest
    by_sent (Some x) is = ap (λ (o : Option SentRestart). (page_to_send (record a { sent = o }) oldest clean).oldest) is ∙ subst (λ (o : Option SentRestart). IfSome o (λ y. y.page.oldest ≡ oldest)) is again
    by_sent None is = ap (λ (o : Option SentRestart). (page_to_send (record a { sent = o }) oldest clean).oldest) is

pub restart_front : (f : StoreFacts) (page : ℕ) (clean : Bool) (result : Result (Unit {0}) Failed) (now : Option SentRestart) (front : ℕ) → MayEndCheckpoint f page → unwrap_or f.noted 0 ≡ page → front ≡ front_lsn f.log page
    → OnErr result (IfSome now (λ x. x.page ≡ restart_page clean f)) → TellsFront f.log f.noted front → TellsFront (restart_facts result now f).log (restart_facts result now f).noted front
restart_front f page clean (Ok tt) now front may is names made told = named_front f (front_lsn f.log (unwrap_or f.noted 0)) front told
restart_front f page clean (Err e) now front may is names made told =
    sent_front f now front may.may.unnamed
    (told_page f.log.sent now (restart_page clean f) (is_some f.noted) front (ap (λ (o : Option ℕ). is_some o) may.may.noted)
    (ap (λ (n : ℕ). (page_to_send f.log (front_lsn f.log n) clean).oldest) is ∙ page_names f.log (front_lsn f.log page) clean may.again ∙ sym names) made) told

-- a page without the flag goes out where none was sent with it
restart_open : (f : StoreFacts) → LeavesOpen f.log → (restart_page false f).clean ≡ false
restart_open f is = by_sent f.log.sent refl
  where
    front : ℕ
    front = front_lsn f.log (unwrap_or f.noted 0)

    by_sent : (o : Option SentRestart) → f.log.sent ≡ o → (page_to_send f.log front false).clean ≡ false
    by_sent (Some x) same = ap (λ (o : Option SentRestart). (page_to_send (record f.log { sent = o }) front false).clean) same ∙ subst (λ (o : Option SentRestart). IfSome o (λ y. y.page.clean ≡ false)) same is
    by_sent None same = ap (λ (o : Option SentRestart). (page_to_send (record f.log { sent = o }) front false).clean) same

sent_open : (page : Restart) (now : Option SentRestart) → page.clean ≡ false → IfSome now (λ x. x.page ≡ page) → IfSome now (λ x. x.page.clean ≡ false)
sent_open page (Some x) is made = ap (λ (p : Restart). p.clean) made ∙ is
sent_open page None is made = tt

leaves_open : (f : StoreFacts) (result : Result (Unit {0}) Failed) (now : Option SentRestart) → LeavesOpen f.log → OnErr result (IfSome now (λ x. x.page ≡ restart_page false f)) → LeavesOpen (restart_facts result now f).log
leaves_open f (Ok tt) now is made = tt
leaves_open f (Err e) now is made = sent_open (restart_page false f) now (restart_open f is) made

-- the blocks stay as they are
restart_blocks : (f : StoreFacts) (result : Result (Unit {0}) Failed) (now : Option SentRestart) (t : Telling) → IsTold f t → TellsFront (restart_facts result now f).log (restart_facts result now f).noted t.front → LeavesOpen (restart_facts result now f).log → IsTold (restart_facts result now f) t
restart_blocks f (Ok tt) now t told front unmarked = record { wet = told.wet; left = told.left; ready = told.ready; front = front; unmarked = unmarked }
restart_blocks f (Err e) now t told front unmarked = record { wet = told.wet; left = told.left; ready = told.ready; front = front; unmarked = unmarked }

pub restart_told : (f g : StoreFacts) (result : Result (Unit {0}) Failed) (now : Option SentRestart) (t : Telling) → g ≡ restart_facts result now f → TellsFront g.log g.noted t.front
    → OnErr result (IfSome now (λ x. x.page ≡ restart_page false f)) → IsTold f t → IsTold g t
restart_told f g result now t is front made told =
    subst (λ (h : StoreFacts). IsTold h t) (sym is)
    (restart_blocks f result now t told (subst (λ (h : StoreFacts). TellsFront h.log h.noted t.front) is front) (leaves_open f result now told.unmarked made))
