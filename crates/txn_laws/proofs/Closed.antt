-- Restart pages that say that the log is closed: no entry stands behind them.
use Rattle.std.proofs.Common.{◌≡◌, ◌≢◌, subst, ℕ, zero, suc, ◌+◌, ◌-◌, ◌≤◌, Bool, true, false, cond, List, [], ◌∷◌, length, take, drop, Option, Some, None, refl, sym, ap, ◌∙◌, inl, inr, arith}
use Rattle.std.specs.Prelude.{IfSome}
use Rattle.area_laws.specs.sector_device.Disks.{Disk}
use Rattle.area_laws.specs.log_model.declared.entry.Entry.{Entry}
use Rattle.area_laws.specs.log_model.declared.entry.Act.{Act}
use Rattle.area_laws.specs.log_page.declared.restart.Restart.{Restart}
use Rattle.area_laws.specs.log_page.Restarts.{is_clean}
use Rattle.area_laws.specs.log_area.declared.restart.SentRestart.{SentRestart}
use Rattle.area_laws.specs.log_area.Areas.{LogAreaOf, appended, naming_page, page_to_send}
use Rattle.store_claims.specs.store_model.Stores.{Store, Image, list_of}
use Rattle.store_claims.specs.store_model.Rings.{PagePlaces, Restarts, entries_on, synced_places}
use Rattle.store_claims.proofs.store_model.Told.{true≢false}
use Rattle.area_laws.specs.ring_laws.RestartPages.{RestartFields, restart_written, restart_sent, restart_synced}
use Rattle.area_laws.specs.ring_laws.StoreLogs.{IsOfLog}
use Rattle.txn_model.specs.Values.{StoreFacts}
use Rattle.txn_model.specs.Pieces.{next_entry, log_with}
use Rattle.txn_model.specs.Told.{pages_end}
use Rattle.txn_laws.specs.Standing.{ClosesNone, CloseNone, StandsBehindAs, numbers_of}

-- ---- of one page

some_map : (P Q : Restart → Type 0) → ((page : Restart) → P page → Q page) → (o : Option Restart) → IfSome o P → IfSome o Q
some_map P Q goes (Some page) has = goes page has
some_map P Q goes None has = tt

sent_map : (P Q : Restart → Type 0) → ((page : Restart) → P page → Q page) → (o : Option SentRestart) → IfSome o (λ x. P x.page) → IfSome o (λ x. Q x.page)
sent_map P Q goes (Some x) has = goes x.page has
sent_map P Q goes None has = tt

closes_map : (ends last : Bool) (sent : Option SentRestart) (q : Restarts) (fields : RestartFields) (all rest n k : ℕ) → ((page : Restart) → ClosesNone ends all page → ClosesNone last n page)
    → ((page : Restart) → ClosesNone ends rest page → ClosesNone last k page) → CloseNone ends sent q fields all rest → CloseNone last sent q fields n k
closes_map ends last sent q fields all rest n k one two c = record {
  sure = some_map (ClosesNone ends all) (ClosesNone last n) one (fields q.sure) c.sure;
  next = λ begun. some_map (ClosesNone ends rest) (ClosesNone last k) two (fields (suc q.sure)) (c.next begun);
  sent = sent_map (ClosesNone ends rest) (ClosesNone last k) two sent c.sent;
}

-- a store that goes on has no such page, so any pages may stand there
never : (n k : ℕ) (page : Restart) → ClosesNone false n page → ClosesNone false k page
never n k page none is = absurd (true≢false (sym (none is).0))

pub goes_on : (sent : Option SentRestart) (q : Restarts) (fields : RestartFields) (all rest n k : ℕ) → CloseNone false sent q fields all rest → CloseNone false sent q fields n k
goes_on sent q fields all rest n k c = closes_map false false sent q fields all rest n k (never all n) (never rest k) c

-- a store that goes on is one that ends
ending : (ends : Bool) (n : ℕ) (page : Restart) → ClosesNone ends n page → ClosesNone true n page
ending ends n page none is = (refl, (none is).1)

pub may_end : (ends : Bool) (sent : Option SentRestart) (q : Restarts) (fields : RestartFields) (all rest : ℕ) → CloseNone ends sent q fields all rest → CloseNone true sent q fields all rest
may_end ends sent q fields all rest c = closes_map ends true sent q fields all rest all rest (ending ends all) (ending ends rest) c

-- ---- syncs

abbrev moved : Restarts → Bool → Restarts
moved q v = cond v (record q { sure = suc q.sure; begun = false; done = false; places = synced_places q.places }) (record q { places = synced_places q.places })

pub closes_synced : (ends : Bool) (sent : Option SentRestart) (q : Restarts) (fields : RestartFields) (all rest : ℕ) → q.done ≡ false → CloseNone ends sent q fields all rest → CloseNone ends sent (restart_synced q) fields all rest
closes_synced ends sent q fields all rest none c = subst (λ (v : Bool). CloseNone ends sent (moved q v) fields all rest) (sym none) (record { sure = c.sure; next = c.next; sent = c.sent })

pub closes_freed : (ends : Bool) (sent : Option SentRestart) (q : Restarts) (fields : RestartFields) (all rest n k : ℕ) → q.done ≡ true → q.begun ≡ true → n ≡ rest → k ≡ rest → CloseNone ends sent q fields all rest → CloseNone ends sent (restart_synced q) fields n k
closes_freed ends sent q fields all rest n k done begun first second c =
    subst (λ (v : Bool). CloseNone ends sent (moved q v) fields n k) (sym done)
    (record {
      sure = some_map (ClosesNone ends rest) (ClosesNone ends n) (λ page. same n first page) (fields (suc q.sure)) (c.next begun);
      next = λ again. absurd (true≢false (sym again));
      sent = sent_map (ClosesNone ends rest) (ClosesNone ends k) (λ page. same k second page) sent c.sent;
    })
  where
    same : (j : ℕ) → j ≡ rest → (page : Restart) → ClosesNone ends rest page → ClosesNone ends j page
    same j e page none is = ((none is).0, e ∙ (none is).1)

-- ---- the page that is sent

-- where one was sent it goes out again, and else it says what was asked for
pub closes_to_send : (ends : Bool) (n : ℕ) (a : LogAreaOf) (oldest : ℕ) (clean : Bool) → IfSome a.sent (λ x. ClosesNone ends n x.page) → (clean ≡ true → (ends ≡ true) × (n ≡ 0)) → ClosesNone ends n (page_to_send a oldest clean)
closes_to_send ends n a oldest clean none may = by_sent a.sent refl
  where
    by_sent : (o : Option SentRestart) → a.sent ≡ o → ClosesNone ends n (page_to_send a oldest clean)
    by_sent (Some x) is =
        let page : page_to_send a oldest clean ≡ x.page = ap (λ (o : Option SentRestart). page_to_send (record a { sent = o }) oldest clean) is in
        subst (ClosesNone ends n) (sym page) (subst (λ (o : Option SentRestart). IfSome o (λ y. ClosesNone ends n y.page)) is none)
    by_sent None is =
        let page : page_to_send a oldest clean ≡ naming_page a oldest clean = ap (λ (o : Option SentRestart). page_to_send (record a { sent = o }) oldest clean) is in
        subst (ClosesNone ends n) (sym page) may

module _ (ends : Bool) (sent : Option SentRestart) (q : Restarts) (places : PagePlaces) (fields told : RestartFields) (all rest : ℕ) (page : Restart) (c : CloseNone ends sent q fields all rest) (said : told (suc q.sure) ≡ Some page)
    (others : (i : ℕ) → i ≢ suc q.sure → told i ≡ fields i) (none : ClosesNone ends rest page) where
  sure_now : IfSome (told q.sure) (ClosesNone ends all)
  sure_now = subst (λ (o : Option Restart). IfSome o (ClosesNone ends all)) (sym (others q.sure (λ e. omega (arith, e)))) c.sure

  next_now : IfSome (told (suc q.sure)) (ClosesNone ends rest)
  next_now = subst (λ (o : Option Restart). IfSome o (ClosesNone ends rest)) (sym said) none

  pub closes_written : CloseNone ends None (restart_written q places) told all rest
  closes_written = record { sure = sure_now; next = λ begun. next_now; sent = tt }

  pub closes_sent : (word : ℕ) → CloseNone ends (Some (record { page = page; check = word })) (restart_sent q places) told all rest
  closes_sent word = record { sure = sure_now; next = λ begun. next_now; sent = none }

-- ---- entries of a change send no restart page

pub sent_with : (acts : List Act) (a : LogAreaOf) (tx last : ℕ) → (log_with a tx last acts).sent ≡ a.sent
sent_with [] a tx last = refl
sent_with (act ∷ acts) a tx last = let e = next_entry a tx last act in sent_with acts (appended e a) tx e.lsn

-- ---- the list that recovery reads

no_entries : (pages : List (List Entry)) → length pages ≡ 0 → entries_on pages ≡ []
no_entries [] is = refl
no_entries (p ∷ pages) is = absurd (let e = is in omega (arith, e))

part_of_none : (n k : ℕ) → ◌≡◌ {A = List Entry} (take n (drop k [])) []
part_of_none zero zero = refl
part_of_none zero (suc k) = refl
part_of_none (suc n) zero = refl
part_of_none (suc n) (suc k) = refl

module _ {ends : Bool} (f : StoreFacts) (disk : Disk) (m : Store) (h : StandsBehindAs ends f disk m) where
  -- as many pages stand behind a page as end behind it
  pub pages_behind : (page : ℕ) → pages_end f ≤ page → page ≡ h.noted → h.ring.oldest + length h.pages - h.noted ≡ 0
  pages_behind page le is =
      let area = h.stands.ring.area in
      omega (arith, le, is, h.stands.ring.counted, h.stands.ring.oldest, area.durable_pages, area.written_pages, area.sealed_pages)

  -- where the last durable page says that the log is closed, it has no entry
  none_left : length h.pages ≡ 0 → (image : Image) → list_of m image ≡ []
  none_left none image = ap (λ (es : List Entry). take (image.upto - image.from) (drop image.from es)) (h.holds.kept.holds.log ∙ no_entries h.pages none) ∙ part_of_none (image.upto - image.from) image.from

  pub closed_list : (restart : Restart) (list : List Entry) (image : Image) → IsOfLog (numbers_of f h.ring h.pages h.restarts h.fields h.noted) restart list → list ≡ list_of m image → is_clean restart ≡ true → list ≡ []
  closed_list restart list image of_log same clean =
      elim of_log [
        | inl sure ↦ same ∙ none_left (subst (λ (o : Option Restart). IfSome o (ClosesNone ends (length h.pages))) sure h.closes.sure clean).1 image
        | inr next ↦
            let none = (subst (λ (o : Option Restart). IfSome o (ClosesNone ends (h.ring.oldest + length h.pages - h.noted))) next.1 (h.closes.next next.0) clean).1 in
            next.2 (omega (arith, none))
      ]
