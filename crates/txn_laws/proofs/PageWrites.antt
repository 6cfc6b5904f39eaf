-- A page of the log is sent to its place, in a write that answers Ok or fails.
use Rattle.std.proofs.Common.{◌≡◌, subst, ℕ, suc, ◌+◌, ◌-◌, ◌<◌, ◌≤◌, max, Bool, true, cond, List, length, Option, Some, None, Ok, Err, refl, sym, ap, ◌∙◌, inl, inr, arith}
use Rattle.std.specs.Prelude.{IfSome, ◌||◌, nat_lt}
use Rattle.std.specs.List.{list_any, range_with_len}
use Rattle.std.proofs.lemmas.Bool.{cases_Bool, cases_lt}
use Rattle.std.proofs.lemmas.List.Folds.{list_any_at}
use Rattle.std.proofs.lemmas.List.FromFn.{length-range_with_len, get_or-range_with_len}
use Rattle.host_base.specs.declared.outside.Failed.{Failed}
use Rattle.host_base.specs.Causes.{last_moment}
use Rattle.area_laws.specs.disk_model.declared.block.Block.{Block}
use Rattle.area_laws.specs.disk_model.Sectors.{sectors}
use Rattle.area_laws.proofs.fixup_record.Protected.{length-protected}
use Rattle.area_laws.specs.sector_device.Disks.{Disk, IsSized, IsBetween, SeesDisk, is_within, put}
use Rattle.area_laws.specs.sector_device.Moments.{Changes, moment_after}
use Rattle.area_laws.specs.sector_device.Sectors.{sectors_of}
use Rattle.area_laws.specs.sector_device.WholeSectors.{length-sectors_of}
use Rattle.area_laws.specs.log_page.declared.places.LogPlace.{LogPlace}
use Rattle.area_laws.specs.log_page.PageSpellings.{page_spelling}
use Rattle.area_laws.proofs.log_page.PageAgain.{page_size}
use Rattle.store_claims.specs.store_model.Stores.{Store}
use Rattle.store_claims.specs.store_model.Events.Step.{write_page, write_page_fails}
use Rattle.store_claims.specs.store_model.Rings.{PagePlaces}
use Rattle.store_claims.proofs.store_model.Rings.{entries_longer}
use Rattle.store_claims.proofs.store_model.Sound.{sound-step}
use Rattle.area_laws.specs.ring_laws.Numbers.{LogSession, place_of_page, lap_of_page}
use Rattle.area_laws.specs.ring_laws.PageBytes.{page_sector, spelled_page}
use Rattle.area_laws.specs.ring_laws.RingPages.{entries_of_page, page_written, page_sent}
use Rattle.area_laws.specs.ring_laws.StoreDisks.{disk_without}
use Rattle.area_laws.specs.ring_laws.StoreLogs.{LogNumbers, entries_to}
use Rattle.area_laws.proofs.ring_laws.Numbering.{in_ring}
use Rattle.area_laws.proofs.ring_laws.RingFacts.{has_ring}
use Rattle.area_laws.proofs.ring_laws.SeenDisks.{own_put}
use Rattle.area_laws.proofs.ring_laws.StoreEvents.{log_within}
use Rattle.area_laws.specs.log_area.Areas.{page_first, written_area}
use Rattle.area_laws.specs.log_area.Calls.{sending_moment}
use Rattle.area_laws.specs.Standing.{Stands}
use Rattle.area_laws.specs.Laws.{IsKnown, SendsNext}
use Rattle.area_laws.proofs.Calling.{held_here, ring_writes, ring_sends}
use Rattle.area_laws.proofs.Joined.{writes, sends}
use Rattle.txn_model.specs.Values.{StoreFacts, is_own, own_of}
use Rattle.txn_model.specs.Calls.{written_facts, sent_facts}
use Rattle.txn_laws.specs.Standing.{StandsBehind, session_of, numbers_of}
use Rattle.txn_laws.specs.Windows.{Simulates, AfterWrite}
use Rattle.txn_laws.proofs.Telling.{by_device, known_before_write, sized_of, some_is}
use Rattle.txn_laws.proofs.Claiming.{after_step}

-- ---- the log's sectors are own ones

first_is : (place : LogPlace) (k : ℕ) → page_first place k ≡ page_sector place k
unfolding page_sector
first_is place k = refl

pub page_is_own : (place : LogPlace) (found : List Block) (k n : ℕ) → k < place.pages → is_within (page_sector place k) 8 n ≡ true → is_own place found n ≡ true
page_is_own place found k n lt within =
    ap (λ (b : Bool). b || list_any (λ (b : Block). is_within b.first (sectors b.kind) n) found)
    (list_any_at (λ (k : ℕ). is_within (page_first place k) 8 n) (range_with_len 0 place.pages) k 0 (omega (arith, length-range_with_len 0 place.pages, lt))
    (ap (λ (j : ℕ). is_within (page_first place j) 8 n) (get_or-range_with_len 0 place.pages k 0 lt ∙ (let e : 0 + k ≡ k = omega arith in e)) ∙ ap (λ (j : ℕ). is_within j 8 n) (first_is place k) ∙ within))

-- ---- what the store's log is then

module _ (f : StoreFacts) (disk : Disk) (m : Store) (h : StandsBehind f disk m) (lt : f.log.done < f.log.sealed) where
  abbrev s : LogSession
  s = session_of f h.lap

  abbrev l : LogNumbers
  l = numbers_of f h.ring h.pages h.restarts h.fields h.noted

  abbrev upto : ℕ
  upto = entries_to h.ring h.pages (suc h.ring.done)

  within : (m.done ≤ upto) × (upto ≤ length m.log)
  within = log_within s l m disk h.holds

  to_rises : (a b : ℕ) → a ≤ b → entries_to h.ring h.pages a ≤ entries_to h.ring h.pages b
  to_rises a b le = entries_longer h.pages (a - h.ring.oldest) (b - h.ring.oldest) (omega (arith, le))

  sent_now : max m.sent upto ≡ entries_to h.ring h.pages (max h.ring.sent (suc h.ring.done))
  sent_now = elim (cases_lt h.ring.sent (suc h.ring.done)) [
    | inl less ↦ (let rise = to_rises h.ring.sent (suc h.ring.done) (omega (arith, less)) in
        (let e : max m.sent upto ≡ upto = omega (arith, h.holds.kept.holds.sent, rise) in e)
        ∙ ap (entries_to h.ring h.pages) (let e : suc h.ring.done ≡ max h.ring.sent (suc h.ring.done) = omega (arith, less) in e))
    | inr more ↦ (let rise = to_rises (suc h.ring.done) h.ring.sent more in
        (let e : max m.sent upto ≡ m.sent = omega (arith, h.holds.kept.holds.sent, rise) in e)
        ∙ h.holds.kept.holds.sent ∙ ap (entries_to h.ring h.pages) (let e : h.ring.sent ≡ max h.ring.sent (suc h.ring.done) = omega (arith, more) in e))
  ]

  -- the page is eight of the log's sectors
  length-page : (word : ℕ) → length (spelled_page s h.ring.done (entries_of_page h.ring h.pages h.ring.done) word) ≡ 4096
  unfolding spelled_page
  length-page word =
      length-protected (page_spelling s.place.pages (lap_of_page s h.ring.done) (place_of_page s h.ring.done) (entries_of_page h.ring h.pages h.ring.done)) word
      ∙ page_size s.place.pages (lap_of_page s h.ring.done) (place_of_page s h.ring.done) (entries_of_page h.ring h.pages h.ring.done) (held_here s f.log h.ring h.pages disk h.stands.ring lt).made

  -- so the store sees the same disk
  same_disk : (now : Disk) (word : ℕ)
      → IsBetween disk (put (page_sector s.place (place_of_page s h.ring.done)) (sectors_of (spelled_page s h.ring.done (entries_of_page h.ring h.pages h.ring.done) word)) disk) now
      → m.disk ≡ disk_without (own_of f) now
  same_disk now word between =
      let new = spelled_page s h.ring.done (entries_of_page h.ring h.pages h.ring.done) word in
      let there = in_ring s (has_ring s.place h.stands.ring.ring.lies) h.ring.done in
      let eight : length (sectors_of new) ≡ 8 = length-sectors_of new ∙ omega (arith, length-page word) in
      h.same ∙ sym (own_put (own_of f) (page_sector s.place (place_of_page s h.ring.done)) (sectors_of new) disk now
      (λ n is. page_is_own f.place f.found (place_of_page s h.ring.done) n there.inside (ap (λ (c : ℕ). is_within (page_sector s.place (place_of_page s h.ring.done)) c n) (sym eight) ∙ is)) between)

  -- ---- the write answered Ok

  abbrev n : Store
  n = record m { done = upto; sent = max m.sent upto }

  written_behind : (places : PagePlaces) (now : Disk) → Stands s (written_area f.log) (page_written h.ring places) h.restarts h.pages h.fields now → m.disk ≡ disk_without (own_of f) now → IsSized now
      → StandsBehind (written_facts f) now n
  written_behind places now stands same sized = record {
    geometry = h.geometry;
    volume = h.volume;
    lap = h.lap;
    ring = page_written h.ring places;
    pages = h.pages;
    restarts = h.restarts;
    fields = h.fields;
    noted = h.noted;
    stands = stands;
    holds = record {
      kept = record {
        ring = stands.ring.ring.ring;
        restarts = stands.restarts.restarts.restarts;
        holds = record { log = h.holds.kept.holds.log; synced = h.holds.kept.holds.synced; sent = sent_now };
        begun = h.holds.kept.begun;
        low = h.holds.kept.low;
        high = h.holds.kept.high;
        names = h.holds.kept.names;
      };
      ring = stands.ring.ring;
      restarts = stands.restarts.restarts;
      names = record { sure = h.holds.names.sure; sure_is = h.holds.names.sure_is; oldest = h.holds.names.oldest; next = h.holds.names.next };
      done = refl;
      replaced = h.holds.replaced;
      low = h.holds.low;
      place = h.holds.place;
      renamed = h.holds.renamed;
    };
    below = h.below;
    note = h.note;
    same = same;
    sized = sized;
    own_pages = h.own_pages;
    closes = h.closes;
    placed = h.placed;
    sound = sound-step h.geometry m n (write_page upto within.0 within.1) h.sound;
    window = record { is_open = h.window.is_open; tx = h.window.tx; waiting = h.window.waiting; body = h.window.body; changed = h.window.changed; before = h.window.before };
    marks = record { dirty = h.marks.dirty; dead = h.marks.dead; kept = h.marks.kept; apart = h.marks.apart; lone = h.marks.lone; known = h.marks.known; changed = h.marks.changed; wet = h.marks.wet; owed = h.marks.owed; due = h.marks.due };
    by_pages = record {
      some = h.by_pages.some;
      imaged = h.by_pages.imaged;
      until = h.by_pages.until;
      commit = h.by_pages.commit;
      killed = h.by_pages.killed;
      counted = h.by_pages.counted;
      ends = h.by_pages.ends;
      begun = h.by_pages.begun;
    };
  }

  -- ---- the write failed

  abbrev x : Store
  x = record m { sent = max m.sent upto }

  sent_behind : (word : ℕ) (places : PagePlaces) (now : Disk) → Stands s (record f.log { check = Some word }) (page_sent h.ring places) h.restarts h.pages h.fields now → m.disk ≡ disk_without (own_of f) now → IsSized now
      → StandsBehind (sent_facts word f) now x
  sent_behind word places now stands same sized = record {
    geometry = h.geometry;
    volume = h.volume;
    lap = h.lap;
    ring = page_sent h.ring places;
    pages = h.pages;
    restarts = h.restarts;
    fields = h.fields;
    noted = h.noted;
    stands = stands;
    holds = record {
      kept = record {
        ring = stands.ring.ring.ring;
        restarts = stands.restarts.restarts.restarts;
        holds = record { log = h.holds.kept.holds.log; synced = h.holds.kept.holds.synced; sent = sent_now };
        begun = h.holds.kept.begun;
        low = h.holds.kept.low;
        high = h.holds.kept.high;
        names = h.holds.kept.names;
      };
      ring = stands.ring.ring;
      restarts = stands.restarts.restarts;
      names = record { sure = h.holds.names.sure; sure_is = h.holds.names.sure_is; oldest = h.holds.names.oldest; next = h.holds.names.next };
      done = h.holds.done;
      replaced = h.holds.replaced;
      low = h.holds.low;
      place = h.holds.place;
      renamed = h.holds.renamed;
    };
    below = h.below;
    note = h.note;
    same = same;
    sized = sized;
    own_pages = h.own_pages;
    closes = h.closes;
    placed = h.placed;
    sound = sound-step h.geometry m x (write_page_fails upto within.1) h.sound;
    window = record { is_open = h.window.is_open; tx = h.window.tx; waiting = h.window.waiting; body = h.window.body; changed = h.window.changed; before = h.window.before };
    marks = record { dirty = h.marks.dirty; dead = h.marks.dead; kept = h.marks.kept; apart = h.marks.apart; lone = h.marks.lone; known = h.marks.known; changed = h.marks.changed; wet = h.marks.wet; owed = h.marks.owed; due = h.marks.due };
    by_pages = record {
      some = h.by_pages.some;
      imaged = h.by_pages.imaged;
      until = h.by_pages.until;
      commit = h.by_pages.commit;
      killed = h.by_pages.killed;
      counted = h.by_pages.counted;
      ends = h.by_pages.ends;
      begun = h.by_pages.begun;
    };
  }

-- ---- the calls

pub moment_rises : (moment : ℕ) → moment ≤ moment_after moment
moment_rises moment = elim (cases_Bool (nat_lt moment last_moment)) [
  | inl less ↦ subst (λ (b : Bool). moment ≤ cond b (moment + 2) moment) (sym less) (omega arith)
  | inr more ↦ subst (λ (b : Bool). moment ≤ cond b (moment + 2) moment) (sym more) (omega arith)
]

pub sends_later : (check : Option ℕ) (moment : ℕ) → moment ≤ sending_moment check moment
sends_later None moment = moment_rises moment
sends_later (Some word) moment = omega arith

module _ {D : Type 0} (gives : D → Option (List (List ℕ))) (changes : D → Changes) (moment : D → ℕ) (count : ℕ) (f : StoreFacts) (word : ℕ) (old new : D) (sees : SeesDisk (gives old) (changes old).disk)
    (sized : IfSome (changes new).disk IsSized) (lt : f.log.done < f.log.sealed) where
  pub page_goes_out : SendsNext gives changes moment f.log word (Ok tt) old new → Simulates count (moment old) (changes old) (changes new) f (written_facts f) AfterWrite
  page_goes_out sent =
      by_device count (moment old) (sending_moment f.log.check (moment old)) (changes old) (changes new) f (written_facts f) AfterWrite refl refl
      (known_before_write _ _ _ _ (changes old) (changes new) sent.sends.writes) (sends_later f.log.check (moment old)) sent.sends.writes.past
      (λ disk m is h.
      let known : IsKnown gives changes old disk = record { known = is; sees = sees } in
      let ring = ring_writes gives changes moment (session_of f h.lap) f.log h.ring h.pages disk word old new known h.stands.ring lt sent in
      let all = writes gives changes moment (session_of f h.lap) f.log h.ring h.restarts h.pages h.fields disk word old new known h.stands lt sent in
      let now : ring.now ≡ all.disk = some_is ring.now all.disk (sym ring.known ∙ all.known) in
      let same = subst (λ (e : Disk). m.disk ≡ disk_without (own_of f) e) now (same_disk f disk m h lt ring.now word ring.between) in
      (all.disk, all.known, n f disk m h lt, written_behind f disk m h lt all.places all.disk all.stands same (sized_of (changes new) all.disk all.known sized), after_step m (n f disk m h lt) refl refl refl refl refl))

  pub page_goes_badly : (fault : Failed) → SendsNext gives changes moment f.log word (Err fault) old new → Simulates count (moment old) (changes old) (changes new) f (sent_facts word f) AfterWrite
  page_goes_badly fault sent =
      by_device count (moment old) (sending_moment f.log.check (moment old)) (changes old) (changes new) f (sent_facts word f) AfterWrite refl refl
      (known_before_write _ _ _ _ (changes old) (changes new) sent.sends.writes) (sends_later f.log.check (moment old)) sent.sends.writes.past
      (λ disk m is h.
      let known : IsKnown gives changes old disk = record { known = is; sees = sees } in
      let ring = ring_sends gives changes moment fault (session_of f h.lap) f.log h.ring h.pages disk word old new known h.stands.ring lt sent in
      let all = sends gives changes moment fault (session_of f h.lap) f.log h.ring h.restarts h.pages h.fields disk word old new known h.stands lt sent in
      let now : ring.now ≡ all.disk = some_is ring.now all.disk (sym ring.known ∙ all.known) in
      let same = subst (λ (e : Disk). m.disk ≡ disk_without (own_of f) e) now (same_disk f disk m h lt ring.now word ring.between) in
      (all.disk, all.known, x f disk m h lt, sent_behind f disk m h lt word all.places all.disk all.stands same (sized_of (changes new) all.disk all.known sized), after_step m (x f disk m h lt) refl refl refl refl refl))
