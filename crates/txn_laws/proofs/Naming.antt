-- The restart page that ends a checkpoint is sent to its place, in a write that answers Ok or fails.
use Rattle.std.proofs.Common.{◌≡◌, ◌≢◌, subst, ℕ, suc, ◌+◌, ◌-◌, ◌*◌, ◌/◌, ◌^◌, ◌<◌, ◌≤◌, Bool, true, false, List, length, Option, Some, None, Ok, Err, refl, sym, ap, ap₂, ◌∙◌, inl, inr, arith}
use Rattle.std.specs.Prelude.{IfSome, is_some}
use Rattle.std.specs.Option.{option_map}
use Rattle.std.proofs.lemmas.Bool.{cases_Bool}
use Rattle.std.proofs.Math.Nat.{div-lt_iff_lt-mul, lt-mul-div-succ}
use Rattle.host_base.specs.declared.outside.Failed.{Failed}
use Rattle.area_laws.specs.disk_model.declared.block.Block.{Block}
use Rattle.area_laws.specs.fixup_record.Protecting.{protected_bytes}
use Rattle.area_laws.proofs.fixup_record.Protected.{length-protected}
use Rattle.area_laws.specs.sector_device.Disks.{Disk, IsSized, IsBetween, IsTornDisk, SeesDisk, is_within, put}
use Rattle.area_laws.specs.sector_device.Moments.{Changes}
use Rattle.area_laws.specs.sector_device.Sectors.{sectors_of}
use Rattle.area_laws.specs.sector_device.WholeSectors.{length-sectors_of}
use Rattle.area_laws.specs.log_page.declared.restart.Restart.{Restart}
use Rattle.area_laws.specs.log_page.Places.{sequence_bits}
use Rattle.area_laws.specs.log_page.Restarts.{restart_spelling}
use Rattle.area_laws.proofs.log_page.Spelled.{length-restart_spelling}
use Rattle.area_laws.specs.log_area.declared.restart.SentRestart.{SentRestart}
use Rattle.area_laws.specs.log_area.Areas.{IsOldest, lap_at, next_number, ring_size, restart_sector, sent_word, page_to_send, named_area}
use Rattle.area_laws.specs.log_area.Calls.{sending_moment}
use Rattle.area_laws.proofs.log_area.Numbering.{lsn_room}
use Rattle.store_claims.specs.store_model.Stores.{Store}
use Rattle.store_claims.specs.store_model.Events.{MayRename}
use Rattle.store_claims.specs.store_model.Events.Step.{write_restart, write_restart_fails}
use Rattle.store_claims.specs.store_model.Rings.{PagePlaces}
use Rattle.store_claims.proofs.store_model.Rings.{entries_longer}
use Rattle.store_claims.proofs.store_model.Sound.{sound-step}
use Rattle.store_claims.proofs.store_model.Told.{true≢false}
use Rattle.area_laws.specs.ring_laws.Numbers.{LogSession, lsn_of_page}
use Rattle.area_laws.specs.ring_laws.PageBytes.{page_sector}
use Rattle.area_laws.specs.ring_laws.RestartPages.{RestartFields, restart_written, restart_sent}
use Rattle.area_laws.specs.ring_laws.StoreDisks.{disk_without}
use Rattle.area_laws.proofs.ring_laws.SeenDisks.{own_put}
use Rattle.area_laws.specs.Standing.{Stands}
use Rattle.area_laws.specs.Laws.{IsKnown, MayName}
use Rattle.area_laws.proofs.Calling.{torn_known, whole_between}
use Rattle.area_laws.proofs.Naming.{restart_names, restart_fails}
use Rattle.area_laws.proofs.Reading.{is_first, front_named}
use Rattle.area_laws.proofs.Rising.{next_place}
use Rattle.txn_model.specs.Values.{StoreFacts, own_of}
use Rattle.txn_model.specs.Calls.{front_lsn, MayNameNoted, named_facts, naming_facts}
use Rattle.txn_laws.proofs.Mountable.{own_to_send, own_written, own_sent}
use Rattle.txn_laws.proofs.Closed.{closes_to_send, closes_written, closes_sent, pages_behind}
use Rattle.txn_laws.specs.Standing.{ClosesNone, StandsBehindAs, session_of}
use Rattle.txn_laws.specs.Windows.{SimulatesAs, AfterWrite}
use Rattle.txn_laws.specs.Laws.{MayEndCheckpoint, MayClose, SendsNaming}
use Rattle.txn_laws.proofs.PageWrites.{page_is_own, sends_later}
use Rattle.txn_laws.proofs.Telling.{by_device, known_before_write, sized_of, some_is}
use Rattle.txn_laws.proofs.Claiming.{after_step}

same_page : (a b : Restart) → ◌≡◌ {A = Option Restart} (Some a) (Some b) → a ≡ b
same_page a b e = cc

module _ {ends : Bool} (f : StoreFacts) (disk : Disk) (m : Store) (h : StandsBehindAs ends f disk m) (page : ℕ) (may : MayNameNoted f page) where
  abbrev s : LogSession
  s = session_of f h.lap

  abbrev oldest : ℕ
  oldest = front_lsn f.log page

  page_is : page ≡ h.noted
  page_is = subst (λ (o : Option ℕ). IfSome o (λ n. n ≡ h.noted)) may.noted h.note

  begun : m.begun ≡ true
  begun = h.by_pages.begun ∙ ap (λ (o : Option ℕ). is_some o) may.noted

  early : m.replaced ≡ false
  early = h.holds.replaced ∙ h.stands.restarts.done ∙ ap (λ (o : Option ℕ). is_some o) may.unnamed

  high : h.noted ≤ h.ring.synced
  high = let le = may.durable in omega (arith, page_is, h.stands.ring.synced)

  first : oldest ≡ lsn_of_page s h.noted
  first = is_first s f.log h.ring h.restarts h.pages h.fields disk h.stands page ∙ ap (lsn_of_page s) page_is

  -- ---- it may be named

  may_front : IsOldest f.log oldest
  may_front = front_named s f.log h.ring h.restarts h.pages h.fields disk h.stands page (omega (arith, page_is, h.holds.low begun, h.stands.ring.oldest)) may.durable

  own_lap : MayEndCheckpoint f page → lap_at f.log page < 2 ^ sequence_bits f.log.pages
  own_lap end =
      let size = ring_size f.log in
      let area = h.stands.ring.area in
      let some = area.some in
      let full : 0 < size = omega arith in
      let le : page ≤ next_number f.log 0x58 = before_next in
      let lt : next_number f.log 0x58 < size * (next_number f.log 0x58 / size + 1) = lt-mul-div-succ (next_number f.log 0x58) full in
      let below : page < (next_number f.log 0x58 / size + 1) * size = omega arith in
      let q : page / size < next_number f.log 0x58 / size + 1 = (div-lt_iff_lt-mul full).1 below in
      omega (arith, end.lap)
    where
      before_next : page ≤ next_number f.log 0x58
      before_next =
          let area = h.stands.ring.area in
          let le = may.durable in
          elim (next_place f.log 0x58) [
            | inl x ↦ omega (arith, x.1, area.written_pages, area.sealed_pages)
            | inr x ↦ omega (arith, x.1, area.written_pages, area.sealed_pages)
          ]

  small : MayEndCheckpoint f page → oldest < 2 ^ 64
  small end = let area = h.stands.ring.area in let room = lsn_room f.log page 0x40 area.some area.few (own_lap end) (omega arith) in omega arith

  may_name : (clean : Bool) → MayEndCheckpoint f page → MayName f.log h.restarts h.fields oldest clean
  may_name clean end = let few = end.opens in record { synced = may.unnamed; place = may_front; lap = end.lap; again = end.again; small = small end; few = omega arith; newer = λ x is. inl few }

  -- ---- the machine's event

  owed_none : (b : Block) → m.owed b ≡ false
  owed_none b = elim (cases_Bool (m.owed b)) [
    | inl is ↦ absurd (true≢false (sym (h.marks.owed begun b is) ∙ (may.paid b).0))
    | inr none ↦ none
  ]

  due_none : (b : Block) → m.due b ≡ false
  due_none b = elim (cases_Bool (m.due b)) [
    | inl is ↦ elim (h.marks.due begun b is) [
      | inl own ↦ absurd (true≢false (sym own ∙ (may.paid b).1))
      | inr rival ↦ absurd (true≢false (sym rival.2 ∙ (may.paid rival.0).1))
    ]
    | inr none ↦ none
  ]

  renames : MayRename m
  renames = record {
    begun = begun;
    durable = omega (arith, h.holds.place begun, h.holds.kept.holds.synced, entries_longer h.pages (h.noted - h.ring.oldest) (h.ring.synced - h.ring.oldest) (omega (arith, high)));
    paid = λ b. (owed_none b, due_none b);
    again = early;
  }

  -- ---- the page that is sent

  oldest_sent : (clean : Bool) → MayEndCheckpoint f page → (page_to_send f.log oldest clean).oldest ≡ oldest
  oldest_sent clean end = by_sent f.log.sent refl
    where
      by_sent : (o : Option SentRestart) → f.log.sent ≡ o → (page_to_send f.log oldest clean).oldest ≡ oldest
      by_sent (Some x) is =
          ap (λ (o : Option SentRestart). (page_to_send (record f.log { sent = o }) oldest clean).oldest) is
          ∙ subst (λ (o : Option SentRestart). IfSome o (λ y. y.page.oldest ≡ oldest)) is end.again
      by_sent None is = ap (λ (o : Option SentRestart). (page_to_send (record f.log { sent = o }) oldest clean).oldest) is

  -- no page of entries stands behind it where it says that the log is closed
  closes_page : (clean : Bool) → MayClose ends f page clean → ClosesNone ends (h.ring.oldest + length h.pages - h.noted) (page_to_send f.log oldest clean)
  closes_page clean close = closes_to_send ends (h.ring.oldest + length h.pages - h.noted) f.log oldest clean h.closes.sent (λ is. let x = close is in (x.0, pages_behind f disk m h page x.1 page_is))

  -- its sectors are the log's
  same_disk : (next : Restart) (word : ℕ) (now : Disk) → IsBetween disk (put (restart_sector f.log) (sectors_of (protected_bytes (restart_spelling next) word)) disk) now → m.disk ≡ disk_without (own_of f) now
  same_disk next word now between =
      let area = h.stands.ring.area in
      let two = area.two in
      let some = area.some in
      let size = length-protected (restart_spelling next) word ∙ length-restart_spelling next in
      let eight : length (sectors_of (protected_bytes (restart_spelling next) word)) ≡ 8 = length-sectors_of (protected_bytes (restart_spelling next) word) ∙ omega arith in
      let pages = h.stands.ring.session.pages in
      let inside : f.log.restart < f.place.pages = omega arith in
      let sector_is : restart_sector f.log ≡ page_sector f.place f.log.restart = h.stands.ring.session.firsts f.log.restart inside in
      h.same ∙ sym (own_put (own_of f) (restart_sector f.log) (sectors_of (protected_bytes (restart_spelling next) word)) disk now
      (λ n is. page_is_own f.place f.found f.log.restart n inside (ap₂ (λ (at : ℕ) (c : ℕ). is_within at c n) (sym sector_is) (sym eight) ∙ is)) between)

  -- ---- the write answered Ok

  abbrev n : Store
  n = record m { renamed = true; replaced = true }

  named_behind : (clean : Bool) (end : MayEndCheckpoint f page) → MayClose ends f page clean → (places : PagePlaces) (told : RestartFields) (now : Disk) → told (suc h.restarts.sure) ≡ Some (page_to_send f.log oldest clean)
      → ((i : ℕ) → i ≢ suc h.restarts.sure → told i ≡ h.fields i) → Stands s (named_area oldest f.log) h.ring (restart_written h.restarts places) h.pages told now → m.disk ≡ disk_without (own_of f) now → IsSized now
      → StandsBehindAs ends (named_facts page f) now n
  named_behind clean end close places told now said others stands same sized = record {
    geometry = h.geometry;
    volume = h.volume;
    lap = h.lap;
    ring = h.ring;
    pages = h.pages;
    restarts = restart_written h.restarts places;
    fields = told;
    noted = h.noted;
    stands = stands;
    holds = record {
      kept = record {
        ring = stands.ring.ring.ring;
        restarts = stands.restarts.restarts.restarts;
        holds = record { log = h.holds.kept.holds.log; synced = h.holds.kept.holds.synced; sent = h.holds.kept.holds.sent };
        begun = λ is. refl;
        low = λ is. h.holds.low begun;
        high = λ is. high;
        names = λ is. h.holds.place begun;
      };
      ring = stands.ring.ring;
      restarts = stands.restarts.restarts;
      names = record {
        sure = h.holds.names.sure;
        sure_is = others h.restarts.sure (λ e. omega (arith, e)) ∙ h.holds.names.sure_is;
        oldest = h.holds.names.oldest;
        next = λ x is e. ap (λ (r : Restart). r.oldest) (same_page x (page_to_send f.log oldest clean) (sym e ∙ said)) ∙ oldest_sent clean end ∙ first;
      };
      done = h.holds.done;
      replaced = refl;
      low = h.holds.low;
      place = h.holds.place;
      renamed = λ is. begun;
    };
    below = h.below;
    note = h.note;
    same = same;
    sized = sized;
    own_pages = own_written h.restarts places h.fields told (page_to_send f.log oldest clean) h.own_pages said others (own_to_send f.log oldest clean h.stands.ring.area);
    closes = closes_written ends f.log.sent h.restarts places h.fields told (length h.pages) (h.ring.oldest + length h.pages - h.noted) (page_to_send f.log oldest clean) h.closes said others (closes_page clean close);
    placed = h.placed;
    sound = sound-step h.geometry m n (write_restart renames) h.sound;
    window = record { is_open = h.window.is_open; tx = h.window.tx; waiting = h.window.waiting; body = h.window.body; changed = h.window.changed; before = h.window.before };
    marks = record { dirty = h.marks.dirty; dead = h.marks.dead; kept = h.marks.kept; apart = h.marks.apart; lone = h.marks.lone; known = h.marks.known; changed = h.marks.changed; wet = h.marks.wet; owed = h.marks.owed; due = h.marks.due };
    by_pages = record {
      some = h.by_pages.some;
      imaged = h.by_pages.imaged;
      until = h.by_pages.until;
      commit = h.by_pages.commit;
      killed = h.by_pages.killed;
      counted = h.by_pages.counted;
      ends = h.by_pages.ends;
      begun = h.by_pages.begun;
    };
  }

  -- ---- the write failed

  abbrev x : Store
  x = record m { renamed = true }

  naming_behind : (clean : Bool) (end : MayEndCheckpoint f page) → MayClose ends f page clean → (word : ℕ) (places : PagePlaces) (told : RestartFields) (now : Disk) → told (suc h.restarts.sure) ≡ Some (page_to_send f.log oldest clean)
      → ((i : ℕ) → i ≢ suc h.restarts.sure → told i ≡ h.fields i)
      → Stands s (record f.log { sent = Some (record { page = page_to_send f.log oldest clean; check = word }) }) h.ring (restart_sent h.restarts places) h.pages told now → m.disk ≡ disk_without (own_of f) now → IsSized now
      → StandsBehindAs ends (naming_facts page clean word f) now x
  naming_behind clean end close word places told now said others stands same sized = record {
    geometry = h.geometry;
    volume = h.volume;
    lap = h.lap;
    ring = h.ring;
    pages = h.pages;
    restarts = restart_sent h.restarts places;
    fields = told;
    noted = h.noted;
    stands = stands;
    holds = record {
      kept = record {
        ring = stands.ring.ring.ring;
        restarts = stands.restarts.restarts.restarts;
        holds = record { log = h.holds.kept.holds.log; synced = h.holds.kept.holds.synced; sent = h.holds.kept.holds.sent };
        begun = λ is. refl;
        low = λ is. h.holds.low begun;
        high = λ is. high;
        names = λ is. h.holds.place begun;
      };
      ring = stands.ring.ring;
      restarts = stands.restarts.restarts;
      names = record {
        sure = h.holds.names.sure;
        sure_is = others h.restarts.sure (λ e. omega (arith, e)) ∙ h.holds.names.sure_is;
        oldest = h.holds.names.oldest;
        next = λ x is e. ap (λ (r : Restart). r.oldest) (same_page x (page_to_send f.log oldest clean) (sym e ∙ said)) ∙ oldest_sent clean end ∙ first;
      };
      done = h.holds.done;
      replaced = h.holds.replaced;
      low = h.holds.low;
      place = h.holds.place;
      renamed = λ is. begun;
    };
    below = h.below;
    note = h.note;
    same = same;
    sized = sized;
    own_pages = own_sent h.restarts places h.fields told (page_to_send f.log oldest clean) h.own_pages said others (own_to_send f.log oldest clean h.stands.ring.area);
    closes = closes_sent ends f.log.sent h.restarts places h.fields told (length h.pages) (h.ring.oldest + length h.pages - h.noted) (page_to_send f.log oldest clean) h.closes said others (closes_page clean close) word;
    placed = h.placed;
    sound = sound-step h.geometry m x (write_restart_fails renames) h.sound;
    window = record { is_open = h.window.is_open; tx = h.window.tx; waiting = h.window.waiting; body = h.window.body; changed = h.window.changed; before = h.window.before };
    marks = record { dirty = h.marks.dirty; dead = h.marks.dead; kept = h.marks.kept; apart = h.marks.apart; lone = h.marks.lone; known = h.marks.known; changed = h.marks.changed; wet = h.marks.wet; owed = h.marks.owed; due = h.marks.due };
    by_pages = record {
      some = h.by_pages.some;
      imaged = h.by_pages.imaged;
      until = h.by_pages.until;
      commit = h.by_pages.commit;
      killed = h.by_pages.killed;
      counted = h.by_pages.counted;
      ends = h.by_pages.ends;
      begun = h.by_pages.begun;
    };
  }

-- ---- the calls

pub may_rename : {ends : Bool} (f : StoreFacts) (page : ℕ) (disk : Disk) (m : Store) → StandsBehindAs ends f disk m → MayNameNoted f page → MayRename m
may_rename f page disk m h may = renames f disk m h page may

pub front_is_oldest : {ends : Bool} (f : StoreFacts) (page : ℕ) (disk : Disk) (m : Store) → StandsBehindAs ends f disk m → MayNameNoted f page → IsOldest f.log (front_lsn f.log page)
front_is_oldest f page disk m h may = may_front f disk m h page may

module _ {D : Type 0} (gives : D → Option (List (List ℕ))) (changes : D → Changes) (moment : D → ℕ) (count page word : ℕ) (ends clean : Bool) (f : StoreFacts) (old new : D) (sees : SeesDisk (gives old) (changes old).disk)
    (sized : IfSome (changes new).disk IsSized) (may : MayEndCheckpoint f page) (close : MayClose ends f page clean) where
  abbrev sector : ℕ
  sector = restart_sector f.log

  abbrev bytes : List ℕ
  bytes = protected_bytes (restart_spelling (page_to_send f.log (front_lsn f.log page) clean)) word

  pub names_page : SendsNaming gives changes moment f.log page clean word (Ok tt) old new → SimulatesAs ends count (moment old) (changes old) (changes new) f (named_facts page f) AfterWrite
  names_page sent =
      by_device count (moment old) (sending_moment (sent_word f.log.sent) (moment old)) (changes old) (changes new) f (named_facts page f) AfterWrite refl refl
      (known_before_write _ _ _ _ (changes old) (changes new) sent.sends.writes) (sends_later (sent_word f.log.sent) (moment old)) sent.sends.writes.past
      (λ disk m is h.
      let known : IsKnown gives changes old disk = record { known = is; sees = sees } in
      let all = restart_names gives changes moment (session_of f h.lap) f.log h.ring h.restarts h.pages h.fields disk (front_lsn f.log page) clean word old new known h.stands (may_name f disk m h page may.may clean may) sent in
      let there : (changes new).disk ≡ Some (put sector (sectors_of bytes) disk) = sent.sends.writes.ok ∙ ap (option_map (put sector (sectors_of bytes))) is in
      let now : put sector (sectors_of bytes) disk ≡ all.disk = some_is (put sector (sectors_of bytes) disk) all.disk (sym there ∙ all.known) in
      let same = subst (λ (d : Disk). m.disk ≡ disk_without (own_of f) d) now
      (same_disk f disk m h page may.may (page_to_send f.log (front_lsn f.log page) clean) word (put sector (sectors_of bytes) disk) (whole_between disk (put sector (sectors_of bytes) disk) (λ i. refl))) in
      (all.disk, all.known, n f disk m h page may.may, named_behind f disk m h page may.may clean may close all.places all.told all.disk all.said all.others all.stands same (sized_of (changes new) all.disk all.known sized), after_step m (n f disk m h page may.may) refl refl refl refl refl))

  pub fails_to_name : (fault : Failed) → SendsNaming gives changes moment f.log page clean word (Err fault) old new → SimulatesAs ends count (moment old) (changes old) (changes new) f (naming_facts page clean word f) AfterWrite
  fails_to_name fault sent =
      by_device count (moment old) (sending_moment (sent_word f.log.sent) (moment old)) (changes old) (changes new) f (naming_facts page clean word f) AfterWrite refl refl
      (known_before_write _ _ _ _ (changes old) (changes new) sent.sends.writes) (sends_later (sent_word f.log.sent) (moment old)) sent.sends.writes.past
      (λ disk m is h.
      let known : IsKnown gives changes old disk = record { known = is; sees = sees } in
      let all = restart_fails gives changes moment fault (session_of f h.lap) f.log h.ring h.restarts h.pages h.fields disk (front_lsn f.log page) clean word old new known h.stands (may_name f disk m h page may.may clean may) sent in
      let torn = torn_known sector (sectors_of bytes) disk (changes new).disk (subst (λ (o : Option Disk). IsTornDisk sector (sectors_of bytes) o (changes new).disk) is sent.sends.writes.err) in
      let now : torn.0 ≡ all.disk = some_is torn.0 all.disk (sym torn.1 ∙ all.known) in
      let same = subst (λ (d : Disk). m.disk ≡ disk_without (own_of f) d) now (same_disk f disk m h page may.may (page_to_send f.log (front_lsn f.log page) clean) word torn.0 torn.2) in
      (all.disk, all.known, x f disk m h page may.may, naming_behind f disk m h page may.may clean may close word all.places all.told all.disk all.said all.others all.stands same (sized_of (changes new) all.disk all.known sized), after_step m (x f disk m h page may.may) refl refl refl refl refl))
