-- Restart pages stand after each call.
use Rattle.std.proofs.Common.{◌≡◌, ◌≢◌, ℕ, suc, ◌+◌, ◌-◌, ◌/◌, ◌^◌, ◌<◌, Bool, true, false, cond, List, length, Option, Some, None, Ok, Err, refl, sym, ap, ap₂, ◌∙◌, subst, inl, arith, ◌≤◌, inr, ◌⊎◌}
use Rattle.std.specs.Prelude.{IfSome, is_some, min}
use Rattle.std.specs.Option.{option_map}
use Rattle.std.proofs.lemmas.Bool.{cases_lt, lt-ltb, eq-eqb, ne_eqb, or_left, or_right, and_from}
use Rattle.host_base.specs.declared.outside.Failed.{Failed}
use Rattle.ring_laws.specs.fixup_record.Protecting.{protected_bytes}
use Rattle.ring_laws.proofs.fixup_record.Protected.{length-protected}
use Rattle.log_area.specs.sector_device.Disks.{Disk, SeesDisk, IsTornDisk, IsBetween, put, settled}
use Rattle.log_area.specs.sector_device.Moments.{Changes}
use Rattle.log_area.specs.sector_device.Sectors.{sectors_of}
use Rattle.log_area.specs.sector_device.WholeSectors.{length-sectors_of}
use Rattle.log_area.specs.disk_model.Sectors.{sector_of, raw_from}
use Rattle.ring_laws.specs.log_model.declared.entry.Entry.{Entry}
use Rattle.ring_laws.specs.log_page.declared.restart.Restart.{Restart}
use Rattle.ring_laws.specs.log_page.Places.{first_page}
use Rattle.ring_laws.specs.log_page.CheckWords.{IsCheckWord}
use Rattle.ring_laws.specs.log_page.Restarts.{restart_spelling, is_newer, FitsRestart}
use Rattle.ring_laws.specs.log_page.RestartLaws.{HasRanges}
use Rattle.ring_laws.proofs.log_page.Spelled.{length-restart_spelling}
use Rattle.ring_laws.specs.log_reading.Rings.{IsRingPlace}
use Rattle.ring_laws.specs.store_model.Rings.{PagePlaces, Ring, Restarts, restart_place, synced_places}
use Rattle.ring_laws.specs.Numbers.{LogSession}
use Rattle.ring_laws.specs.PageBytes.{page_sector, AreAlike, spelled_restart}
use Rattle.ring_laws.specs.RestartPages.{RestartFields, HoldsRestarts, with_next, restart_written, restart_sent, restart_synced, IsBelow}
use Rattle.ring_laws.specs.Laws.{restart_put}
use Rattle.ring_laws.proofs.LogSectors.{kept_by_page}
use Rattle.ring_laws.proofs.RestartCalls.{restart_picks, restarts_sync}
use Rattle.ring_laws.proofs.RestartWrites.{restart_is_sent, restart_not_sent}
use Rattle.log_area.specs.Areas.{LogAreaOf, IsLogArea, IsSpelled, next_number, next_at, number_of, restart_sector, sent_word, naming_page, page_to_send, named_area, synced_area, next_lsn}
use Rattle.log_area.specs.declared.restart.SentRestart.{SentRestart}
use Rattle.log_area.specs.Calls.{IsCheckOf}
use Rattle.log_area.proofs.Numbering.{lsn_room, next_inside}
use Rattle.area_laws.specs.Standing.{StandsRing, StandsRestarts, Stands, IsOlder}
use Rattle.area_laws.specs.Laws.{IsKnown, SendsRestart, MayName, RestartsStandAfter}
use Rattle.area_laws.proofs.Calling.{picked_of, torn_known, whole_between, ring_stays}

-- restart pages of a ring whose fields on them are those of before
pub same_restarts : (s : LogSession) (a b : LogAreaOf) (q : Restarts) (fields : RestartFields) (disk now : Disk) → b.sent ≡ a.sent → b.named ≡ a.named → b.restart ≡ a.restart → b.pages ≡ a.pages → b.lap ≡ a.lap → b.opens ≡ a.opens → next_lsn a 0x58 ≤ next_lsn b 0x58
    → HoldsRestarts s.place q (sent_word a.sent) fields now → StandsRestarts s a q fields disk → StandsRestarts s b q fields now
same_restarts s a b q fields disk now sent named restart pages lap opens rises holds h = record {
  restarts = subst (λ (o : Option SentRestart). HoldsRestarts s.place q (sent_word o) fields now) (sym sent) holds;
  done = h.done ∙ ap (λ (o : Option ℕ). is_some o) (sym named);
  place = restart ∙ h.place;
  said = subst (λ (o : Option SentRestart). IfSome o (λ x. fields (suc q.sure) ≡ Some x.page)) (sym sent) h.said;
  older = still_older (fields (cond q.done (suc q.sure) q.sure)) h.older;
  sent_before = subst (λ (o : Option SentRestart). IfSome o (λ x. (x.page.current ≤ next_lsn b 0x58) × (x.page.opens ≡ b.opens))) (sym sent) (still_before a.sent h.sent_before);
  names = subst (λ (o : Option ℕ). IfSome o (λ n. (x : Restart) × (fields (suc q.sure) ≡ Some x) × (number_of b x.oldest ≡ n))) (sym named) (renamed a.named h.names);
}
  where
    older_then : (x : Restart) → IsOlder a x → IsOlder b x
    older_then x (inl lt) = inl (omega (arith, lt, rises))
    older_then x (inr (same, count)) = elim (cases_lt (next_lsn a 0x58) (next_lsn b 0x58)) [
      | inl lt ↦ inl (omega arith)
      | inr le ↦ inr (omega (arith, rises), counted count)
    ]
      where
        counted : (x.opens < a.opens) ⊎ (a.opens ≡ 2 ^ 32 - 1) → (x.opens < b.opens) ⊎ (b.opens ≡ 2 ^ 32 - 1)
        counted (inl lt) = inl (omega arith)
        counted (inr top) = inr (opens ∙ top)

    still_older : (o : Option Restart) → IfSome o (IsOlder a) → IfSome o (IsOlder b)
    still_older None older = tt
    still_older (Some x) older = older_then x older

    still_before : (o : Option SentRestart) → IfSome o (λ x. (x.page.current ≤ next_lsn a 0x58) × (x.page.opens ≡ a.opens)) → IfSome o (λ x. (x.page.current ≤ next_lsn b 0x58) × (x.page.opens ≡ b.opens))
    still_before None before = tt
    still_before (Some x) before = (omega (arith, before.0, rises), before.1 ∙ sym opens)

    same_number : (x : ℕ) → number_of b x ≡ number_of a x
    same_number x = ap₂ (λ (p : ℕ) (l : ℕ). number_of (record a { pages = p; lap = l }) x) pages lap

    renamed : (o : Option ℕ) → IfSome o (λ n. (x : Restart) × (fields (suc q.sure) ≡ Some x) × (number_of a x.oldest ≡ n)) → IfSome o (λ n. (x : Restart) × (fields (suc q.sure) ≡ Some x) × (number_of b x.oldest ≡ n))
    renamed None names = tt
    renamed (Some n) names = (names.0, names.1, same_number (names.0).oldest ∙ names.2)

none_some : (o : Option ℕ) (b : Bool) → b ≡ is_some o → o ≡ None → b ≡ false
none_some o b e none = e ∙ ap (λ (x : Option ℕ). is_some x) none

-- ---- a restart page is sent

module _ (s : LogSession) (a : LogAreaOf) (r : Ring) (q : Restarts) (pages : List (List Entry)) (fields : RestartFields) (disk : Disk) (oldest : ℕ) (clean : Bool) (h : Stands s a r q pages fields disk) (may : MayName a q fields oldest clean) where
  k : IsLogArea a
  k = h.ring.area

  lies : IsRingPlace s.place
  lies = h.ring.ring.lies

  abbrev next : Restart
  next = page_to_send a oldest clean

  early : q.done ≡ false
  early = none_some a.named q.done h.restarts.done may.synced

  place_is : a.restart ≡ restart_place (suc q.sure)
  place_is = h.restarts.place ∙ ap (λ (b : Bool). restart_place (cond b (suc (suc q.sure)) (suc q.sure))) early

  sector_is : restart_sector a ≡ page_sector s.place (restart_place (suc q.sure))
  sector_is =
      let two = k.two in
      let some = lies.ring in
      h.ring.session.firsts a.restart (omega arith) ∙ ap (λ (n : ℕ). page_sector s.place n) place_is

  bytes_are : (word : ℕ) → protected_bytes (restart_spelling next) word ≡ spelled_restart next word
  unfolding spelled_restart
  bytes_are word = refl

  put_is : (word : ℕ) → put (restart_sector a) (sectors_of (protected_bytes (restart_spelling next) word)) disk ≡ restart_put s.place q next word disk
  put_is word = ap₂ (λ (f : ℕ) (b : List ℕ). put f (sectors_of b) disk) sector_is (bytes_are word)

  -- the last durable one is below a new one
  below_new : (o : Option Restart) → fields q.sure ≡ o → IsBelow o (Some (naming_page a oldest clean))
  below_new None is = tt
  below_new (Some x) is = by_age (subst (λ (o : Option Restart). IfSome o (IsOlder a)) (ap (λ (b : Bool). fields (cond b (suc q.sure) q.sure)) early ∙ is) h.restarts.older)
    where
      by_current : x.current < next_lsn a 0x58 → is_newer x (naming_page a oldest clean) ≡ true
      by_current lt = or_left _ _ (lt-ltb x.current (next_lsn a 0x58) lt)

      by_age : IsOlder a x → is_newer x (naming_page a oldest clean) ≡ true
      by_age (inl lt) = by_current lt
      by_age (inr (same, inl lt)) = or_right _ _ (and_from _ _ (eq-eqb x.current (next_lsn a 0x58) same) (lt-ltb x.opens a.opens lt))
      by_age (inr (same, inr top)) = elim (may.newer x is) [
        | inl room ↦ absurd (omega arith)
        | inr lt ↦ by_current lt
      ]

  -- the restart page as it is begun by this word
  abbrev IsReady : ℕ → Type 0
  IsReady word = (told : RestartFields) × (told (suc q.sure) ≡ Some next) × ((m : ℕ) → m ≢ suc q.sure → told m ≡ fields m) × HoldsRestarts s.place q (Some word) told disk

  told_next : with_next q next fields (suc q.sure) ≡ Some next
  told_next = ap (λ (b : Bool). cond b (Some next) (fields (suc q.sure))) (eq-eqb (suc q.sure) (suc q.sure) refl)

  told_others : (m : ℕ) → m ≢ suc q.sure → with_next q next fields m ≡ fields m
  told_others m apart = ap (λ (b : Bool). cond b (Some next) (fields m)) (ne_eqb m (suc q.sure) apart)

  ready : (gives : Option (List (List ℕ))) (word : ℕ) → SeesDisk gives (Some disk) → IsCheckOf (sent_word a.sent) gives (restart_sector a) word → IsReady word
  ready gives word sees chosen = by_sent a.sent refl
    where
      by_sent : (o : Option SentRestart) → a.sent ≡ o → IsReady word
      by_sent (Some x) is =
          let same : word ≡ x.check = subst (λ (o : Option SentRestart). IfSome (sent_word o) (λ c. word ≡ c)) is chosen.kept in
          let page : next ≡ x.page = ap (λ (o : Option SentRestart). page_to_send (record a { sent = o }) oldest clean) is in
          let said : fields (suc q.sure) ≡ Some x.page = subst (λ (o : Option SentRestart). IfSome o (λ y. fields (suc q.sure) ≡ Some y.page)) is h.restarts.said in (
            fields,
            said ∙ ap Some (sym page),
            (λ m apart. refl),
            subst (λ (w : ℕ). HoldsRestarts s.place q (Some w) fields disk) (sym same) (subst (λ (o : Option SentRestart). HoldsRestarts s.place q (sent_word o) fields disk) is h.restarts.restarts),
          )
      by_sent None is =
          let page : next ≡ naming_page a oldest clean = ap (λ (o : Option SentRestart). page_to_send (record a { sent = o }) oldest clean) is in
          let few = lsn_room a (next_number a 0x58) (next_at a 0x58) k.some k.few may.lap (next_inside a 0x58 (omega arith)) in
          let bounds = k.few in
          let opens = may.few in
          let fits : FitsRestart next = subst FitsRestart (sym page) (record { major = refl; minor = refl; own = refl }) in
          let ranges : HasRanges next = subst HasRanges (sym page) (record { current = omega arith; oldest = may.small; opens = may.few; bytes = omega arith }) in
          let picked = subst (λ (f : ℕ). IfSome gives (λ d. IsCheckWord (raw_from (sector_of d) f 8) word)) sector_is (chosen.picked (ap sent_word is)) in (
            with_next q next fields,
            told_next,
            told_others,
            restart_picks s.place q fields disk next word (subst (λ (o : Option SentRestart). HoldsRestarts s.place q (sent_word o) fields disk) is h.restarts.restarts) early fits ranges (subst (λ (p : Restart). IsBelow (fields q.sure) (Some p)) (sym page) (below_new (fields q.sure) refl))
                (picked_of s.place gives disk (restart_place (suc q.sure)) word sees picked),
          )

  fits_next : FitsRestart next
  fits_next = by_sent a.sent refl
    where
      by_sent : (o : Option SentRestart) → a.sent ≡ o → FitsRestart next
      by_sent (Some x) is =
          let page : next ≡ x.page = ap (λ (o : Option SentRestart). page_to_send (record a { sent = o }) oldest clean) is in
          let spelled = subst (λ (o : Option SentRestart). IfSome o IsSpelled) is k.spelled in
          subst FitsRestart (sym page) spelled.0
      by_sent None is =
          let page : next ≡ naming_page a oldest clean = ap (λ (o : Option SentRestart). page_to_send (record a { sent = o }) oldest clean) is in
          subst FitsRestart (sym page) (record { major = refl; minor = refl; own = refl })

  oldest_next : next.oldest ≡ oldest
  oldest_next = by_sent a.sent refl
    where
      by_sent : (o : Option SentRestart) → a.sent ≡ o → next.oldest ≡ oldest
      by_sent (Some x) is =
          let page : next ≡ x.page = ap (λ (o : Option SentRestart). page_to_send (record a { sent = o }) oldest clean) is in
          ap (λ (p : Restart). p.oldest) page ∙ subst (λ (o : Option SentRestart). IfSome o (λ y. y.page.oldest ≡ oldest)) is may.again
      by_sent None is = ap (λ (o : Option SentRestart). (page_to_send (record a { sent = o }) oldest clean).oldest) is

  before_next : (next.current ≤ next_lsn a 0x58) × (next.opens ≡ a.opens)
  before_next = by_sent a.sent refl
    where
      by_sent : (o : Option SentRestart) → a.sent ≡ o → (next.current ≤ next_lsn a 0x58) × (next.opens ≡ a.opens)
      by_sent (Some x) is =
          let page : next ≡ x.page = ap (λ (o : Option SentRestart). page_to_send (record a { sent = o }) oldest clean) is in
          subst (λ (p : Restart). (p.current ≤ next_lsn a 0x58) × (p.opens ≡ a.opens)) (sym page) (subst (λ (o : Option SentRestart). IfSome o (λ y. (y.page.current ≤ next_lsn a 0x58) × (y.page.opens ≡ a.opens))) is h.restarts.sent_before)
      by_sent None is =
          let page : next ≡ naming_page a oldest clean = ap (λ (o : Option SentRestart). page_to_send (record a { sent = o }) oldest clean) is in
          subst (λ (p : Restart). (p.current ≤ next_lsn a 0x58) × (p.opens ≡ a.opens)) (sym page) (omega arith, refl)

  -- once it is written it is older than the one after it
  next_older : IsOlder (named_area oldest a) next
  next_older =
      let few = may.few in
      let facts = before_next in
      elim (cases_lt next.current (next_lsn a 0x58)) [
        | inl lt ↦ inl lt
        | inr le ↦ elim (cases_lt a.opens (2 ^ 32 - 1)) [
          | inl room ↦ inr (omega (arith, facts.0), inl (omega (arith, facts.1)))
          | inr top ↦ inr (omega (arith, facts.0), inr (omega arith))
        ]
      ]

  -- the ring isn't touched
  ring_kept : (word : ℕ) (now : Disk) → IsBetween disk (restart_put s.place q next word disk) now → AreAlike s.place first_page s.place.pages disk now
  ring_kept word now between =
      let some = lies.ring in
      let size = length-protected (restart_spelling next) word ∙ length-restart_spelling next in
      let eight : length (sectors_of (spelled_restart next word)) ≡ 8 = length-sectors_of (spelled_restart next word) ∙ ap (λ (b : List ℕ). length b / 512) (sym (bytes_are word)) ∙ omega arith in
      let low : restart_place (suc q.sure) < 2 = omega arith in
      kept_by_page s.place first_page s.place.pages (restart_place (suc q.sure)) (sectors_of (spelled_restart next word)) disk now lies (omega arith) (omega arith) eight (inl (omega arith)) between

  named_keeps : IsLogArea (named_area oldest a)
  named_keeps = record {
    some = k.some;
    few = k.few;
    counted = k.counted;
    inside = k.inside;
    places = k.places;
    begun = k.begun;
    above = k.above;
    below = k.below;
    durable_pages = k.durable_pages;
    written_pages = k.written_pages;
    sealed_pages = k.sealed_pages;
    room = k.room;
    own_page = k.own_page;
    laps = k.laps;
    own_lap = k.own_lap;
    two = omega arith;
    word = k.word;
    spelled = tt;
    names = (may.place.from, may.place.upto);
  }

  sent_keeps : (word : ℕ) → 0 < word → word < 0xFFFF → IsLogArea (record a { sent = Some (record { page = next; check = word }) })
  sent_keeps word above below = record {
    some = k.some;
    few = k.few;
    counted = k.counted;
    inside = k.inside;
    places = k.places;
    begun = k.begun;
    above = k.above;
    below = k.below;
    durable_pages = k.durable_pages;
    written_pages = k.written_pages;
    sealed_pages = k.sealed_pages;
    room = k.room;
    own_page = k.own_page;
    laps = k.laps;
    own_lap = k.own_lap;
    two = k.two;
    word = k.word;
    spelled = (fits_next, (above, below));
    names = k.names;
  }

  -- the ring stands with other restart pages
  ring_with : (restart opens : ℕ) (sent : Option SentRestart) (named : Option ℕ) (now : Disk) → IsLogArea (record a { restart = restart; opens = opens; sent = sent; named = named }) → StandsRing s a r pages now
      → StandsRing s (record a { restart = restart; opens = opens; sent = sent; named = named }) r pages now
  ring_with restart opens sent named now keeps t = record {
    area = keeps;
    session = record { pages = t.session.pages; lap = t.session.lap; firsts = t.session.firsts };
    ring = t.ring;
    oldest = t.oldest;
    synced = t.synced;
    done = t.done;
    counted = t.counted;
    held = t.held;
    free = t.free;
    begun = t.begun;
    reached = t.reached;
    durable = t.durable;
  }

  named_stands : (word : ℕ) (told : RestartFields) (places : PagePlaces) (now : Disk) → told (suc q.sure) ≡ Some next → IsBetween disk (restart_put s.place q next word disk) now → HoldsRestarts s.place (restart_written q places) None told now
      → Stands s (named_area oldest a) r (restart_written q places) pages told now
  named_stands word told places now said between holds = record {
    ring = ring_with (1 - a.restart) (min (a.opens + 1) (2 ^ 32 - 1)) None (Some (number_of a oldest)) now named_keeps (ring_stays s a r pages disk now h.ring (ring_kept word now between));
    restarts = record {
      restarts = holds;
      done = refl;
      place = (let here = place_is in let two = k.two in omega arith);
      said = tt;
      older = subst (λ (o : Option Restart). IfSome o (IsOlder (named_area oldest a))) (sym said) next_older;
      sent_before = tt;
      names = (next, said, ap (number_of a) oldest_next);
    };
  }

  sent_stands : (word : ℕ) (told : RestartFields) (places : PagePlaces) (now : Disk) → 0 < word → word < 0xFFFF → told (suc q.sure) ≡ Some next → ((m : ℕ) → m ≢ suc q.sure → told m ≡ fields m) → IsBetween disk (restart_put s.place q next word disk) now
      → HoldsRestarts s.place (restart_sent q places) (Some word) told now → Stands s (record a { sent = Some (record { page = next; check = word }) }) r (restart_sent q places) pages told now
  sent_stands word told places now above below said others between holds = record {
    ring = ring_with a.restart a.opens (Some (record { page = next; check = word })) a.named now (sent_keeps word above below) (ring_stays s a r pages disk now h.ring (ring_kept word now between));
    restarts = record {
      restarts = holds;
      done = h.restarts.done;
      place = h.restarts.place;
      said = said;
      older = subst (λ (b : Bool). IfSome (told (cond b (suc q.sure) q.sure)) (IsOlder a)) (sym early)
          (subst (λ (o : Option Restart). IfSome o (IsOlder a)) (sym (others q.sure (λ e. omega (arith, e)))) (subst (λ (b : Bool). IfSome (fields (cond b (suc q.sure) q.sure)) (IsOlder a)) early h.restarts.older));
      sent_before = before_next;
      names = none_named a.named may.synced;
    };
  }
    where
      none_named : (o : Option ℕ) → o ≡ None → IfSome o (λ n. (x : Restart) × (told (suc q.sure) ≡ Some x) × (number_of a x.oldest ≡ n))
      none_named None e = tt
      none_named (Some n) e = absurd cc

pub restart_names : {D : Type 0} (gives : D → Option (List (List ℕ))) (changes : D → Changes) (moment : D → ℕ) (s : LogSession) (a : LogAreaOf) (r : Ring) (q : Restarts) (pages : List (List Entry)) (fields : RestartFields) (disk : Disk)
    (oldest : ℕ) (clean : Bool) (word : ℕ) (old new : D) → IsKnown gives changes old disk → Stands s a r q pages fields disk → MayName a q fields oldest clean → SendsRestart gives changes moment a oldest clean word (Ok tt) old new
    → RestartsStandAfter changes s (named_area oldest a) r (restart_written q) pages fields (suc q.sure) (page_to_send a oldest clean) new
restart_names gives changes moment s a r q pages fields disk oldest clean word old new known h may sent =
    let sees = subst (λ (o : Option Disk). SeesDisk (gives old) o) known.known known.sees in
    let begun = ready s a r q pages fields disk oldest clean h may (gives old) word sees sent.chosen in
    let next = page_to_send a oldest clean in
    let after = restart_is_sent s.place q begun.0 disk word begun.3 next begun.1 in
    record {
      disk = restart_put s.place q next word disk;
      known = sent.sends.writes.ok ∙ ap (option_map (put (restart_sector a) (sectors_of (protected_bytes (restart_spelling next) word)))) known.known ∙ ap Some (put_is s a r q pages fields disk oldest clean h may word);
      places = after.0;
      told = begun.0;
      said = begun.1;
      others = begun.2;
      stands = named_stands s a r q pages fields disk oldest clean h may word begun.0 after.0 (restart_put s.place q next word disk) begun.1 (whole_between disk (restart_put s.place q next word disk) (λ i. refl)) after.1;
    }

pub restart_fails : {D : Type 0} (gives : D → Option (List (List ℕ))) (changes : D → Changes) (moment : D → ℕ) (fault : Failed) (s : LogSession) (a : LogAreaOf) (r : Ring) (q : Restarts) (pages : List (List Entry)) (fields : RestartFields) (disk : Disk)
    (oldest : ℕ) (clean : Bool) (word : ℕ) (old new : D) → IsKnown gives changes old disk → Stands s a r q pages fields disk → MayName a q fields oldest clean → SendsRestart gives changes moment a oldest clean word (Err fault) old new
    → RestartsStandAfter changes s (record a { sent = Some (record { page = page_to_send a oldest clean; check = word }) }) r (restart_sent q) pages fields (suc q.sure) (page_to_send a oldest clean) new
restart_fails gives changes moment fault s a r q pages fields disk oldest clean word old new known h may sent =
    let sees = subst (λ (o : Option Disk). SeesDisk (gives old) o) known.known known.sees in
    let begun = ready s a r q pages fields disk oldest clean h may (gives old) word sees sent.chosen in
    let next = page_to_send a oldest clean in
    let torn = torn_known (restart_sector a) (sectors_of (protected_bytes (restart_spelling next) word)) disk (changes new).disk
    (subst (λ (o : Option Disk). IsTornDisk (restart_sector a) (sectors_of (protected_bytes (restart_spelling next) word)) o (changes new).disk) known.known sent.sends.writes.err) in
    let between = subst (λ (d : Disk). IsBetween disk d torn.0) (put_is s a r q pages fields disk oldest clean h may word) torn.2 in
    let after = restart_not_sent s.place q begun.0 disk word begun.3 torn.0 next begun.1 between in
    record {
      disk = torn.0;
      known = torn.1;
      places = after.0;
      told = begun.0;
      said = begun.1;
      others = begun.2;
      stands = sent_stands s a r q pages fields disk oldest clean h may word begun.0 after.0 torn.0 sent.chosen.above sent.chosen.below begun.1 begun.2 between after.1;
    }

-- ---- a sync

-- after a sync that makes the next page the last one, and after one before it was written
abbrev late : Restarts → Restarts
late q = record q { sure = suc q.sure; begun = false; done = false; places = synced_places q.places }

abbrev soon : Restarts → Restarts
soon q = record q { places = synced_places q.places }

pub restarts_synced : (s : LogSession) (a : LogAreaOf) (q : Restarts) (fields : RestartFields) (disk : Disk) → StandsRestarts s a q fields disk → StandsRestarts s (synced_area a) (restart_synced q) fields (settled disk)
restarts_synced s a q fields disk h = by_done q.done refl
  where
    holds : HoldsRestarts s.place (restart_synced q) (sent_word a.sent) fields (settled disk)
    holds = restarts_sync s.place q (sent_word a.sent) fields disk h.restarts

    -- a page that was sent isn't the one that is durable now
    none_sent : q.done ≡ true → (o : Option SentRestart) → a.sent ≡ o → IfSome o (λ x. fields (suc (suc q.sure)) ≡ Some x.page)
    none_sent done None is = tt
    none_sent done (Some x) is = absurd (let e = (h.restarts.begun x.check (ap sent_word is)).0 in cc)

    by_done : (b : Bool) → q.done ≡ b → StandsRestarts s (synced_area a) (restart_synced q) fields (settled disk)
    by_done true is =
        let here : restart_synced q ≡ late q = ap (λ (b : Bool). cond b (late q) (soon q)) is in
        subst (λ (p : Restarts). StandsRestarts s (synced_area a) p fields (settled disk)) (sym here) (record {
          restarts = subst (λ (p : Restarts). HoldsRestarts s.place p (sent_word a.sent) fields (settled disk)) here holds;
          done = refl;
          place = h.place ∙ ap (λ (b : Bool). restart_place (cond b (suc (suc q.sure)) (suc q.sure))) is;
          said = none_sent is a.sent refl;
          older = subst (λ (b : Bool). IfSome (fields (cond b (suc q.sure) q.sure)) (IsOlder a)) is h.older;
          sent_before = h.sent_before;
          names = tt;
        })
    by_done false is =
        let here : restart_synced q ≡ soon q = ap (λ (b : Bool). cond b (late q) (soon q)) is in
        subst (λ (p : Restarts). StandsRestarts s (synced_area a) p fields (settled disk)) (sym here) (record {
          restarts = subst (λ (p : Restarts). HoldsRestarts s.place p (sent_word a.sent) fields (settled disk)) here holds;
          done = is;
          place = h.place;
          said = h.said;
          older = h.older;
          sent_before = h.sent_before;
          names = tt;
        })
