-- A ring stands at its start, and after each call of the device.
use Rattle.std.proofs.Common.{◌≡◌, ℕ, zero, suc, ◌+◌, ◌-◌, ◌%◌, ◌^◌, ◌<◌, ◌≤◌, Bool, true, cond, List, [], ◌++◌, map, drop, get_or, Option, Some, None, Ok, Err, refl, sym, ap, ap₂, ◌∙◌, subst, inl, inr, arith}
use Rattle.std.specs.Prelude.{IfSome, unwrap_or, slice_index}
use Rattle.std.specs.List.{range_with_len}
use Rattle.std.specs.Option.{option_map}
use Rattle.std.proofs.lemmas.Bool.{cases_Bool}
use Rattle.std.proofs.lemmas.List.{length-drop, get_or-drop}
use Rattle.std.proofs.lemmas.List.FromFn.{get_or-map-range_with_len}
use Rattle.log_area.specs.disk_model.Sectors.{sector_of, raw_from}
use Rattle.host_base.specs.declared.outside.Failed.{Failed}
use Rattle.ring_laws.specs.fixup_record.Protecting.{protected_bytes}
use Rattle.log_area.specs.sector_device.Disks.{Disk, SeesDisk, IsSized, IsTornDisk, IsBetween, put, settled, seen}
use Rattle.log_area.specs.sector_device.Moments.{Changes}
use Rattle.log_area.specs.sector_device.Sectors.{sectors_of}
use Rattle.ring_laws.specs.log_model.declared.entry.Entry.{Entry}
use Rattle.ring_laws.specs.log_page.declared.places.LogPlace.{LogPlace}
use Rattle.ring_laws.specs.log_page.Places.{first_page, sequence_bits, lap_of}
use Rattle.ring_laws.specs.log_page.CheckWords.{IsCheckWord}
use Rattle.ring_laws.specs.log_page.LiveLogs.{said_lsn}
use Rattle.ring_laws.specs.log_page.PageSpellings.{end_lsn, page_front, page_spelling}
use Rattle.ring_laws.specs.log_reading.Rings.{IsRingPlace}
use Rattle.ring_laws.specs.store_model.Rings.{PagePlaces, Ring, synced_places}
use Rattle.ring_laws.specs.Numbers.{LogSession, place_of_page, lap_of_page, lsn_of_page, IsInRing}
use Rattle.ring_laws.specs.PageBytes.{page_sector, raw_page, IsStill, AreAlike, spelled_page}
use Rattle.ring_laws.specs.RingPages.{HoldsRing, entries_of_page, first_ring, page_written, page_sent}
use Rattle.ring_laws.specs.Laws.{page_put}
use Rattle.ring_laws.proofs.Numbering.{in_ring}
use Rattle.ring_laws.proofs.RingFacts.{has_ring}
use Rattle.ring_laws.proofs.RingCalls.{begins, syncs, frees, picks, kept_by_others}
use Rattle.ring_laws.proofs.RingWrites.{page_is_written, page_fails}
use Rattle.log_area.specs.Areas.{RingPageOf, LogAreaOf, IsLogArea, page_first, new_area, is_filling, used_pages, held_page, made_page, sealed_area, written_area, synced_area, page_sector as area_sector}
use Rattle.log_area.specs.Calls.{IsCheckOf}
use Rattle.log_area.proofs.Keeping.{seal_keeps, start_keeps}
use Rattle.area_laws.specs.Standing.{HoldsEntries, StandsRing, end_before, freed_to}
use Rattle.area_laws.specs.Laws.{IsKnown, SendsNext}

-- ---- the start

first_placed : (place : LogPlace) (k : ℕ) → k < place.pages → slice_index (map (page_first place) (range_with_len 0 place.pages)) k ≡ page_sector place k
unfolding page_sector
first_placed place k lt = get_or-map-range_with_len (page_first place) 0 place.pages k k 0 lt (omega arith)

pub ring_starts : (s : LogSession) (restart opens : ℕ) (disk : Disk) → IsRingPlace s.place → 1 ≤ s.lap → s.lap < 2 ^ sequence_bits s.place.pages → restart ≤ 1 → IsSized disk
    → ((k : ℕ) → IsInRing s.place k → IsStill s.place disk k) → ((k lsn : ℕ) → IsInRing s.place k → said_lsn (raw_page s.place (seen disk) k) ≡ Some lsn → lap_of s.place.pages lsn < s.lap)
    → StandsRing s (new_area s.place s.lap restart opens) (first_ring s) [] disk
ring_starts s restart opens disk lies begun less two sized still low = record {
  area = start_keeps s.place _ _ s.lap restart opens lies begun less two refl refl;
  session = record { pages = refl; lap = refl; firsts = first_placed s.place };
  ring = begins s disk lies sized still low;
  oldest = refl;
  synced = refl;
  done = refl;
  counted = refl;
  held = λ n le lt. absurd (omega (arith, lt));
  free = λ filling. absurd cc;
  begun = λ word c. absurd cc;
  reached = λ lt. absurd (omega (arith, lt));
  durable = λ lt. absurd (omega (arith, lt));
}

-- ---- a page is sealed

seals_page : (s : LogSession) (a : LogAreaOf) (r : Ring) (pages : List (List Entry)) (disk : Disk) → StandsRing s a r pages disk → is_filling a ≡ true → StandsRing s (record a { free = 64; sealed = a.sealed + 1 }) r pages disk
seals_page s a r pages disk h filling =
    let k = h.area in
    let used : used_pages a ≡ a.sealed - a.oldest + 1 = ap (λ (b : Bool). a.sealed - a.oldest + cond b 1 0) filling in
    record {
      area = seal_keeps a k filling;
      session = record { pages = h.session.pages; lap = h.session.lap; firsts = h.session.firsts };
      ring = h.ring;
      oldest = h.oldest;
      synced = h.synced;
      done = h.done;
      counted = omega (arith, h.counted, k.durable_pages, k.written_pages, k.sealed_pages);
      held = λ n le lt. h.held n le (omega (arith, lt, k.durable_pages, k.written_pages, k.sealed_pages));
      free = λ e. absurd cc;
      begun = λ word c. omega (arith, h.begun word c);
      reached = h.reached;
      durable = h.durable;
    }

pub ring_seals : (s : LogSession) (a : LogAreaOf) (r : Ring) (pages : List (List Entry)) (disk : Disk) → StandsRing s a r pages disk → StandsRing s (sealed_area a) r pages disk
ring_seals s a r pages disk h = elim (cases_Bool (is_filling a)) [
  | inl filling ↦
      subst (λ (b : LogAreaOf). StandsRing s b r pages disk) (sym (ap (λ (b : Bool). cond b (record a { free = 64; sealed = a.sealed + 1 }) a) filling)) (seals_page s a r pages disk h filling)
  | inr empty ↦ subst (λ (b : LogAreaOf). StandsRing s b r pages disk) (sym (ap (λ (b : Bool). cond b (record a { free = 64; sealed = a.sealed + 1 }) a) empty)) h
]

-- ---- a page is sent

made_is : (s : LogSession) (n : ℕ) (entries : List Entry) (p : RingPageOf) → HoldsEntries s n entries p → made_page p ≡ page_spelling s.place.pages (lap_of_page s n) (place_of_page s n) entries
unfolding page_spelling
made_is s n entries p h = ap₂ (λ (f : List ℕ) (b : List ℕ). f ++ b) (ap₂ page_front h.last h.free) h.behind

raw_as : (f g : ℕ → List ℕ) (first n : ℕ) → ((i : ℕ) → f i ≡ g i) → raw_from f first n ≡ raw_from g first n
unfolding raw_from
raw_as f g first zero same = refl
raw_as f g first (suc n) same = ap₂ (λ (x : List ℕ) (y : List ℕ). x ++ y) (same first) (raw_as f g (first + 1) n same)

-- what is read of a place
raw_seen : (place : LogPlace) (gives : List (List ℕ)) (disk : Disk) (k : ℕ) → ((i : ℕ) → sector_of gives i ≡ seen disk i) → raw_from (sector_of gives) (page_sector place k) 8 ≡ raw_page place (seen disk) k
unfolding raw_page
raw_seen place gives disk k same = raw_as (sector_of gives) (seen disk) (page_sector place k) 8 same

pub picked_of : (place : LogPlace) (gives : Option (List (List ℕ))) (disk : Disk) (k word : ℕ) → SeesDisk gives (Some disk) → IfSome gives (λ d. IsCheckWord (raw_from (sector_of d) (page_sector place k) 8) word)
    → IsCheckWord (raw_page place (seen disk) k) word
picked_of place None disk k word sees picked = absurd sees
picked_of place (Some g) disk k word sees picked = subst (λ (raw : List ℕ). IsCheckWord raw word) (raw_seen place g disk k sees) picked

pub torn_known : (first : ℕ) (new : List (List ℕ)) (disk : Disk) (o : Option Disk) → IsTornDisk first new (Some disk) o → (now : Disk) × (o ≡ Some now) × IsBetween disk (put first new disk) now
torn_known first new disk None torn = absurd torn
torn_known first new disk (Some now) torn = (now, refl, torn)

module _ (s : LogSession) (a : LogAreaOf) (r : Ring) (pages : List (List Entry)) (disk : Disk) (h : StandsRing s a r pages disk) (lt : a.done < a.sealed) where
  k : IsLogArea a
  k = h.area

  inside : a.done < a.oldest + used_pages a
  inside = omega (arith, lt, k.durable_pages, k.written_pages)

  held : HoldsEntries s a.done (get_or pages (a.done - a.oldest) []) (held_page a a.done)
  held = h.held a.done (omega arith) inside

  entries_are : entries_of_page r pages r.done ≡ get_or pages (a.done - a.oldest) []
  entries_are = ap₂ (λ (d : ℕ) (o : ℕ). get_or pages (d - o) []) h.done h.oldest

  pub held_here : HoldsEntries s r.done (entries_of_page r pages r.done) (held_page a a.done)
  held_here =
      subst (λ (es : List Entry). HoldsEntries s r.done es (held_page a a.done)) (sym entries_are)
      (subst (λ (n : ℕ). HoldsEntries s n (get_or pages (a.done - a.oldest) []) (held_page a a.done)) (sym h.done) held)

  sector_is : area_sector a a.done ≡ page_sector s.place (place_of_page s r.done)
  sector_is =
      let there = in_ring s (has_ring s.place h.ring.lies) a.done in
      let e : a.done % (a.pages - 4) + 4 ≡ place_of_page s a.done = ap (λ (p : ℕ). a.done % (p - 4) + 4) h.session.pages ∙ omega arith in
      ap (λ (i : ℕ). slice_index a.firsts i) e ∙ h.session.firsts (place_of_page s a.done) there.inside ∙ ap (λ (n : ℕ). page_sector s.place (place_of_page s n)) (sym h.done)

  bytes_are : (word : ℕ) → protected_bytes (made_page (held_page a a.done)) word ≡ spelled_page s r.done (entries_of_page r pages r.done) word
  unfolding spelled_page
  bytes_are word = ap (λ (page : List ℕ). protected_bytes page word) (made_is s r.done (entries_of_page r pages r.done) (held_page a a.done) held_here)

  put_is : (word : ℕ) → put (area_sector a a.done) (sectors_of (protected_bytes (made_page (held_page a a.done)) word)) disk ≡ page_put s r pages word disk
  put_is word = ap₂ (λ (f : ℕ) (b : List ℕ). put f (sectors_of b) disk) sector_is (bytes_are word)

  ready : (gives : Option (List (List ℕ))) (word : ℕ) → SeesDisk gives (Some disk) → IsCheckOf a.check gives (area_sector a a.done) word → HoldsRing s r (Some word) pages disk
  ready gives word sees chosen = by_check a.check refl
    where
      by_check : (c : Option ℕ) → a.check ≡ c → HoldsRing s r (Some word) pages disk
      by_check (Some w) is =
          let same : word ≡ w = subst (λ (o : Option ℕ). IfSome o (λ x. word ≡ x)) is chosen.kept in
          subst (λ (x : ℕ). HoldsRing s r (Some x) pages disk) (sym same) (subst (λ (o : Option ℕ). HoldsRing s r o pages disk) is h.ring)
      by_check None is =
          let picked = subst (λ (f : ℕ). IfSome gives (λ d. IsCheckWord (raw_from (sector_of d) f 8) word)) sector_is (chosen.picked is) in
          picks s r pages disk word (subst (λ (o : Option ℕ). HoldsRing s r o pages disk) is h.ring) (omega (arith, h.done, h.oldest, h.ring.size, h.session.pages, lt, k.room)) held_here.made
          (picked_of s.place gives disk (place_of_page s r.done) word sees picked)

  written_keeps : IsLogArea (written_area a)
  written_keeps = record {
    some = k.some;
    few = k.few;
    counted = k.counted;
    inside = k.inside;
    places = k.places;
    begun = k.begun;
    above = k.above;
    below = k.below;
    durable_pages = k.durable_pages;
    written_pages = omega (arith, k.written_pages);
    sealed_pages = omega (arith, lt);
    room = k.room;
    own_page = k.own_page;
    laps = k.laps;
    own_lap = k.own_lap;
    two = k.two;
    word = tt;
    spelled = k.spelled;
    names = k.names;
  }

  sent_keeps : (word : ℕ) → 0 < word → word < 0xFFFF → IsLogArea (record a { check = Some word })
  sent_keeps word above below = record {
    some = k.some;
    few = k.few;
    counted = k.counted;
    inside = k.inside;
    places = k.places;
    begun = k.begun;
    above = k.above;
    below = k.below;
    durable_pages = k.durable_pages;
    written_pages = k.written_pages;
    sealed_pages = k.sealed_pages;
    room = k.room;
    own_page = k.own_page;
    laps = k.laps;
    own_lap = k.own_lap;
    two = k.two;
    word = (above, below);
    spelled = k.spelled;
    names = k.names;
  }

  pub written_stands : (places : PagePlaces) (now : Disk) → HoldsRing s (page_written r places) None pages now → StandsRing s (written_area a) (page_written r places) pages now
  written_stands places now ring = record {
    area = written_keeps;
    session = record { pages = h.session.pages; lap = h.session.lap; firsts = h.session.firsts };
    ring = ring;
    oldest = h.oldest;
    synced = h.synced;
    done = omega (arith, h.done);
    counted = h.counted;
    held = λ n le few. h.held n (omega (arith, le)) few;
    free = h.free;
    begun = λ word c. absurd cc;
    reached = λ few.
        let last = held.last in
        let less : a.done ≡ a.done + 1 - 1 = omega arith in
        let ends : (held_page a a.done).last + 1 ≡ 1 + end_lsn (lsn_of_page s a.done) (get_or pages (a.done - a.oldest) []) = omega arith in
        ends ∙ ap (λ (d : ℕ). 1 + end_lsn (lsn_of_page s d) (get_or pages (d - a.oldest) [])) less;
    durable = h.durable;
  }

  pub sent_stands : (places : PagePlaces) (word : ℕ) (now : Disk) → 0 < word → word < 0xFFFF → HoldsRing s (page_sent r places) (Some word) pages now → StandsRing s (record a { check = Some word }) (page_sent r places) pages now
  sent_stands places word now above below ring = record {
    area = sent_keeps word above below;
    session = record { pages = h.session.pages; lap = h.session.lap; firsts = h.session.firsts };
    ring = ring;
    oldest = h.oldest;
    synced = h.synced;
    done = h.done;
    counted = h.counted;
    held = h.held;
    free = h.free;
    begun = λ w c. lt;
    reached = h.reached;
    durable = h.durable;
  }

-- A page was sent: the disk then, by the one before, and the ring that stands on it.
pub record RingAfter {D : Type 0} (changes : D → Changes) (s : LogSession) (a : LogAreaOf) (after : PagePlaces → Ring) (pages : List (List Entry)) (disk : Disk) (first : ℕ) (new : List (List ℕ)) (device : D) : Type 0 where
  pub now : Disk
  pub known : (changes device).disk ≡ Some now
  pub between : IsBetween disk (put first new disk) now
  pub places : PagePlaces
  pub stands : StandsRing s a (after places) pages now

-- what is written whole is between
pub whole_between : (before after : Disk) → ((i : ℕ) → after.durable i ≡ before.durable i) → IsBetween before after after
whole_between before after same = record { durable = same; written = λ i. inr refl }

pub ring_writes : {D : Type 0} (gives : D → Option (List (List ℕ))) (changes : D → Changes) (moment : D → ℕ) (s : LogSession) (a : LogAreaOf) (r : Ring) (pages : List (List Entry)) (disk : Disk) (word : ℕ) (old new : D)
    → IsKnown gives changes old disk → StandsRing s a r pages disk → a.done < a.sealed → SendsNext gives changes moment a word (Ok tt) old new
    → RingAfter changes s (written_area a) (page_written r) pages disk (page_sector s.place (place_of_page s r.done)) (sectors_of (spelled_page s r.done (entries_of_page r pages r.done) word)) new
ring_writes gives changes moment s a r pages disk word old new known h lt sent =
    let sees = subst (λ (o : Option Disk). SeesDisk (gives old) o) known.known known.sees in
    let ring = ready s a r pages disk h lt (gives old) word sees sent.chosen in
    let after = page_is_written s r pages disk word ring in
    record {
      now = page_put s r pages word disk;
      known = sent.sends.writes.ok ∙ ap (option_map (put (area_sector a a.done) (sectors_of (protected_bytes (made_page (held_page a a.done)) word)))) known.known ∙ ap Some (put_is s a r pages disk h lt word);
      between = whole_between disk (page_put s r pages word disk) (λ i. refl);
      places = after.0;
      stands = written_stands s a r pages disk h lt after.0 (page_put s r pages word disk) after.1;
    }

pub ring_sends : {D : Type 0} (gives : D → Option (List (List ℕ))) (changes : D → Changes) (moment : D → ℕ) (fault : Failed) (s : LogSession) (a : LogAreaOf) (r : Ring) (pages : List (List Entry)) (disk : Disk) (word : ℕ) (old new : D)
    → IsKnown gives changes old disk → StandsRing s a r pages disk → a.done < a.sealed → SendsNext gives changes moment a word (Err fault) old new
    → RingAfter changes s (record a { check = Some word }) (page_sent r) pages disk (page_sector s.place (place_of_page s r.done)) (sectors_of (spelled_page s r.done (entries_of_page r pages r.done) word)) new
ring_sends gives changes moment fault s a r pages disk word old new known h lt sent =
    let sees = subst (λ (o : Option Disk). SeesDisk (gives old) o) known.known known.sees in
    let ring = ready s a r pages disk h lt (gives old) word sees sent.chosen in
    let torn = torn_known (area_sector a a.done) (sectors_of (protected_bytes (made_page (held_page a a.done)) word)) disk (changes new).disk
    (subst (λ (o : Option Disk). IsTornDisk (area_sector a a.done) (sectors_of (protected_bytes (made_page (held_page a a.done)) word)) o (changes new).disk) known.known sent.sends.writes.err) in
    let between = subst (λ (d : Disk). IsBetween disk d torn.0) (put_is s a r pages disk h lt word) torn.2 in
    let after = page_fails s r pages disk torn.0 word ring between in
    record {
      now = torn.0;
      known = torn.1;
      between = between;
      places = after.0;
      stands = sent_stands s a r pages disk h lt after.0 word torn.0 sent.chosen.above sent.chosen.below after.1;
    }

-- ---- a sync

freed_bounds : (a : LogAreaOf) → IsLogArea a → (a.oldest ≤ freed_to a) × (freed_to a ≤ a.synced)
freed_bounds a k = by_name a.named k.names
  where
    by_name : (o : Option ℕ) → IfSome o (λ n. (a.oldest ≤ n) × (n ≤ a.synced)) → (a.oldest ≤ unwrap_or o a.oldest) × (unwrap_or o a.oldest ≤ a.synced)
    by_name None names = (omega arith, k.durable_pages)
    by_name (Some n) names = names

module _ (s : LogSession) (a : LogAreaOf) (r : Ring) (pages : List (List Entry)) (disk : Disk) (h : StandsRing s a r pages disk) where
  abbrev f : ℕ
  f = freed_to a

  low : a.oldest ≤ freed_to a
  low = (freed_bounds a h.area).0

  high : freed_to a ≤ a.synced
  high = (freed_bounds a h.area).1

  end_is : freed_to a < a.done → a.reached ≡ end_before s (freed_to a) (drop (freed_to a - a.oldest) pages) a.done
  end_is lt =
      let le = low in
      h.reached (omega arith)
      ∙ ap (λ (es : List Entry). 1 + end_lsn (lsn_of_page s (a.done - 1)) es) (ap (λ (i : ℕ). get_or pages i []) (omega arith) ∙ sym (get_or-drop (freed_to a - a.oldest) pages (a.done - 1 - freed_to a) []))

  pub sync_stands : StandsRing s (synced_area a) (record r { oldest = freed_to a; synced = r.done; places = synced_places r.places }) (drop (freed_to a - a.oldest) pages) (settled disk)
  sync_stands =
      let k = h.area in
      let le = low in
      let less = high in
      let ring = frees s (record r { synced = r.done; places = synced_places r.places }) a.check pages (settled disk) (syncs s r a.check pages disk h.ring) (freed_to a) (omega (arith, h.oldest)) (omega (arith, h.done, k.written_pages)) in
      record {
        area = record {
          some = k.some;
          few = k.few;
          counted = k.counted;
          inside = k.inside;
          places = k.places;
          begun = k.begun;
          above = k.above;
          below = k.below;
          durable_pages = omega (arith, k.written_pages);
          written_pages = omega arith;
          sealed_pages = k.sealed_pages;
          room = omega (arith, k.room);
          own_page = λ filling. omega (arith, k.own_page filling);
          laps = k.laps;
          own_lap = k.own_lap;
          two = k.two;
          word = k.word;
          spelled = k.spelled;
          names = tt;
        };
        session = record { pages = h.session.pages; lap = h.session.lap; firsts = h.session.firsts };
        ring = subst (λ (o : ℕ). HoldsRing s (record r { oldest = freed_to a; synced = r.done; places = synced_places r.places }) a.check (drop (freed_to a - o) pages) (settled disk)) h.oldest ring;
        oldest = refl;
        synced = h.done;
        done = h.done;
        counted = length-drop (freed_to a - a.oldest) pages ∙ omega (arith, h.counted, k.written_pages, k.sealed_pages);
        held = λ n few lt.
            let first = k.written_pages in
            let second = k.sealed_pages in
            subst (λ (es : List Entry). HoldsEntries s n es (held_page a n)) (ap (λ (i : ℕ). get_or pages i []) (omega arith) ∙ sym (get_or-drop (freed_to a - a.oldest) pages (n - freed_to a) [])) (h.held n few (omega arith));
        free = h.free;
        begun = h.begun;
        reached = end_is;
        durable = end_is;
      }

-- ---- what is done elsewhere

pub ring_stays : (s : LogSession) (a : LogAreaOf) (r : Ring) (pages : List (List Entry)) (disk now : Disk) → StandsRing s a r pages disk → AreAlike s.place first_page s.place.pages disk now → StandsRing s a r pages now
ring_stays s a r pages disk now h alike = record {
  area = h.area;
  session = h.session;
  ring = kept_by_others s r a.check pages disk h.ring now alike;
  oldest = h.oldest;
  synced = h.synced;
  done = h.done;
  counted = h.counted;
  held = h.held;
  free = h.free;
  begun = h.begun;
  reached = h.reached;
  durable = h.durable;
}
