-- The write of a page leaves a ring that the disk holds.
use Rattle.std.proofs.Common.{◌≡◌, ◌≢◌, ◌⊎◌, ℕ, suc, ◌+◌, ◌-◌, ◌^◌, ◌<◌, ◌≤◌, max, Bool, true, false, cond, List, ◌∷◌, length, Option, Some, None, refl, sym, ap, ◌∙◌, subst, inl, inr, arith}
use Rattle.std.specs.Prelude.{Contains, is_ok}
use Rattle.std.proofs.lemmas.Bool.{cases_eq, cases_lt, eq-eqb, ne_eqb}
use Rattle.log_reading.specs.disk_model.Sectors.{sector_of}
use Rattle.log_reading.specs.disk_model.Fixups.{fixup_of}
use Rattle.store_model.proofs.fixup_record.Protected.{length-protected}
use Rattle.store_model.specs.log_model.declared.entry.Entry.{Entry}
use Rattle.log_reading.specs.log_page.Places.{entries_at, lap_of}
use Rattle.log_reading.specs.log_page.RecordPages.{is_whole_page, page_reading}
use Rattle.log_reading.specs.log_page.PageSpellings.{page_spelling, end_lsn, IsPageAgain}
use Rattle.log_reading.specs.log_page.LiveLogs.{said_lsn}
use Rattle.log_laws.proofs.log_page.PageAgain.{page_size, page_again}
use Rattle.log_laws.proofs.log_page.Mixed.{other_lap_shows}
use Rattle.store_model.specs.sector_device.Sectors.{sector_in, sectors_of}
use Rattle.store_model.specs.sector_device.WholeSectors.{length-sector_in, length-sectors_of}
use Rattle.store_model.specs.sector_device.Disks.{Disk, MayHold, newest, seen, is_within, put, IsBetween}
use Rattle.store_model.proofs.sector_device.Images.{between_holds}
use Rattle.store_model.specs.Geometry.{SectorBytes}
use Rattle.store_model.proofs.Known.{is_in}
use Rattle.store_model.specs.Rings.{PagePlaces, newest_page, PlaceMayHold, Ring, is_page, HasPlaces}
use Rattle.ring_laws.specs.Numbers.{LogSession, place_of_page, lap_of_page, lsn_of_page, IsInRing}
use Rattle.ring_laws.specs.PageBytes.{page_sector, raw_page, CanLeavePage, IsStill, IsSizedPage, AreAlike, spelled_page}
use Rattle.ring_laws.specs.RingPages.{ShowsPage, entries_of_page, IsBegun, HoldsRing, page_written, page_sent}
use Rattle.ring_laws.specs.Laws.{page_put, HoldsAfter}
use Rattle.ring_laws.proofs.Numbering.{has_places, in_ring, says_lap}
use Rattle.ring_laws.proofs.LogSectors.{kept_by_page}
use Rattle.ring_laws.proofs.Mixing.{sector_of_bytes, page_is, ends_by, fixups_hold, mixed}
use Rattle.ring_laws.proofs.RingFacts.{has_ring, log_small, laps_climb, one_number, alike_holds, alike_page, alike_image, alike_still, seen_left, first_sector, first_says, with_page, with_own, with_other, third_fails, third_is_written, some_same, true_false}

module _ (s : LogSession) (r : Ring) (pages : List (List Entry)) (disk now : Disk) (word : ℕ) (h : HoldsRing s r (Some word) pages disk) (between : IsBetween disk (page_put s r pages word disk) now) where
  abbrev entries : List Entry
  entries = entries_of_page r pages r.done

  abbrev k0 : ℕ
  k0 = place_of_page s r.done

  abbrev new : List ℕ
  new = spelled_page s r.done entries word

  abbrev whole_at : List ℕ → ℕ → Bool
  whole_at raw n = is_whole_page s.place.pages raw (lsn_of_page s n)

  pub b : IsBegun s r entries disk word
  b = h.begun word refl

  small : word < 2 ^ 16
  small = omega (arith, b.picked.below)

  pub k0_in : IsInRing s.place k0
  k0_in = in_ring s (has_ring s.place h.lies) r.done

  pub again : IsPageAgain s.place.pages (lap_of_page s r.done) k0 entries new
  unfolding spelled_page
  again = page_again s.place.pages (lap_of_page s r.done) k0 entries word b.made small

  length-spelling : length (page_spelling s.place.pages (lap_of_page s r.done) k0 entries) ≡ 4096
  length-spelling = page_size s.place.pages (lap_of_page s r.done) k0 entries b.made

  pub length-new : length new ≡ 4096
  unfolding spelled_page
  length-new = length-protected (page_spelling s.place.pages (lap_of_page s r.done) k0 entries) word ∙ length-spelling

  eight : length (sectors_of new) ≡ 8
  eight = length-sectors_of new ∙ (let size = length-new in omega arith)

  -- ---- values

  -- what a sector of the page may hold now is the new page's, or that of the page before
  pub held_now : (i : ℕ) (value : List ℕ) → i < 8 → MayHold now (page_sector s.place k0 + i) value → (value ≡ sector_in new i) ⊎ (value ≡ sector_in b.old i)
  held_now i value few holds = elim (between_holds (page_sector s.place k0) (page_sector s.place k0 + i) (sectors_of new) disk now value between holds) [
    | inl was ↦ b.held i value few was
    | inr put ↦ inl (put.2 ∙ ap (sector_of (sectors_of new)) (let e : page_sector s.place k0 + i - page_sector s.place k0 ≡ i = omega arith in e) ∙ sector_of_bytes new i length-new few)
  ]

  other : (k : ℕ) → IsInRing s.place k → k ≢ k0 → AreAlike s.place k (suc k) disk now
  other k ring apart = kept_by_page s.place k (suc k) k0 (sectors_of new) disk now h.lies (omega (arith, ring.inside)) k0_in.inside eight (away k apart) between
    where
      away : (k : ℕ) → k ≢ k0 → (k0 < k) ⊎ (suc k ≤ k0)
      away k apart = elim (cases_lt k0 k) [ inl lt ↦ inl lt | inr le ↦ inr (omega (arith, le, apart)) ]

  -- ---- images of the page

  module _ (image : SectorBytes) (left : CanLeavePage s.place now image k0) where
    raw : List ℕ
    raw = raw_page s.place image k0

    new_or_old : is_ok (fixup_of (raw_page s.place image k0)) ≡ true → (raw_page s.place image k0 ≡ new) ⊎ (raw_page s.place image k0 ≡ b.old)
    unfolding spelled_page
    new_or_old = mixed s.place image k0 b.old new word b.old_size length-new b.picked (λ sector few. ends_by (page_spelling s.place.pages (lap_of_page s r.done) k0 entries) word sector length-spelling small few)
        (λ i few. held_now i (image (page_sector s.place k0 + i)) few (left i few))

    -- a page that is whole is the new one
    pub whole_is_new : (n : ℕ) → r.oldest ≤ n → place_of_page s n ≡ k0 → whole_at (raw_page s.place image k0) n ≡ true → (raw_page s.place image k0 ≡ new) × (n ≡ r.done)
    whole_is_new n low here whole = elim (new_or_old (fixups_hold s.place.pages (lsn_of_page s n) (raw_page s.place image k0) whole)) [
      | inl is_new ↦
          let whole_new : whole_at new n ≡ true = ap (λ (x : List ℕ). whole_at x n) (sym is_new) ∙ whole in
          (is_new, one_number s h.lies n r.done (other_lap_shows s.place.pages (lsn_of_page s n) (lsn_of_page s r.done) new whole_new again.whole))
      | inr is_old ↦ absurd (true_false (sym whole ∙ ap (λ (x : List ℕ). whole_at x n) is_old ∙ b.stale n low here))
    ]

    -- its number
    abbrev pub number : Option ℕ
    number = cond (whole_at (raw_page s.place image k0) r.done) (Some r.done) None

    pub number_is : (number ≡ Some r.done) ⊎ (number ≡ None)
    number_is = either (whole_at (raw_page s.place image k0) r.done)
      where
        either : (v : Bool) → (cond v (Some r.done) None ≡ Some r.done) ⊎ (cond v (Some r.done) None ≡ None)
        either true = inl refl
        either false = inr refl

    pub shows : ShowsPage s r.oldest k0 (raw_page s.place image k0) number
    shows n low here = elim (cases_eq n r.done) [
      | inl same ↦ ap (whole_at (raw_page s.place image k0)) same ∙ own (whole_at (raw_page s.place image k0) r.done) ∙ ap (is_page number) (sym same)
      | inr apart ↦ none (whole_at (raw_page s.place image k0) n) refl apart ∙ sym (foreign (whole_at (raw_page s.place image k0) r.done) n apart)
    ]
      where
        own : (v : Bool) → v ≡ is_page (cond v (Some r.done) None) r.done
        own true = sym (eq-eqb r.done r.done refl)
        own false = refl

        none : (v : Bool) → whole_at (raw_page s.place image k0) n ≡ v → n ≢ r.done → whole_at (raw_page s.place image k0) n ≡ false
        none true e apart = absurd (apart (whole_is_new n low here e).1)
        none false e apart = e

        foreign : (v : Bool) (n : ℕ) → n ≢ r.done → is_page (cond v (Some r.done) None) n ≡ false
        foreign true n apart = ne_eqb r.done n (λ e. apart (sym e))
        foreign false n apart = refl

  -- ---- the ring after it

  abbrev pub seen_number : Option ℕ
  seen_number = cond (whole_at (raw_page s.place (seen now) k0) r.done) (Some r.done) None

  abbrev pub after : PagePlaces
  after = with_page r.places k0 r.done seen_number

  pub places : HasPlaces r.size (place_of_page s)
  places = subst (λ (n : ℕ). HasPlaces n (place_of_page s)) (sym h.size) (has_places s)

  first : (x : Option ℕ) → (x ≡ Some r.done) ⊎ (x ≡ None) → PlaceMayHold after k0 x
  first x (inl is) = inr (subst (λ (vs : List (Option ℕ)). Contains vs x) (sym (with_own r.places k0 r.done seen_number)) (2, omega arith, sym is))
  first x (inr is) = inr (subst (λ (vs : List (Option ℕ)). Contains vs x) (sym (with_own r.places k0 r.done seen_number)) (1, omega arith, sym is))

  kept : (k : ℕ) (x : Option ℕ) → k ≢ k0 → PlaceMayHold r.places k x → PlaceMayHold after k x
  kept k x apart (inl e) = inl e
  kept k x apart (inr m) = inr (subst (λ (vs : List (Option ℕ)). Contains vs x) (sym (with_other r.places k0 r.done k seen_number apart)) m)

  pub leaves_now : (k : ℕ) (image : SectorBytes) → IsInRing s.place k → CanLeavePage s.place now image k → (x : Option ℕ) × PlaceMayHold after k x × ShowsPage s r.oldest k (raw_page s.place image k) x
  leaves_now k image ring left = elim (cases_eq k k0) [
    | inl same ↦
        subst (λ (j : ℕ). (x : Option ℕ) × PlaceMayHold after j x × ShowsPage s r.oldest j (raw_page s.place image j) x) (sym same)
        (let left' = subst (λ (j : ℕ). CanLeavePage s.place now image j) same left in (number image left', first (number image left') (number_is image left'), shows image left'))
    | inr apart ↦ (let old = h.leaves k image ring (alike_image s.place k (suc k) disk now (other k ring apart) k (omega arith) (omega arith) image left) in (old.0, kept k old.0 apart old.1, old.2))
  ]

  pub reads_now : (k : ℕ) → IsInRing s.place k → ShowsPage s r.oldest k (raw_page s.place (seen now) k) (newest_page (after.written k) (after.durable k))
  reads_now k ring = elim (cases_eq k k0) [
    | inl same ↦
        subst (λ (j : ℕ). ShowsPage s r.oldest j (raw_page s.place (seen now) j) (newest_page (after.written j) (after.durable j))) (sym same)
        (subst (λ (vs : List (Option ℕ)). ShowsPage s r.oldest k0 (raw_page s.place (seen now) k0) (newest_page vs (after.durable k0))) (sym (with_own r.places k0 r.done seen_number)) (shows (seen now) (seen_left s.place now k0)))
    | inr apart ↦
        subst (λ (vs : List (Option ℕ)). ShowsPage s r.oldest k (raw_page s.place (seen now) k) (newest_page vs (after.durable k))) (sym (with_other r.places k0 r.done k seen_number apart))
        (subst (λ (raw : List ℕ). ShowsPage s r.oldest k raw (newest_page (r.places.written k) (r.places.durable k))) (sym (alike_page s.place k (suc k) disk now (other k ring apart) k (omega arith) (omega arith))) (h.reads k ring))
  ]

  pub sized_now : (k : ℕ) → IsInRing s.place k → IsSizedPage s.place now k
  sized_now k ring i value few holds = elim (cases_eq k k0) [
    | inl same ↦ elim (held_now i value few (subst (λ (j : ℕ). MayHold now (page_sector s.place j + i) value) same holds)) [
      | inl e ↦ ap (λ (v : List ℕ). length v) e ∙ length-sector_in new i (omega (arith, length-new, few))
      | inr e ↦ ap (λ (v : List ℕ). length v) e ∙ length-sector_in b.old i (omega (arith, b.old_size, few))
    ]
    | inr apart ↦ h.sized k ring i value few (alike_holds s.place k (suc k) disk now (other k ring apart) k (omega arith) (omega arith) i value few holds)
  ]

  pub gives_now : (n : ℕ) (image : SectorBytes) → r.oldest ≤ n → CanLeavePage s.place now image (place_of_page s n) → whole_at (raw_page s.place image (place_of_page s n)) n ≡ true
      → page_reading (raw_page s.place image (place_of_page s n)) (lsn_of_page s n) entries_at ≡ record { entries = entries_of_page r pages n; foreign = None }
  gives_now n image low left whole = elim (cases_eq (place_of_page s n) k0) [
    | inl same ↦
        let left' = subst (λ (j : ℕ). CanLeavePage s.place now image j) same left in
        let is = whole_is_new image left' n low same (ap (λ (j : ℕ). whole_at (raw_page s.place image j) n) (sym same) ∙ whole) in
        ap (λ (j : ℕ). page_reading (raw_page s.place image j) (lsn_of_page s n) entries_at) same
        ∙ ap (λ (x : List ℕ). page_reading x (lsn_of_page s n) entries_at) is.0 ∙ ap (λ (m : ℕ). page_reading new (lsn_of_page s m) entries_at) is.1
        ∙ again.reading ∙ ap (λ (m : ℕ). record { entries = entries_of_page r pages m; foreign = None }) (sym is.1)
    | inr apart ↦
        h.gives n image low
        (alike_image s.place (place_of_page s n) (suc (place_of_page s n)) disk now (other (place_of_page s n) (in_ring s (has_ring s.place h.lies) n) apart) (place_of_page s n) (omega arith) (omega arith) image left) whole
  ]

  pub not_here : (n : ℕ) → r.oldest ≤ n → n < r.oldest + r.size → (n < r.synced) ⊎ (max r.sent (suc r.done) ≤ n) → place_of_page s n ≢ k0
  not_here n low high (inl durable) same = places n r.done (omega (arith, durable, h.ring.synced)) (omega (arith, low, b.room)) same
  not_here n low high (inr later) same = places r.done n (omega (arith, later)) (omega (arith, high, h.ring.oldest, h.ring.synced)) (sym same)

  was : (n : ℕ) → (n < r.synced) ⊎ (max r.sent (suc r.done) ≤ n) → (n < r.synced) ⊎ (r.sent ≤ n)
  was n (inl durable) = inl durable
  was n (inr later) = inr (omega (arith, later))

  pub still_now : (n : ℕ) → r.oldest ≤ n → n < r.oldest + r.size → (n < r.synced) ⊎ (max r.sent (suc r.done) ≤ n) → IsStill s.place now (place_of_page s n)
  still_now n low high where_is =
      alike_still s.place (place_of_page s n) (suc (place_of_page s n)) disk now (other (place_of_page s n) (in_ring s (has_ring s.place h.lies) n) (not_here n low high where_is)) (place_of_page s n) (omega arith) (omega arith)
      (h.still n low high (was n where_is))

  new_lap : (lsn : ℕ) → said_lsn new ≡ Some lsn → lap_of s.place.pages lsn ≡ lap_of_page s r.done
  new_lap lsn said =
      let is : lsn ≡ end_lsn (lsn_of_page s r.done) entries = some_same lsn (end_lsn (lsn_of_page s r.done) entries) (sym said ∙ again.says) in
      ap (lap_of s.place.pages) is ∙ b.made.last ∙ says_lap s (has_ring s.place h.lies) (log_small s.place h.lies) r.done

  pub said_now : (k : ℕ) (value : List ℕ) (lsn : ℕ) → IsInRing s.place k → MayHold now (page_sector s.place k) value → said_lsn value ≡ Some lsn → lap_of s.place.pages lsn ≤ lap_of_page s (max r.sent (suc r.done))
  said_now k value lsn ring holds said = elim (cases_eq k k0) [
    | inl same ↦ elim (between_holds (page_sector s.place k0) (page_sector s.place k0) (sectors_of new) disk now value between (subst (λ (j : ℕ). MayHold now (page_sector s.place j) value) same holds)) [
      | inl old ↦ later (h.said k0 value lsn k0_in old said)
      | inr put ↦
          let is : value ≡ sector_in new 0 = put.2 ∙ ap (sector_of (sectors_of new)) (let e : page_sector s.place k0 - page_sector s.place k0 ≡ 0 = omega arith in e) ∙ sector_of_bytes new 0 length-new (omega arith) in
          let lap = new_lap lsn (sym (first_says new) ∙ ap said_lsn (sym is) ∙ said) in
          let climb = laps_climb s h.lies r.done (max r.sent (suc r.done)) (omega arith) in
          omega (arith, lap, climb)
    ]
    | inr apart ↦
        later (h.said k value lsn ring (subst (λ (n : ℕ). MayHold disk n value) (let e : page_sector s.place k + 0 ≡ page_sector s.place k = omega arith in e)
        (alike_holds s.place k (suc k) disk now (other k ring apart) k (omega arith) (omega arith) 0 value (omega arith) (first_sector s.place now k value holds))) said)
  ]
    where
      later : lap_of s.place.pages lsn ≤ lap_of_page s r.sent → lap_of s.place.pages lsn ≤ lap_of_page s (max r.sent (suc r.done))
      later le = let climb = laps_climb s h.lies r.sent (max r.sent (suc r.done)) (omega arith) in omega (arith, le, climb)

  -- ---- the write failed

  pub page_fails : HoldsAfter s (page_sent r) (Some word) pages now
  page_fails = (
    after,
    record {
      lies = h.lies;
      size = h.size;
      ring = third_fails (place_of_page s) r places b.room seen_number (number_is (seen now) (seen_left s.place now k0)) h.ring;
      next = omega (arith, h.next);
      sized = sized_now;
      leaves = leaves_now;
      reads = reads_now;
      gives = gives_now;
      still = still_now;
      said = said_now;
      begun = λ w is. subst (λ (v : ℕ). IsBegun s (page_sent r after) entries now v) (some_same word w is) (record {
        old = b.old;
        old_size = b.old_size;
        picked = b.picked;
        stale = b.stale;
        made = b.made;
        room = b.room;
        held = held_now;
      });
      unbegun = λ is. absurd (let e : ◌≡◌ {A = Option ℕ} (Some word) None = is in cc);
    },
  )

-- ---- the write answered Ok

module _ (s : LogSession) (r : Ring) (pages : List (List Entry)) (disk : Disk) (word : ℕ) (h : HoldsRing s r (Some word) pages disk) where
  abbrev now : Disk
  now = page_put s r pages word disk

  all : IsBetween disk (page_put s r pages word disk) (page_put s r pages word disk)
  all = record { durable = λ n. refl; written = λ n. inr refl }

  sector_now : (i : ℕ) → i < 8 → seen now (page_sector s.place (place_of_page s r.done) + i) ≡ sector_in (spelled_page s r.done (entries_of_page r pages r.done) word) i
  sector_now i few =
      let new = spelled_page s r.done (entries_of_page r pages r.done) word in
      let size = length-new s r pages disk now word h all in
      let first = page_sector s.place (place_of_page s r.done) in
      let many : length (sectors_of new) ≡ 8 = length-sectors_of new ∙ omega (arith, size) in
      let inside : is_within first (length (sectors_of new)) (first + i) ≡ true = is_in first (length (sectors_of new)) (first + i) (omega arith) (omega (arith, many, few)) in
      ap (λ (v : Bool). newest (cond v (sector_of (sectors_of new) (first + i - first) ∷ disk.written (first + i)) (disk.written (first + i))) (disk.durable (first + i))) inside
      ∙ ap (sector_of (sectors_of new)) (let e : first + i - first ≡ i = omega arith in e) ∙ sector_of_bytes new i size few

  whole_now : seen_number s r pages disk now word h all ≡ Some r.done
  whole_now =
      let new = spelled_page s r.done (entries_of_page r pages r.done) word in
      let is : raw_page s.place (seen now) (place_of_page s r.done) ≡ new = page_is s.place (seen now) (place_of_page s r.done) new (length-new s r pages disk now word h all) sector_now in
      ap (λ (raw : List ℕ). cond (is_whole_page s.place.pages raw (lsn_of_page s r.done)) (Some r.done) None) is
      ∙ ap (λ (v : Bool). cond v (Some r.done) None) (again s r pages disk now word h all).whole

  pub page_is_written : HoldsAfter s (page_written r) None pages (page_put s r pages word disk)
  page_is_written = (
    after s r pages disk now word h all,
    record {
      lies = h.lies;
      size = h.size;
      ring = third_is_written (place_of_page s) r (places s r pages disk now word h all) (b s r pages disk now word h all).room (seen_number s r pages disk now word h all) whole_now h.ring;
      next = omega (arith, h.next);
      sized = sized_now s r pages disk now word h all;
      leaves = leaves_now s r pages disk now word h all;
      reads = reads_now s r pages disk now word h all;
      gives = gives_now s r pages disk now word h all;
      still = still_now s r pages disk now word h all;
      said = said_now s r pages disk now word h all;
      begun = λ w is. absurd (let e : ◌≡◌ {A = Option ℕ} None (Some w) = is in cc);
      unbegun = λ is. omega (arith, h.next);
    },
  )
