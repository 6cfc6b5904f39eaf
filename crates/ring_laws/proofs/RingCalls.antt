-- A ring begins, and stays a ring of the disk whatever is done but for the writes of pages.
use Rattle.std.proofs.Common.{◌≡◌, ◌⊎◌, ℕ, suc, ◌+◌, ◌-◌, ◌%◌, ◌<◌, ◌≤◌, true, false, List, [], length, drop, get_or, Option, Some, None, refl, sym, ap, ◌∙◌, subst, inl, inr, arith}
use Rattle.std.specs.Prelude.{Contains}
use Rattle.std.proofs.lemmas.Bool.{cases_Bool, cases_lt}
use Rattle.std.proofs.lemmas.List.{get_or-drop}
use Rattle.std.proofs.Math.Nat.{add-mod_left}
use Rattle.store_model.specs.log_model.declared.entry.Entry.{Entry}
use Rattle.log_reading.specs.log_page.declared.places.LogPlace.{LogPlace}
use Rattle.log_reading.specs.log_page.Places.{first_page, lap_of}
use Rattle.log_reading.specs.log_page.RecordPages.{is_whole_page}
use Rattle.log_reading.specs.log_page.CheckWords.{IsCheckWord}
use Rattle.log_reading.specs.log_page.PageSpellings.{MakePage}
use Rattle.log_reading.specs.log_page.LiveLogs.{said_lsn}
use Rattle.log_laws.proofs.Fresh.{whole_says}
use Rattle.log_reading.specs.Rings.{IsRingPlace}
use Rattle.store_model.specs.sector_device.Disks.{Disk, MayHold, newest, seen, settled, IsSized}
use Rattle.store_model.proofs.sector_device.Images.{holds_seen, settled_holds}
use Rattle.store_model.specs.Geometry.{SectorBytes}
use Rattle.store_model.specs.Rings.{newest_page, PlaceMayHold, Ring, HasPlaces, synced_places}
use Rattle.store_model.specs.Rings.RingStep.{sync_ring, free}
use Rattle.store_model.proofs.Rings.{ring-start, ring-step}
use Rattle.ring_laws.specs.Numbers.{LogSession, ring_size, place_of_page, lap_of_page, lsn_of_page, IsInRing}
use Rattle.ring_laws.specs.PageBytes.{page_sector, raw_page, CanLeavePage, IsStill, AreAlike}
use Rattle.ring_laws.specs.RingPages.{ShowsPage, entries_of_page, IsBegun, HoldsRing, first_ring, fixed_to}
use Rattle.ring_laws.proofs.Numbering.{has_places, in_ring, first_number}
use Rattle.ring_laws.proofs.LogSectors.{raw_same}
use Rattle.ring_laws.proofs.Mixing.{length-page, page_sector_in}
use Rattle.ring_laws.proofs.RingFacts.{true_false, some_none, has_ring, log_small, alike_holds, alike_page, alike_image, alike_still, seen_left, first_sector, first_says, there_page}

-- ---- pages of which nothing is unsynced

pub still_value : (disk : Disk) (n : ℕ) (value : List ℕ) → disk.written n ≡ [] → MayHold disk n value → value ≡ seen disk n
still_value disk n value still (inl e) = e ∙ sym (ap (λ (vs : List (List ℕ)). newest vs (disk.durable n)) still)
still_value disk n value still (inr m) = let m' = subst (λ (vs : List (List ℕ)). Contains vs value) still m in absurd (omega (arith, m'.1))

pub still_image : (place : LogPlace) (disk : Disk) (image : SectorBytes) (k : ℕ) → IsStill place disk k → CanLeavePage place disk image k → raw_page place image k ≡ raw_page place (seen disk) k
still_image place disk image k still left = raw_same place image (seen disk) k (λ i few. still_value disk (page_sector place k + i) (image (page_sector place k + i)) (still i few) (left i few))

pub settled_value : (disk : Disk) (n : ℕ) (value : List ℕ) → MayHold (settled disk) n value → MayHold disk n value
settled_value disk n value holds = subst (λ (v : List ℕ). MayHold disk n v) (sym (settled_holds disk n value holds)) (holds_seen disk n)

pub settled_image : (place : LogPlace) (disk : Disk) (image : SectorBytes) (k : ℕ) → CanLeavePage place (settled disk) image k → CanLeavePage place disk image k
settled_image place disk image k left i few = settled_value disk (page_sector place k + i) (image (page_sector place k + i)) (left i few)

pub settled_page : (place : LogPlace) (disk : Disk) (image : SectorBytes) (k : ℕ) → CanLeavePage place (settled disk) image k → raw_page place image k ≡ raw_page place (seen disk) k
settled_page place disk image k left = raw_same place image (seen disk) k (λ i few. settled_holds disk (page_sector place k + i) (image (page_sector place k + i)) (left i few))

pub sized_value : (disk : Disk) (n : ℕ) (value : List ℕ) → IsSized disk → MayHold disk n value → length value ≡ 512
sized_value disk n value sized (inl e) = ap (λ (v : List ℕ). length v) e ∙ sized.durable n
sized_value disk n value sized (inr m) = sized.written n value m

-- what the first sector of a page says, the page says
pub page_says : (place : LogPlace) (at : SectorBytes) (k : ℕ) → ((i : ℕ) → i < 8 → length (at (page_sector place k + i)) ≡ 512) → said_lsn (raw_page place at k) ≡ said_lsn (at (page_sector place k))
page_says place at k sized =
    sym (first_says (raw_page place at k)) ∙ ap said_lsn (page_sector_in place at k 0 sized (omega arith)) ∙ ap (λ (n : ℕ). said_lsn (at n)) (let e : page_sector place k + 0 ≡ page_sector place k = omega arith in e)

-- ---- a session begins

module _ (s : LogSession) (disk : Disk) (lies : IsRingPlace s.place) (sized : IsSized disk) (still : (k : ℕ) → IsInRing s.place k → IsStill s.place disk k)
    (low : (k lsn : ℕ) → IsInRing s.place k → said_lsn (raw_page s.place (seen disk) k) ≡ Some lsn → lap_of s.place.pages lsn < s.lap) where
  seen_sized : (k i : ℕ) → i < 8 → length (seen disk (page_sector s.place k + i)) ≡ 512
  seen_sized k i few = sized_value disk (page_sector s.place k + i) (seen disk (page_sector s.place k + i)) sized (holds_seen disk (page_sector s.place k + i))

  none_seen : (n : ℕ) → is_whole_page s.place.pages (raw_page s.place (seen disk) (place_of_page s n)) (lsn_of_page s n) ≡ false
  none_seen n = elim (cases_Bool (is_whole_page s.place.pages (raw_page s.place (seen disk) (place_of_page s n)) (lsn_of_page s n))) [
    | inr torn ↦ torn
    | inl whole ↦
        let ring = in_ring s (has_ring s.place lies) n in
        let said = whole_says s.place.pages (raw_page s.place (seen disk) (place_of_page s n)) (lap_of_page s n) (place_of_page s n) (log_small s.place lies) ring.inside whole in
        let lt = low (place_of_page s n) said.0 ring said.1 in
        absurd (omega (arith, lt, said.2))
  ]

  none_shown : (k : ℕ) (raw : List ℕ) → raw ≡ raw_page s.place (seen disk) k → ShowsPage s 0 k raw None
  none_shown k raw is n le here =
      ap (λ (x : List ℕ). is_whole_page s.place.pages x (lsn_of_page s n)) is ∙ ap (λ (j : ℕ). is_whole_page s.place.pages (raw_page s.place (seen disk) j) (lsn_of_page s n)) (sym here) ∙ none_seen n

  none_held : (k : ℕ) (x : Option ℕ) → PlaceMayHold (first_ring s).places k x → x ≡ None
  none_held k x (inl e) = e
  none_held k x (inr m) = absurd (omega (arith, m.1))

  pub begins : HoldsRing s (first_ring s) None [] disk
  begins = record {
    lies = lies;
    size = refl;
    ring = ring-start (place_of_page s) (ring_size s) 0 (first_ring s).places (λ k j x holds e. absurd (some_none j (sym e ∙ none_held k x holds)));
    next = omega arith;
    sized = λ k ring i value few holds. sized_value disk (page_sector s.place k + i) value sized holds;
    leaves = λ k image ring left. (None, inl refl, none_shown k (raw_page s.place image k) (still_image s.place disk image k (still k ring) left));
    reads = λ k ring. none_shown k (raw_page s.place (seen disk) k) refl;
    gives = λ n image le left whole. absurd (true_false (sym whole
        ∙ none_shown (place_of_page s n) (raw_page s.place image (place_of_page s n)) (still_image s.place disk image (place_of_page s n) (still (place_of_page s n) (in_ring s (has_ring s.place lies) n)) left) n le refl));
    still = λ n le lt here. still (place_of_page s n) (in_ring s (has_ring s.place lies) n);
    said = λ k value lsn ring holds said.
        let first : disk.written (page_sector s.place k) ≡ [] = ap disk.written (let e : page_sector s.place k ≡ page_sector s.place k + 0 = omega arith in e) ∙ still k ring 0 (omega arith) in
        let is = still_value disk (page_sector s.place k) value first holds in
        let lt = low k lsn ring (page_says s.place (seen disk) k (seen_sized k) ∙ ap said_lsn (sym is) ∙ said) in
        omega (arith, lt, (first_number s).1);
    begun = λ w is. absurd (some_none w (sym is));
    unbegun = λ is. omega arith;
  }

module _ (s : LogSession) (r : Ring) (check : Option ℕ) (pages : List (List Entry)) (disk : Disk) (h : HoldsRing s r check pages disk) where
  -- a page that is whole was written
  pub whole_sent : (n : ℕ) (image : SectorBytes) → r.oldest ≤ n → CanLeavePage s.place disk image (place_of_page s n)
      → is_whole_page s.place.pages (raw_page s.place image (place_of_page s n)) (lsn_of_page s n) ≡ true → n < r.sent
  whole_sent n image low left whole =
      let x = h.leaves (place_of_page s n) image (in_ring s (has_ring s.place h.lies) n) left in
      h.ring.below (place_of_page s n) n x.0 x.1 (there_page x.0 n (sym (x.2 n low refl) ∙ whole))

  -- ---- entries are appended

  module _ (more : List (List Entry)) (same : (k : ℕ) → k < fixed_to r check - r.oldest → get_or more k [] ≡ get_or pages k []) where
    fixed : (n : ℕ) → r.oldest ≤ n → n < fixed_to r check → entries_of_page r more n ≡ entries_of_page r pages n
    fixed n low lt = same (n - r.oldest) (omega (arith, low, lt))

    sent_fixed : (check : Option ℕ) → r.sent ≤ fixed_to r check
    sent_fixed (Some word) = h.next
    sent_fixed None = omega arith

    done_fixed : (word : ℕ) → check ≡ Some word → r.done < fixed_to r check
    done_fixed word is = subst (λ (c : Option ℕ). r.done < fixed_to r c) (sym is) (let lt : r.done < suc r.done = omega arith in lt)

    pub grows : HoldsRing s r check more disk
    grows = record {
      lies = h.lies;
      size = h.size;
      ring = h.ring;
      next = h.next;
      sized = h.sized;
      leaves = h.leaves;
      reads = h.reads;
      gives = λ n image low left whole.
          let lt = whole_sent n image low left whole in
          let le = sent_fixed check in
          h.gives n image low left whole ∙ ap (λ (l : List Entry). record { entries = l; foreign = None }) (sym (fixed n low (omega (arith, lt, le))));
      still = h.still;
      said = h.said;
      begun = λ word is. subst (λ (l : List Entry). IsBegun s r l disk word) (sym (fixed r.done (omega (arith, h.ring.oldest, h.ring.synced)) (done_fixed word is))) (h.begun word is);
      unbegun = h.unbegun;
    }

  -- ---- a sync

  pub syncs : HoldsRing s (record r { synced = r.done; places = synced_places r.places }) check pages (settled disk)
  syncs = record {
    lies = h.lies;
    size = h.size;
    ring = ring-step (place_of_page s) r (record r { synced = r.done; places = synced_places r.places }) places sync_ring h.ring;
    next = h.next;
    sized = λ k ring i value few holds. h.sized k ring i value few (settled_value disk (page_sector s.place k + i) value holds);
    leaves = λ k image ring left. (
      newest_page (r.places.written k) (r.places.durable k),
      inl refl,
      subst (λ (raw : List ℕ). ShowsPage s r.oldest k raw (newest_page (r.places.written k) (r.places.durable k))) (sym (settled_page s.place disk image k left)) (h.reads k ring),
    );
    reads = λ k ring. h.reads k ring;
    gives = λ n image low left whole. h.gives n image low (settled_image s.place disk image (place_of_page s n) left) whole;
    still = λ n low high here i few. refl;
    said = λ k value lsn ring holds said. h.said k value lsn ring (settled_value disk (page_sector s.place k) value holds) said;
    begun = λ word is. let b = h.begun word is in record {
      old = b.old;
      old_size = b.old_size;
      picked = b.picked;
      stale = b.stale;
      made = b.made;
      room = b.room;
      held = λ i value few holds. b.held i value few (settled_value disk (page_sector s.place (place_of_page s r.done) + i) value holds);
    };
    unbegun = h.unbegun;
  }
    where
      places : HasPlaces r.size (place_of_page s)
      places = subst (λ (n : ℕ). HasPlaces n (place_of_page s)) (sym h.size) (has_places s)

  -- ---- pages are freed

  module _ (oldest : ℕ) (low : r.oldest ≤ oldest) (high : oldest ≤ r.synced) where
    same_entries : (n : ℕ) → oldest ≤ n → get_or (drop (oldest - r.oldest) pages) (n - oldest) [] ≡ get_or pages (n - r.oldest) []
    same_entries n le = get_or-drop (oldest - r.oldest) pages (n - oldest) [] ∙ ap (λ (k : ℕ). get_or pages k []) (let e : oldest - r.oldest + (n - oldest) ≡ n - r.oldest = omega (arith, low, le) in e)

    round_before : (n : ℕ) → ring_size s ≤ n → place_of_page s (n - ring_size s) ≡ place_of_page s n
    round_before n le =
        ap (λ (k : ℕ). first_page + k) (sym (add-mod_left (ring_size s) (n - ring_size s))) ∙ ap (λ (k : ℕ). first_page + k % ring_size s) (let e : ring_size s + (n - ring_size s) ≡ n = omega (arith, le) in e)

    still_on : (n : ℕ) → oldest ≤ n → n < oldest + r.size → (n < r.synced) ⊎ (r.sent ≤ n) → IsStill s.place disk (place_of_page s n)
    still_on n le lt here = elim (cases_lt n (r.oldest + r.size)) [
      | inl near ↦ h.still n (omega (arith, low, le)) near here
      | inr far ↦
          subst (λ (k : ℕ). IsStill s.place disk k) (round_before n (omega (arith, far, h.size)))
          (h.still (n - ring_size s) (omega (arith, far, h.size)) (omega (arith, lt, high, h.size, h.ring.synced, h.ring.done, h.ring.room)) (inl (omega (arith, lt, high, h.size))))
    ]

    pub frees : HoldsRing s (record r { oldest = oldest }) check (drop (oldest - r.oldest) pages) disk
    frees = record {
      lies = h.lies;
      size = h.size;
      ring = ring-step (place_of_page s) r (record r { oldest = oldest }) (subst (λ (n : ℕ). HasPlaces n (place_of_page s)) (sym h.size) (has_places s)) (free oldest low high) h.ring;
      next = h.next;
      sized = h.sized;
      leaves = λ k image ring left. let x = h.leaves k image ring left in (x.0, x.1, λ n le here. x.2 n (omega (arith, low, le)) here);
      reads = λ k ring n le here. h.reads k ring n (omega (arith, low, le)) here;
      gives = λ n image le left whole. h.gives n image (omega (arith, low, le)) left whole ∙ ap (λ (l : List Entry). record { entries = l; foreign = None }) (sym (same_entries n le));
      still = still_on;
      said = h.said;
      begun = λ word is. let b = h.begun word is in subst (λ (l : List Entry). IsBegun s (record r { oldest = oldest }) l disk word) (sym (same_entries r.done (omega (arith, high, h.ring.synced)))) (record {
        old = b.old;
        old_size = b.old_size;
        picked = b.picked;
        stale = λ n le here. b.stale n (omega (arith, low, le)) here;
        made = b.made;
        room = omega (arith, b.room, low);
        held = b.held;
      });
      unbegun = h.unbegun;
    }

  -- ---- what is done elsewhere

  module _ (now : Disk) (alike : AreAlike s.place first_page s.place.pages disk now) where
    same_page : (k : ℕ) → IsInRing s.place k → raw_page s.place (seen now) k ≡ raw_page s.place (seen disk) k
    same_page k ring = alike_page s.place first_page s.place.pages disk now alike k ring.begun ring.inside

    before : (k : ℕ) (image : SectorBytes) → IsInRing s.place k → CanLeavePage s.place now image k → CanLeavePage s.place disk image k
    before k image ring left = alike_image s.place first_page s.place.pages disk now alike k ring.begun ring.inside image left

    held_before : (k i : ℕ) (value : List ℕ) → IsInRing s.place k → i < 8 → MayHold now (page_sector s.place k + i) value → MayHold disk (page_sector s.place k + i) value
    held_before k i value ring few holds = alike_holds s.place first_page s.place.pages disk now alike k ring.begun ring.inside i value few holds

    place_in : (n : ℕ) → IsInRing s.place (place_of_page s n)
    place_in n = in_ring s (has_ring s.place h.lies) n

    pub kept_by_others : HoldsRing s r check pages now
    kept_by_others = record {
      lies = h.lies;
      size = h.size;
      ring = h.ring;
      next = h.next;
      sized = λ k ring i value few holds. h.sized k ring i value few (held_before k i value ring few holds);
      leaves = λ k image ring left. h.leaves k image ring (before k image ring left);
      reads = λ k ring. subst (λ (raw : List ℕ). ShowsPage s r.oldest k raw (newest_page (r.places.written k) (r.places.durable k))) (sym (same_page k ring)) (h.reads k ring);
      gives = λ n image low left whole. h.gives n image low (before (place_of_page s n) image (place_in n) left) whole;
      still = λ n low high here. alike_still s.place first_page s.place.pages disk now alike (place_of_page s n) (place_in n).begun (place_in n).inside (h.still n low high here);
      said = λ k value lsn ring holds said.
          h.said k value lsn ring (subst (λ (n : ℕ). MayHold disk n value) (let e : page_sector s.place k + 0 ≡ page_sector s.place k = omega arith in e) (held_before k 0 value ring (omega arith) (first_sector s.place now k value holds))) said;
      begun = λ word is. let b = h.begun word is in record {
        old = b.old;
        old_size = b.old_size;
        picked = b.picked;
        stale = b.stale;
        made = b.made;
        room = b.room;
        held = λ i value few holds. b.held i value few (held_before (place_of_page s r.done) i value (place_in r.done) few holds);
      };
      unbegun = h.unbegun;
    }

-- ---- a check word is picked

module _ (s : LogSession) (r : Ring) (pages : List (List Entry)) (disk : Disk) (word : ℕ) (h : HoldsRing s r None pages disk) (room : r.done < r.oldest + r.size)
    (made : MakePage s.place.pages (lap_of_page s r.done) (place_of_page s r.done) (entries_of_page r pages r.done)) (picked : IsCheckWord (raw_page s.place (seen disk) (place_of_page s r.done)) word) where
  abbrev k0 : ℕ
  k0 = place_of_page s r.done

  low : r.oldest ≤ r.done
  low = omega (arith, h.ring.oldest, h.ring.synced)

  k0_in : IsInRing s.place k0
  k0_in = in_ring s (has_ring s.place h.lies) r.done

  k0_sized : (i : ℕ) → i < 8 → length (seen disk (page_sector s.place k0 + i)) ≡ 512
  k0_sized i few = h.sized k0 k0_in i (seen disk (page_sector s.place k0 + i)) few (holds_seen disk (page_sector s.place k0 + i))

  places : HasPlaces r.size (place_of_page s)
  places = subst (λ (n : ℕ). HasPlaces n (place_of_page s)) (sym h.size) (has_places s)

  not_there : (n : ℕ) → r.oldest ≤ n → place_of_page s n ≡ k0 → is_whole_page s.place.pages (raw_page s.place (seen disk) k0) (lsn_of_page s n) ≡ false
  not_there n le here = elim (cases_Bool (is_whole_page s.place.pages (raw_page s.place (seen disk) k0) (lsn_of_page s n))) [
    | inr torn ↦ torn
    | inl whole ↦
        let left = seen_left s.place disk (place_of_page s n) in
        let lt = whole_sent s r None pages disk h n (seen disk) le left (ap (λ (k : ℕ). is_whole_page s.place.pages (raw_page s.place (seen disk) k) (lsn_of_page s n)) here ∙ whole) in
        absurd (places n r.done (omega (arith, lt, h.unbegun refl)) (omega (arith, le, room)) here)
  ]

  pub picks : HoldsRing s r (Some word) pages disk
  picks = record {
    lies = h.lies;
    size = h.size;
    ring = h.ring;
    next = h.next;
    sized = h.sized;
    leaves = h.leaves;
    reads = h.reads;
    gives = h.gives;
    still = h.still;
    said = h.said;
    begun = λ w is. subst (λ (v : ℕ). IsBegun s r (entries_of_page r pages r.done) disk v) (let e : word ≡ w = cc in e) (record {
      old = raw_page s.place (seen disk) k0;
      old_size = length-page s.place (seen disk) k0 k0_sized;
      picked = picked;
      stale = not_there;
      made = made;
      room = room;
      held = λ i value few holds. inr (still_value disk (page_sector s.place k0 + i) value (h.still r.done low room (inr (h.unbegun refl)) i few) holds ∙ sym (page_sector_in s.place (seen disk) k0 i k0_sized few));
    });
    unbegun = λ is. absurd (let e : ◌≡◌ {A = Option ℕ} (Some word) None = is in cc);
  }
