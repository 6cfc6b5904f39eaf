-- What recovery reads of a ring that a crash left.
use Rattle.std.proofs.Common.{◌≡◌, ℕ, zero, suc, ◌+◌, ◌-◌, ◌<◌, ◌≤◌, Bool, true, false, cond, List, [], ◌∷◌, ◌++◌, length, take, drop, get_or, Option, Some, None, refl, sym, ap, ◌∙◌, subst, inl, inr, arith}
use Rattle.std.specs.Prelude.{if◌then◌else◌}
use Rattle.std.proofs.lemmas.Bool.{cases_Bool, cases_lt}
use Rattle.store_model.specs.log_model.declared.entry.Entry.{Entry}
use Rattle.log_reading.specs.log_page.declared.restart.Restart.{Restart}
use Rattle.log_reading.specs.log_page.Places.{first_page, entries_at, lap_of, page_of, page_after, lap_after}
use Rattle.log_reading.specs.log_page.RecordPages.{Reading, no_reading, is_whole_page, page_reading}
use Rattle.log_reading.specs.log_page.LiveLogs.{followed_by, log_from, start_in_page, live_log, said_lsn, greatest_lsn, lap_above, next_lap}
use Rattle.log_laws.specs.NextLaps.{IsSaid}
use Rattle.log_laws.proofs.Greatest.{greatest_found}
use Rattle.store_model.specs.sector_device.Disks.{Disk}
use Rattle.store_model.specs.Geometry.{SectorBytes, CanLeave}
use Rattle.store_model.specs.Rings.{PlaceMayHold, MayLeavePages, Ring, is_page, read_to, entries_on, read_from}
use Rattle.store_model.proofs.Rings.{reads_durable, reads_sent}
use Rattle.ring_laws.specs.Numbers.{LogSession, ring_size, place_of_page, lap_of_page, lsn_of_page, IsInRing}
use Rattle.ring_laws.specs.PageBytes.{page_sector, raw_page, CanLeavePage}
use Rattle.ring_laws.specs.RingPages.{ShowsPage, entries_of_page, HoldsRing}
use Rattle.ring_laws.specs.Laws.{ReadsFront, ReadsNumbers}
use Rattle.ring_laws.proofs.Numbering.{in_ring, next_page, says_lap, says_page, says_ring, says_start}
use Rattle.ring_laws.proofs.RingFacts.{has_ring, log_small}
use Rattle.ring_laws.proofs.RingCalls.{page_says}

-- ---- pages in a list

none_taken : (n : ℕ) (pages : List (List Entry)) → n ≡ 0 → entries_on (take n pages) ≡ []
none_taken zero [] e = refl
none_taken zero (page ∷ pages) e = refl
none_taken (suc n) pages e = absurd (omega (arith, e))

one_taken : (pages : List (List Entry)) (k m : ℕ) → entries_on (take (suc m) (drop k pages)) ≡ get_or pages k [] ++ entries_on (take m (drop (suc k) pages))
one_taken [] zero m = sym (nothing m)
  where
    nothing : (m : ℕ) → entries_on (take m (drop 1 [])) ≡ []
    nothing zero = refl
    nothing (suc m) = refl
one_taken [] (suc k) m = sym (nothing m)
  where
    nothing : (m : ℕ) → entries_on (take m (drop (suc (suc k)) [])) ≡ []
    nothing zero = refl
    nothing (suc m) = refl
one_taken (page ∷ pages) zero m = ap (λ (l : List (List Entry)). page ++ entries_on (take m l)) (all pages)
  where
    all : (pages : List (List Entry)) → pages ≡ drop 0 pages
    all [] = refl
    all (page ∷ pages) = refl
one_taken (page ∷ pages) (suc k) m = one_taken pages k m

all_left : (n : ℕ) (pages : List (List Entry)) → n ≡ 0 → drop n pages ≡ pages
all_left zero [] e = refl
all_left zero (page ∷ pages) e = refl
all_left (suc n) pages e = absurd (omega (arith, e))

reads_on : (place : ℕ → ℕ) (image : ℕ → Option ℕ) (fuel j : ℕ) → j ≤ read_to place image j fuel
reads_on place image zero j = omega arith
reads_on place image (suc n) j = go (is_page (image (place j)) j) (reads_on place image n (suc j))
  where
    go : (v : Bool) → suc j ≤ read_to place image (suc j) n → j ≤ (if v then read_to place image (suc j) n else j)
    go true h = omega (arith, h)
    go false h = omega arith

goes_on : (r next : Reading) (entries more : List Entry) → r ≡ record { entries = entries; foreign = None } → next ≡ record { entries = more; foreign = None } → followed_by r next ≡ record { entries = entries ++ more; foreign = None }
goes_on r next entries more e f = ap (λ (x : Reading). followed_by x next) e ∙ ap (λ (x : Reading). followed_by (record { entries = entries; foreign = None }) x) f

module _ (s : LogSession) (r : Ring) (check : Option ℕ) (pages : List (List Entry)) (disk : Disk) (h : HoldsRing s r check pages disk) (image : SectorBytes) (left : CanLeave disk image) where
  left_page : (k : ℕ) → CanLeavePage s.place disk image k
  left_page k i few = left (page_sector s.place k + i)

  abbrev raw : ℕ → List ℕ
  raw k = raw_page s.place image k

  -- ---- the numbers of the places

  abbrev Number : ℕ → Type 0
  Number k = (x : Option ℕ) × PlaceMayHold r.places k x × (IsInRing s.place k → ShowsPage s r.oldest k (raw_page s.place image k) x)

  number_of : (k : ℕ) → Number k
  number_of k = elim (cases_lt k first_page) [
    | inl below ↦ (r.places.durable k, inl refl, λ ring. absurd (omega (arith, below, ring.begun)))
    | inr begun ↦ elim (cases_lt k s.place.pages) [
      | inl inside ↦ (let x = h.leaves k image (record { begun = begun; inside = inside }) (left_page k) in (x.0, x.1, λ ring. x.2))
      | inr past ↦ (r.places.durable k, inl refl, λ ring. absurd (omega (arith, past, ring.inside)))
    ]
  ]

  abbrev numbers : ℕ → Option ℕ
  numbers k = (number_of k).0

  is_shown : (n : ℕ) → r.oldest ≤ n → is_whole_page s.place.pages (raw_page s.place image (place_of_page s n)) (lsn_of_page s n) ≡ is_page (numbers (place_of_page s n)) n
  is_shown n low = (number_of (place_of_page s n)).2 (in_ring s (has_ring s.place h.lies) n) n low refl

  -- ---- the walk over the pages

  abbrev walk : ℕ → ℕ → Reading
  walk most n = log_from s.place.pages raw most (lap_of_page s n) (place_of_page s n) entries_at

  abbrev found : ℕ → ℕ → List Entry
  found most n = entries_on (take (read_to (place_of_page s) numbers n most - n) (drop (n - r.oldest) pages))

  abbrev walked : List Entry → Reading
  walked entries = record { entries = entries; foreign = None }

  none_found : (most n : ℕ) → read_to (place_of_page s) numbers n most ≡ n → found most n ≡ []
  none_found most n e = none_taken (read_to (place_of_page s) numbers n most - n) (drop (n - r.oldest) pages) (omega (arith, e))

  ended : (most n : ℕ) → r.oldest ≤ n → is_page (numbers (place_of_page s n)) n ≡ false → walk (suc most) n ≡ walked (found (suc most) n)
  unfolding log_from
  ended most n low e =
      ap (λ (v : Bool). cond v (followed_by (page_reading (raw (place_of_page s n)) (lsn_of_page s n) entries_at)
      (log_from s.place.pages raw most (lap_after s.place.pages (lap_of_page s n) (place_of_page s n)) (page_after s.place.pages (place_of_page s n)) entries_at)) no_reading) (is_shown n low ∙ e)
      ∙ ap walked (sym (none_found (suc most) n (ap (λ (v : Bool). cond v (read_to (place_of_page s) numbers (suc n) most) n) e)))

  stepped : (most n : ℕ) → r.oldest ≤ n → is_page (numbers (place_of_page s n)) n ≡ true → walk (suc most) n ≡ followed_by (page_reading (raw (place_of_page s n)) (lsn_of_page s n) entries_at) (walk most (suc n))
  unfolding log_from
  stepped most n low e =
      let next = next_page s (has_ring s.place h.lies) n in
      let reading = page_reading (raw (place_of_page s n)) (lsn_of_page s n) entries_at in
      ap (λ (v : Bool). cond v (followed_by reading
      (log_from s.place.pages raw most (lap_after s.place.pages (lap_of_page s n) (place_of_page s n)) (page_after s.place.pages (place_of_page s n)) entries_at)) no_reading) (is_shown n low ∙ e)
      ∙ ap (λ (l : ℕ). followed_by reading (log_from s.place.pages raw most l (page_after s.place.pages (place_of_page s n)) entries_at)) (sym next.1)
      ∙ ap (λ (k : ℕ). followed_by reading (log_from s.place.pages raw most (lap_of_page s (suc n)) k entries_at)) (sym next.0)

  found_more : (most n : ℕ) → r.oldest ≤ n → is_page (numbers (place_of_page s n)) n ≡ true → entries_of_page r pages n ++ found most (suc n) ≡ found (suc most) n
  found_more most n low e =
      let to = read_to (place_of_page s) numbers (suc n) most in
      let on = reads_on (place_of_page s) numbers most (suc n) in
      ap (λ (k : ℕ). entries_of_page r pages n ++ entries_on (take (to - suc n) (drop k pages))) (let f : suc n - r.oldest ≡ suc (n - r.oldest) = omega (arith, low) in f)
      ∙ sym (one_taken pages (n - r.oldest) (to - suc n))
      ∙ ap (λ (k : ℕ). entries_on (take k (drop (n - r.oldest) pages))) (let f : suc (to - suc n) ≡ to - n = omega (arith, on) in f)
      ∙ ap (λ (v : Bool). entries_on (take (cond v to n - n) (drop (n - r.oldest) pages))) (sym e)

  walks : (most n : ℕ) → r.oldest ≤ n → walk most n ≡ walked (found most n)
  unfolding log_from
  walks zero n low = ap walked (sym (none_found zero n refl))
  walks (suc most) n low = elim (cases_Bool (is_page (numbers (place_of_page s n)) n)) [
    | inr torn ↦ ended most n low torn
    | inl whole ↦
        stepped most n low whole
        ∙ goes_on (page_reading (raw (place_of_page s n)) (lsn_of_page s n) entries_at) (walk most (suc n)) (entries_of_page r pages n) (found most (suc n))
        (h.gives n image low (left_page (place_of_page s n)) (is_shown n low ∙ whole)) (walks most (suc n) (omega (arith, low)))
        ∙ ap walked (found_more most n low whole)
  ]

  -- ---- the live log

  live_is : (start : ℕ) → live_log s.place.pages raw (lsn_of_page s start) ≡ walk (ring_size s) start
  unfolding live_log
  live_is start =
      let ring = has_ring s.place h.lies in
      let small = log_small s.place h.lies in
      let lsn = lsn_of_page s start in
      ap (λ (v : Bool). cond v (log_from s.place.pages raw (ring_size s) (lap_of s.place.pages lsn) (page_of s.place.pages lsn) (start_in_page s.place.pages lsn)) no_reading) (says_ring s ring small start)
      ∙ ap (λ (l : ℕ). log_from s.place.pages raw (ring_size s) l (page_of s.place.pages lsn) (start_in_page s.place.pages lsn)) (says_lap s ring small start)
      ∙ ap (λ (k : ℕ). log_from s.place.pages raw (ring_size s) (lap_of_page s start) k (start_in_page s.place.pages lsn)) (says_page s ring small start)
      ∙ ap (λ (at : ℕ). log_from s.place.pages raw (ring_size s) (lap_of_page s start) (place_of_page s start) at) (says_start s ring small start)

  reads_start : (start : ℕ) → r.oldest ≤ start → live_log s.place.pages raw (lsn_of_page s start) ≡ walked (read_from (place_of_page s) r pages numbers start)
  reads_start start low = live_is start ∙ ap (λ (n : ℕ). walk n start) (sym h.size) ∙ walks r.size start low

  may : MayLeavePages r.places numbers
  may k = (number_of k).1

  pub reads_numbers : ReadsNumbers s r pages image
  reads_numbers = record { numbers = numbers; may = may; reads = reads_start }

  -- ---- a front of the pages

  abbrev to : ℕ
  to = read_to (place_of_page s) numbers r.oldest r.size

  low_end : r.synced ≤ to
  low_end = reads_durable (place_of_page s) numbers r.size r.oldest r.synced h.ring.oldest (omega (arith, h.ring.room, h.ring.done, h.ring.synced)) (λ j le lt. h.ring.stays j (numbers (place_of_page s j)) le lt (may (place_of_page s j)))

  high_end : to ≤ r.sent
  high_end = reads_sent (place_of_page s) numbers r.size r.oldest r.sent (omega (arith, h.ring.oldest, h.ring.synced, h.ring.done)) (λ k j e. h.ring.below k j (numbers k) (may k) e)

  pub reads_front : ReadsFront s r pages image
  reads_front = record {
    count = to - r.oldest;
    durable = omega (arith, low_end);
    written = omega (arith, high_end);
    reads = reads_start r.oldest (omega arith) ∙ ap (λ (l : List (List Entry)). walked (entries_on (take (to - r.oldest) l))) (all_left (r.oldest - r.oldest) pages (omega arith));
  }

  -- ---- laps

  image_sized : (k i : ℕ) → IsInRing s.place k → i < 8 → length (image (page_sector s.place k + i)) ≡ 512
  image_sized k i ring few = h.sized k ring i (image (page_sector s.place k + i)) few (left (page_sector s.place k + i))

  pub laps_said : (k lsn : ℕ) → IsInRing s.place k → said_lsn (raw_page s.place image k) ≡ Some lsn → lap_of s.place.pages lsn ≤ lap_of_page s r.sent
  laps_said k lsn ring said = h.said k (image (page_sector s.place k)) lsn ring (left (page_sector s.place k)) (sym (page_says s.place image k (λ i few. image_sized k i ring few)) ∙ said)

  pub lap_is_next : (chosen : Option Restart) (n : ℕ) → lap_of_page s r.sent ≤ lap_of_page s n → ((c : Restart) → chosen ≡ Some c → lap_of s.place.pages c.current ≤ lap_of_page s n)
      → next_lap s.place.pages raw chosen ≤ suc (lap_of_page s n)
  lap_is_next chosen n climb low = go (greatest_lsn s.place.pages raw chosen) refl
    where
      by_said : (lsn : ℕ) → IsSaid s.place.pages raw chosen lsn → lap_of s.place.pages lsn ≤ lap_of_page s n
      by_said lsn (inl restart) = subst (λ (x : ℕ). lap_of s.place.pages x ≤ lap_of_page s n) restart.says (low restart.restart restart.is)
      by_said lsn (inr page) = let le = laps_said page.page lsn (record { begun = page.begun; inside = page.inside }) page.says in omega (arith, le, climb)

      go : (g : Option ℕ) → greatest_lsn s.place.pages raw chosen ≡ g → lap_above s.place.pages g ≤ suc (lap_of_page s n)
      go (Some lsn) e = let le = by_said lsn (greatest_found s.place.pages raw chosen lsn e).said in omega (arith, le)
      go None e = omega arith
