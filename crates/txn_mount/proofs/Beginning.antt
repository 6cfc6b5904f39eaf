-- A store begins behind a mount's calls, whatever of the disk is unsynced at first.
use Rattle.std.proofs.Common.{◌≡◌, ◌≢◌, ◌⊎◌, subst, ℕ, suc, ◌+◌, ◌-◌, ◌*◌, ◌/◌, ◌%◌, ◌^◌, ◌<◌, ◌≤◌, Bool, true, false, List, [], ◌∷◌, length, Option, Some, None, refl, sym, ap, ap₂, ◌∙◌, inl, inr, arith}
use Rattle.std.specs.Prelude.{◌&&◌, ◌||◌, nat_lt, ◌==◌, if◌then◌else◌, min}
use native.Mathlib.Nat.{zero-div, zero-mod}
use Rattle.std.proofs.Common.{lt-ltb}
use Rattle.disk_model.specs.declared.block.Block.{Block}
use Rattle.disk_model.specs.Sectors.{sector_of}
use Rattle.disk_model.specs.Content.{Content, content_of}
use Rattle.fixup_record.specs.Protecting.{protected_bytes}
use Rattle.fixup_record.proofs.Protected.{length-protected}
use Rattle.sector_device.specs.Disks.{Disk, IsBetween, IsSized, is_within, newest, put, seen, settled}
use Rattle.sector_device.specs.Sectors.{sectors_of, sector_in}
use Rattle.sector_device.specs.WholeSectors.{length-sectors_of}
use Rattle.sector_device.specs.Moments.{Changes}
use Rattle.txn_core.specs.log_page.declared.places.LogPlace.{LogPlace}
use Rattle.txn_core.specs.log_page.declared.restart.Restart.{Restart}
use Rattle.txn_core.specs.log_page.Places.{lap_of, page_of}
use Rattle.txn_core.specs.log_page.LiveLogs.{said_lsn}
use Rattle.txn_core.specs.log_page.Restarts.{restart_spelling, whole_one}
use Rattle.txn_core.proofs.log_page.Spelled.{length-restart_spelling}
use Rattle.txn_core.proofs.log_page.ReadAgain.{read_again}
use Rattle.log_recovery.specs.log_reading.Rings.{IsRingPlace}
use Rattle.log_recovery.specs.LogStates.{LogState}
use Rattle.txn_core.specs.log_area.Areas.{LogAreaOf, new_area, number_of, page_to_send}
use Rattle.store_model.proofs.Known.{is_in}
use Rattle.txn_core.specs.ring_laws.Numbers.{LogSession}
use Rattle.txn_core.specs.ring_laws.PageBytes.{page_sector, raw_page, AreAlike}
use Rattle.txn_core.specs.ring_laws.RestartPages.{IsBelow, said_restart, found_restarts}
use Rattle.txn_core.specs.ring_laws.RingPages.{first_ring}
use Rattle.txn_core.proofs.ring_laws.Numbering.{says_lap, says_page}
use Rattle.txn_core.proofs.ring_laws.RingFacts.{has_ring, log_small}
use Rattle.txn_core.proofs.ring_laws.LogSectors.{read_is_raw, raw_same, kept_by_page}
use Rattle.txn_core.proofs.ring_laws.Mixing.{sector_of_bytes, page_is}
use Rattle.txn_core.proofs.ring_laws.RestartCalls.{finds}
use Rattle.txn_core.specs.area_laws.Standing.{Stands}
use Rattle.txn_core.proofs.area_laws.Calling.{ring_starts}
use Rattle.txn_core.proofs.area_laws.Reading.{is_first}
use Rattle.txn_core.proofs.area_laws.Rising.{lap_below}
use Rattle.txn_core.specs.txn_laws.Laws.{first_lsn, opened_area}
use Rattle.txn_core.specs.txn_laws.Windows.{HasStart}
use Rattle.txn_core.proofs.txn_laws.Starts.{starts_window}
use Rattle.txn_core.specs.txn_model.Calls.{first_facts}
use Rattle.txn_mount.specs.Contents.{ReadsLog, ReadsWell}
use Rattle.txn_mount.proofs.Finding.{found, laps_below, lap_some, lap_small, opens_small}

module _ (place : LogPlace) (ring : IsRingPlace place) (kept : List Block) (first : Disk) (state : LogState) (r : ReadsLog (content_of (seen first)) place kept state) (well : ReadsWell state.log) where
  abbrev c : Content
  c = content_of (seen first)

  abbrev s : LogSession
  s = record { place = place; lap = state.next_lap }

  abbrev a : LogAreaOf
  a = new_area place state.next_lap state.restart state.opens

  abbrev b : LogAreaOf
  b = new_area place state.next_lap (1 - state.restart) (min (state.opens + 1) (2 ^ 32 - 1))

  abbrev lsn : ℕ
  lsn = first_lsn place state.next_lap state.restart state.opens

  abbrev page : Restart
  page = page_to_send a lsn false

  abbrev raw : ℕ → List ℕ
  raw = raw_page place (seen first)

  two : state.restart < 2
  two = (found place ring kept first state r).small

  pub restart_inside : state.restart < place.pages
  restart_inside = let some = ring.ring in let lt = two in omega (arith, some, lt)

  inside : state.restart < place.pages
  inside = let some = ring.ring in let lt = two in omega (arith, some, lt)

  -- the page is read back
  module _ (low : lsn < 2 ^ 64) (word : ℕ) (few : word < 2 ^ 16) (before : Disk) (alike : AreAlike place 0 place.pages first before) where
    abbrev bytes : List ℕ
    bytes = protected_bytes (restart_spelling page) word

    size : length bytes ≡ 4096
    size = length-protected (restart_spelling page) word ∙ length-restart_spelling page

    eight : length (sectors_of bytes) ≡ 8
    eight = length-sectors_of bytes ∙ (let e = size in omega (arith, e))

    abbrev disk : Disk
    disk = settled (put (page_sector place state.restart) (sectors_of bytes) (settled before))

    sector_now : (i : ℕ) → i < 8 → seen disk (page_sector place state.restart + i) ≡ sector_in bytes i
    sector_now i lt =
        let start = page_sector place state.restart in
        let within : is_within start (length (sectors_of bytes)) (start + i) ≡ true = is_in start (length (sectors_of bytes)) (start + i) (omega arith) (let e = eight in omega (arith, e, lt)) in
        ap (λ (v : Bool). newest (if v then sector_of (sectors_of bytes) (start + i - start) ∷ [] else []) (seen before (start + i))) within
        ∙ ap (sector_of (sectors_of bytes)) (let e : start + i - start ≡ i = omega arith in e) ∙ sector_of_bytes bytes i size lt

    told : said_restart (raw_page place (seen disk) state.restart) ≡ Some page
    told =
        ap said_restart (page_is place (seen disk) state.restart bytes size sector_now)
        ∙ ap whole_one (read_again page word (record { major = refl; minor = refl; own = refl }) (record {
          current = low;
          oldest = low;
          opens = (let e = opens_small place ring kept first state r in omega (arith, e));
          bytes = log_small place ring;
        }) few)

    other_page : (k : ℕ) → k < place.pages → k ≢ state.restart → raw_page place (seen disk) k ≡ raw k
    other_page k lt apart = raw_same place (seen disk) (seen first) k (λ i less. stays k lt apart i less)
      where
        between : IsBetween (settled before) (put (page_sector place state.restart) (sectors_of bytes) (settled before)) (put (page_sector place state.restart) (sectors_of bytes) (settled before))
        between = record { durable = λ n. refl; written = λ n. inr refl }

        beside : (k : ℕ) → k ≢ state.restart → (state.restart < k) ⊎ (suc k ≤ state.restart)
        beside k apart = grind (arith, apart)

        stays : (k : ℕ) → k < place.pages → k ≢ state.restart → (i : ℕ) → i < 8 → seen disk (page_sector place k + i) ≡ seen first (page_sector place k + i)
        stays k lt apart i less =
            let same = kept_by_page place k (suc k) state.restart (sectors_of bytes) (settled before) (put (page_sector place state.restart) (sectors_of bytes) (settled before)) ring (omega (arith, lt)) inside eight (beside k apart) between in
            ap (λ (vs : List (List ℕ)). newest vs (seen before (page_sector place k + i))) (same.written k i (omega arith) (omega arith) less)
            ∙ ap₂ (λ (vs : List (List ℕ)) (d : List ℕ). newest vs d) (alike.written k i (omega arith) lt less) (alike.durable k i (omega arith) lt less)

    -- ---- the ring of the new session stands

    older_lsn : (x : Restart) → r.front.chosen ≡ Some x → x.current < lsn
    older_lsn x is = lap_below s x.current ring (laps_below place ring kept first state r x.current (inl (record { restart = x; is = is; says = refl })))

    below_page : (o : Option Restart) → r.front.chosen ≡ o → IsBelow o (Some page)
    below_page None is = tt
    below_page (Some x) is = ap (λ (v : Bool). v || ((x.current == page.current) && nat_lt x.opens page.opens)) (lt-ltb x.current page.current (older_lsn x is))

    apart_page : (1 - state.restart) ≢ state.restart
    apart_page e = let lt = two in omega (arith, e, lt)

    small_page : (k : ℕ) → k < 2 → k < place.pages
    small_page k lt = let some = ring.ring in omega (arith, lt, some)

    other_told : said_restart (raw_page place (seen disk) (1 - state.restart)) ≡ r.front.chosen
    other_told = ap said_restart (other_page (1 - state.restart) (small_page (1 - state.restart) (omega arith)) apart_page) ∙ (found place ring kept first state r).said

    module _ (sized : IsSized disk) where
      stands_b : Stands s b (first_ring s) (found_restarts (1 - state.restart)) [] (λ n. Some page) disk
      stands_b = record {
        ring = ring_starts s (1 - state.restart) (min (state.opens + 1) (2 ^ 32 - 1)) disk ring (lap_some place ring kept first state r) (lap_small place ring kept first state r) (omega arith) sized (λ k within i lt. refl)
            (λ k n within said. laps_below place ring kept first state r n (inr (record {
              page = k;
              begun = within.begun;
              inside = within.inside;
              says = ap said_lsn (read_is_raw place (seen first) k ring within.inside ∙ sym (other_page k within.inside (λ e. let lt = two in let up = within.begun in omega (arith, e, lt, up)))) ∙ said;
            })));
        restarts = record {
          restarts = finds place disk (1 - state.restart) (λ n. Some page) ring sized (omega arith) (λ k lt i less. refl)
              (ap (λ (k : ℕ). said_restart (raw_page place (seen disk) k)) (let lt = two in let e : 1 - (1 - state.restart) ≡ state.restart = omega (arith, lt) in e) ∙ told)
              (subst (λ (o : Option Restart). IsBelow o (Some page)) (sym other_told) (below_page r.front.chosen refl))
              (λ none. absurd cc);
          done = refl;
          place = omega arith;
          said = tt;
          older = inr (refl, inl (let e = opens_small place ring kept first state r in grind (arith, e)));
          sent_before = tt;
          names = tt;
        };
      }

      -- the first page is the oldest
      number_is : number_of a lsn ≡ 0
      number_is =
          let lap : lap_of place.pages lsn ≡ state.next_lap + 0 / (place.pages - 4) = says_lap s (has_ring place ring) (log_small place ring) 0 in
          let at : page_of place.pages lsn ≡ 4 + 0 % (place.pages - 4) = says_page s (has_ring place ring) (log_small place ring) 0 in
          let none : 0 / (place.pages - 4) ≡ 0 = zero-div (place.pages - 4) in
          let none' : 0 % (place.pages - 4) ≡ 0 = zero-mod (place.pages - 4) in
          let lap_same : lap_of place.pages lsn ≡ state.next_lap = omega (arith, lap, none) in
          let page_same : page_of place.pages lsn ≡ 4 = omega (arith, at, none') in
          ap₂ (λ (l : ℕ) (p : ℕ). (l - state.next_lap) * (place.pages - 4) + (p - 4)) lap_same page_same
          ∙ (let zero_lap : state.next_lap - state.next_lap ≡ 0 = omega arith in ap (λ (l : ℕ). l * (place.pages - 4) + (4 - 4)) zero_lap ∙ omega arith)

      opened_is : opened_area place state.next_lap state.restart state.opens ≡ b
      opened_is = ap (λ (n : ℕ). record b { oldest = n }) number_is

      pub begins_on : (by : List Block) (changes : Changes) → changes.disk ≡ Some disk → HasStart changes (first_facts place (opened_area place state.next_lap state.restart state.opens) by) (content_of (seen disk))
      begins_on by changes known = subst (λ (l : LogAreaOf). HasStart changes (first_facts place l by) (content_of (seen disk))) (sym opened_is)
          (starts_window place b by state.next_lap (first_ring s) (found_restarts (1 - state.restart)) (λ n. Some page) disk page stands_b refl refl (is_first s b (first_ring s) (found_restarts (1 - state.restart)) [] (λ n. Some page) disk stands_b 0) (record { major = refl; minor = refl; own = refl })
          refl refl (λ n. refl) sized changes known)
