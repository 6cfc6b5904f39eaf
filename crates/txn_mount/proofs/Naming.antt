-- The new session's first restart page is written: whatever a crash leaves recovers alike.
use Rattle.std.proofs.Common.{◌≡◌, ◌≢◌, ◌⊎◌, subst, ℕ, zero, suc, ◌+◌, ◌-◌, ◌/◌, ◌<◌, ◌≤◌, Bool, true, false, List, [], ◌∷◌, length, take, Option, Some, None, Ok, refl, sym, ap, ap₂, ◌∙◌, inl, inr, arith}
use Rattle.std.specs.Prelude.{◌||◌, if◌then◌else◌, slice_index, map}
use Rattle.std.specs.List.{range_with_len}
use Rattle.std.proofs.lemmas.List.FromFn.{get_or-map-range_with_len}
use native.Mathlib.Nat.{zero-div}
use Rattle.host_base.specs.Answers.{needs}
use Rattle.disk_model.specs.declared.block.Block.{Block}
use Rattle.disk_model.specs.Sectors.{sectors, sector_of}
use Rattle.disk_model.specs.Content.{Content, content_of}
use Rattle.fixup_record.specs.Protecting.{protected_bytes}
use Rattle.fixup_record.proofs.Protected.{length-protected}
use Rattle.sector_device.specs.Disks.{Disk, IsBetween, IsSettled, IsSized, is_within, put, seen}
use Rattle.sector_device.specs.Sectors.{sectors_of}
use Rattle.sector_device.specs.WholeSectors.{length-sectors_of}
use Rattle.log_model.specs.declared.entry.Entry.{Entry}
use Rattle.log_model.specs.Logs.{is_shadowed, is_written_out, first_partial, recovered}
use Rattle.txn_core.specs.log_page.declared.places.LogPlace.{LogPlace}
use Rattle.txn_core.specs.log_page.declared.restart.Restart.{Restart}
use Rattle.txn_core.specs.log_page.Places.{first_page, lap_of}
use Rattle.txn_core.specs.log_page.RecordPages.{Reading}
use Rattle.txn_core.specs.log_page.LiveLogs.{live_log, said_lsn}
use Rattle.txn_core.specs.log_page.Restarts.{restart_spelling}
use Rattle.txn_core.proofs.log_page.Spelled.{length-restart_spelling}
use Rattle.txn_core.specs.log_laws.NextLaps.{IsSaid}
use Rattle.log_recovery.specs.log_reading.declared.fault.LogRefusal.TheVariants.{NoRestart}
use Rattle.log_recovery.specs.log_reading.Fronts.{chosen_in, is_readable, front_in}
use Rattle.log_recovery.specs.log_reading.LogPages.{page_in}
use Rattle.log_recovery.specs.log_reading.Rings.{IsRingPlace}
use Rattle.log_recovery.specs.LogStates.{LogState, own_entries, entries_by, live_entries_in}
use Rattle.log_recovery.specs.Writing.{is_put_out}
use Rattle.txn_core.specs.log_area.Areas.{LogAreaOf, page_first, new_area, restart_sector, page_to_send}
use Rattle.store_model.specs.Geometry.{SectorBytes, CanLeave}
use Rattle.store_model.specs.Rings.{Restarts, entries_on}
use Rattle.store_model.specs.Volumes.{is_known, AreWhole}
use Rattle.store_model.proofs.Told.{true≢false}
use Rattle.txn_core.specs.ring_laws.Numbers.{LogSession, lsn_of_page, IsInRing}
use Rattle.txn_core.specs.ring_laws.PageBytes.{page_sector, raw_page, AreAlike}
use Rattle.txn_core.specs.ring_laws.StoreDisks.{disk_without}
use Rattle.txn_core.specs.ring_laws.RestartPages.{RestartFields, ChoosesRestart, said_restart, found_restarts}
use Rattle.txn_core.specs.ring_laws.RingPages.{first_ring}
use Rattle.txn_core.proofs.ring_laws.Numbering.{says_lap}
use Rattle.txn_core.proofs.ring_laws.RingFacts.{has_ring, log_small}
use Rattle.txn_core.proofs.ring_laws.LogSectors.{read_is_raw, kept_by_page}
use Rattle.txn_core.proofs.ring_laws.RestartCalls.{chooses}
use Rattle.txn_core.proofs.ring_laws.RingReads.{reads_front, laps_said}
use Rattle.txn_core.proofs.ring_laws.SeenDisks.{not_own, own_put}
use Rattle.txn_core.specs.area_laws.Standing.{Stands}
use Rattle.txn_core.proofs.area_laws.Reading.{is_first}
use Rattle.txn_core.specs.txn_laws.Laws.{first_lsn}
use Rattle.txn_core.specs.txn_laws.Mounting.{StandsAt}
use Rattle.txn_core.proofs.txn_laws.Mounting.{mounts_go_on_law}
use Rattle.txn_core.proofs.txn_laws.PageWrites.{page_is_own}
use Rattle.txn_core.proofs.txn_laws.Syncs.{and_left}
use Rattle.txn_core.specs.txn_model.Values.{is_own}
use Rattle.txn_mount.specs.Contents.{mounted_content, ReadsLog, ReadsWell}
use Rattle.txn_mount.specs.Images.{RecoversAlike, Spares, MountsOn, OneIsNewer, left_of}
use Rattle.txn_mount.proofs.Frames.{entries_alike, live_alike}
use Rattle.txn_mount.proofs.Finding.{front_made, chosen_raw, readable_raw, found, ring_stands}
use Rattle.txn_mount.proofs.Alike.{page_still, seen_alike, page_alike, laps_alike, mounts_now, whole_now, may_write_now}
use Rattle.txn_mount.proofs.Putting.{alike_on}

some_inj : (a b : Restart) → Some a ≡ Some b → a ≡ b
some_inj a b e = cc

pub first_placed : (place : LogPlace) (k : ℕ) → k < place.pages → slice_index (map (page_first place) (range_with_len 0 place.pages)) k ≡ page_sector place k
unfolding page_sector
first_placed place k lt = get_or-map-range_with_len (page_first place) 0 place.pages k k 0 lt (omega arith)

-- ---- no entries

none_shadowed : (b : Block) → is_shadowed [] b ≡ false
unfolding is_shadowed
none_shadowed b = refl

none_recovered : (c : Content) (b : Block) → (recovered c [] b).bytes ≡ (c b).bytes
unfolding recovered is_shadowed
none_recovered c b = refl

none_torn : (c : Content) (b : Block) → (recovered c [] b).torn ≡ true → (c b).torn ≡ true
unfolding recovered is_shadowed
none_torn c b torn = and_left (c b).torn _ torn

none_in_part : (c : Content) → first_partial c [] ≡ None
none_in_part c = refl

none_stays : (c : Content) (b : Block) → (mounted_content c [] b).torn ≡ true → (c b).torn ≡ true
unfolding recovered is_shadowed is_written_out
none_stays c b torn = and_left (c b).torn _ (left_one _ torn)
  where
    left_one : (x : Bool) → (x || false) ≡ true → x ≡ true
    left_one true is = refl
    left_one false is = absurd cc

none_put : (c : Content) (b : Block) → is_put_out c [] b ≡ true → ⊥
unfolding is_put_out is_written_out
none_put c b out = absurd (true≢false (sym out))

-- ---- the restart page that is sent

module _ (place : LogPlace) (ring : IsRingPlace place) (kept : List Block) (first : Disk) (still : IsSettled first) (state : LogState) (r : ReadsLog (content_of (seen first)) place kept state) (well : ReadsWell state.log) where
  abbrev Alone : Type 0
  Alone = OneIsNewer (said_restart (raw_page place (seen first) 0)) (said_restart (raw_page place (seen first) 1))

  abbrev own : ℕ → Bool
  own = is_own place kept

  abbrev c : Content
  c = content_of (seen first)

  abbrev list : List Entry
  list = state.log

  abbrev t : Content
  t = mounted_content (content_of (seen first)) state.log

  abbrev s : LogSession
  s = record { place = place; lap = state.next_lap }

  abbrev a : LogAreaOf
  a = new_area place state.next_lap state.restart state.opens

  abbrev q : Restarts
  q = found_restarts state.restart

  abbrev fields : RestartFields
  fields = λ n. r.front.chosen

  abbrev lsn : ℕ
  lsn = first_lsn place state.next_lap state.restart state.opens

  abbrev page : Restart
  page = page_to_send a lsn false

  small : state.restart < 2
  small = (found place ring kept first state r).small

  inside : state.restart < place.pages
  inside = let some = ring.ring in let lt = small in omega (arith, some, lt)

  module _ (disk : Disk) (on : MountsOn place kept list first 0 (left_of []) disk) (done : IsSettled disk) (sized : IsSized disk) where
    pub stands : Alone → Stands s a (first_ring s) q [] fields disk
    stands alone = ring_stands place ring kept first state r alone disk sized (λ k lt. page_still place ring kept first still state r well 0 disk on.pages k (omega arith) lt) (λ k lt. seen_alike place ring kept first still state r well 0 disk on.pages k (omega arith) lt)

    sector_is : restart_sector a ≡ page_sector place state.restart
    sector_is = first_placed place state.restart inside

    abbrev new : ℕ → List (List ℕ)
    new word = sectors_of (protected_bytes (restart_spelling page) word)

    eight : (word : ℕ) → length (new word) ≡ 8
    eight word = length-sectors_of (protected_bytes (restart_spelling page) word) ∙ (let size = length-protected (restart_spelling page) word ∙ length-restart_spelling page in omega (arith, size))

    module _ (word : ℕ) (now : Disk) (between : IsBetween disk (put (restart_sector a) (new word) disk) now) where
      there : IsBetween disk (put (page_sector place state.restart) (new word) disk) now
      there = subst (λ (n : ℕ). IsBetween disk (put n (new word) disk) now) sector_is between

      own_page : (n : ℕ) → is_within (page_sector place state.restart) (length (new word)) n ≡ true → own n ≡ true
      own_page n within = page_is_own place kept state.restart n inside (ap (λ (m : ℕ). is_within (page_sector place state.restart) m n) (sym (eight word)) ∙ within)

      same : disk_without own now ≡ disk_without own disk
      same = own_put own (page_sector place state.restart) (new word) disk now own_page there

      ring_pages : AreAlike place first_page place.pages first now
      ring_pages = alike_on place first_page first disk now
          (record { durable = λ k i low lt few. on.pages.durable k i (omega arith) lt few; written = λ k i low lt few. on.pages.written k i (omega arith) lt few })
          (kept_by_page place first_page place.pages state.restart (new word) disk now ring (omega arith) inside (eight word) (inl (let lt = small in omega (arith, lt))) there)

      spares : Spares own list first now
      spares = record { spared = λ b known has claimed none n within. (let was = on.spares.spared b known has claimed none n within in (written b known n within (there.written n) ∙ was.0, there.durable n ∙ was.1)) }
        where
          written : (b : Block) → is_known own b ≡ true → (n : ℕ) → is_within b.first (sectors b.kind) n ≡ true → (now.written n ≡ disk.written n) ⊎ (now.written n ≡ (put (page_sector place state.restart) (new word) disk).written n) → now.written n ≡ disk.written n
          written b known n within (inl e) = e
          written b known n within (inr e) = e ∙ outside (is_within (page_sector place state.restart) (length (new word)) n) refl
            where
              outside : (v : Bool) → is_within (page_sector place state.restart) (length (new word)) n ≡ v → (if v then sector_of (new word) (n - page_sector place state.restart) ∷ disk.written n else disk.written n) ≡ disk.written n
              outside false e = refl
              outside true e = absurd (true≢false (sym (own_page n e) ∙ not_own own b n known within))

      pub named_on : MountsOn place kept list first first_page (left_of []) now
      named_on = record { mounting = mounts_go_on_law.elsewhere own list t (left_of []) disk now on.mounting same; pages = ring_pages; spares = spares }

      pub named_same : disk_without own now ≡ disk_without own disk
      named_same = same

      -- ---- what a crash leaves

      module _ (alone : Alone) (later : LogAreaOf) (restarts : Restarts) (sure : restarts.sure ≡ q.sure) (told : RestartFields) (said : told (suc q.sure) ≡ Some page) (others : (m : ℕ) → m ≢ suc q.sure → told m ≡ fields m) (rings : Stands s later (first_ring s) restarts [] told now)
          (at : SectorBytes) (can : CanLeave now at) (whole : AreWhole at) where
        choice : ChoosesRestart place restarts told at
        choice = chooses place restarts _ told now rings.restarts.restarts at can

        abbrev raw : ℕ → List ℕ
        raw = raw_page place at

        front_at : (o : Option Restart) → chosen_in (raw 0) (raw 1) ≡ o → is_readable o (raw 0) (raw 1) ≡ Ok tt → (front : _) × (front_in (page_in (content_of at) place 0) (page_in (content_of at) place 1) ≡ Ok front) × (front.chosen ≡ o)
        front_at o is readable =
            let some = ring.ring in
            let made = front_made (raw 0) (raw 1) (ap (λ (x : Option Restart). is_readable x (raw 0) (raw 1)) is ∙ readable) in
            (made.0, ap₂ (λ (x : List ℕ) (y : List ℕ). front_in x y) (read_is_raw place at 0 ring (omega (arith, some))) (read_is_raw place at 1 ring (omega (arith, some))) ∙ made.1, made.2 ∙ is)

        -- the old restart page is chosen
        old_readable : (o : Option Restart) → chosen_in (raw 0) (raw 1) ≡ o → r.front.chosen ≡ o → is_readable o (raw 0) (raw 1) ≡ Ok tt
        old_readable (Some x) is was = ap (λ (y : Option Restart). is_readable y (raw_page place (seen first) 0) (raw_page place (seen first) 1)) (sym was ∙ chosen_raw place ring kept first state r) ∙ readable_raw place ring kept first state r
        old_readable None is was = ap (λ (v : Bool). needs v NoRestart) (choice.emptied is)

        by_old : chosen_in (raw 0) (raw 1) ≡ r.front.chosen → RecoversAlike place kept list t state.next_lap at
        by_old is =
            let front = front_at r.front.chosen is (old_readable r.front.chosen is refl) in
            record {
              front = front.0;
              fronted = front.1;
              entries = list;
              reads = ap (live_entries_in (content_of at) place) front.2 ∙ entries_alike place (content_of at) c r.front.chosen (λ k low lt. page_alike place ring kept first still state r well first_page now ring_pages at can k low lt) ∙ r.entries;
              same = inl refl;
              recovers = mounts_now place ring kept first still state r well (left_of []) now named_on.mounting spares at can whole;
              whole = whole_now place ring kept first still state r well (left_of []) now named_on.mounting spares at can whole;
              may_write = may_write_now place ring kept first still state r well (left_of []) now named_on.mounting spares at can whole;
              laps = λ n said. laps_alike place ring kept first still state r well first_page now ring_pages at can n (omega arith) (subst (λ (o : Option Restart). IsSaid place.pages raw o n) front.2 said);
            }

        -- the new one is
        first_is : lsn ≡ lsn_of_page s 0
        first_is = is_first s a (first_ring s) q [] fields disk (stands alone) 0

        none_read : live_log place.pages (page_in (content_of at) place) lsn ≡ record { entries = []; foreign = None }
        none_read =
            let front = reads_front s (first_ring s) _ [] now rings.ring.ring at can in
            live_alike place.pages (page_in (content_of at) place) raw lsn (λ k low lt. read_is_raw place at k ring lt) ∙ ap (live_log place.pages raw) first_is ∙ front.reads ∙ ap (λ (l : List Entry). record { entries = l; foreign = None }) (none_on front.count)
          where
            none_on : (n : ℕ) → entries_on (take n []) ≡ []
            none_on zero = refl
            none_on (suc n) = refl

        new_entries : live_entries_in (content_of at) place (Some page) ≡ Ok []
        unfolding entries_by
        new_entries = ap (λ (reading : Reading). own_entries reading place.clusters) none_read

        page_lap : lap_of place.pages page.current ≤ state.next_lap
        page_lap =
            let lap : lap_of place.pages page.current ≡ state.next_lap + 0 / (place.pages - 4) = ap (lap_of place.pages) first_is ∙ says_lap s (has_ring place ring) (log_small place ring) 0 in
            let none : 0 / (place.pages - 4) ≡ 0 = zero-div (place.pages - 4) in
            omega (arith, lap, none)

        ring_lap : (k n : ℕ) → IsInRing place k → said_lsn (raw k) ≡ Some n → lap_of place.pages n ≤ state.next_lap
        ring_lap k n within is =
            let lap = laps_said s (first_ring s) _ [] now rings.ring.ring at can k n within is in
            let none : 0 / (place.pages - 4) ≡ 0 = zero-div (place.pages - 4) in
            omega (arith, lap, none)

        new_laps : (o : Option Restart) → o ≡ Some page → (n : ℕ) → IsSaid place.pages raw o n → lap_of place.pages n ≤ state.next_lap
        new_laps o is n (inl restart) = let e : restart.restart ≡ page = some_inj restart.restart page (sym restart.is ∙ is) in subst (λ (m : ℕ). lap_of place.pages m ≤ state.next_lap) (sym (ap (λ (x : Restart). x.current) e) ∙ restart.says) page_lap
        new_laps o is n (inr said_page) = ring_lap said_page.page n (record { begun = said_page.begun; inside = said_page.inside }) said_page.says

        settled_store : IsSettled (disk_without own now)
        settled_store = subst (λ (d : Disk). IsSettled d) (sym same) (λ n. go n (own n))
          where
            go : (n : ℕ) (v : Bool) → (if v then [] else disk.written n) ≡ []
            go n true = refl
            go n false = done n

        stands_now : (b : Block) → is_known own b ≡ true → is_shadowed list b ≡ false → StandsAt t at b
        stands_now b known claimed = mounts_go_on_law.ended own list t (left_of []) now at named_on.mounting (λ x k. refl) settled_store can b known claimed

        by_new : chosen_in (raw 0) (raw 1) ≡ Some page → RecoversAlike place kept list t state.next_lap at
        by_new is =
            let front = front_at (Some page) is refl in
            record {
              front = front.0;
              fronted = front.1;
              entries = [];
              reads = ap (live_entries_in (content_of at) place) front.2 ∙ new_entries;
              same = inr refl;
              recovers = λ b known claimed. (let x = stands_now b known claimed in record {
                bytes = none_recovered (content_of at) b ∙ x.bytes;
                torn = λ torn. x.torn (none_stays (content_of at) b torn);
              });
              whole = λ known. none_in_part (content_of at);
              may_write = λ known b out. absurd (none_put (content_of at) b out);
              laps = new_laps front.0.chosen front.2;
            }

        pub alike_named : RecoversAlike place kept list t state.next_lap at
        alike_named = elim choice.is [
          | inl old ↦ by_old (old.1 ∙ ap told sure ∙ others q.sure (λ e. omega (arith, e)))
          | inr next ↦ by_new (next.2 ∙ ap (λ (n : ℕ). told (suc n)) sure ∙ said)
        ]
