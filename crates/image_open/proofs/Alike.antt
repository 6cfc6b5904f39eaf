-- Places that lie alike have one log, so recovery by it is one.
use mathlib.Core.Path.{fun_ext}
use Rattle.std.proofs.Common.{◌≡◌, ℕ, ◌+◌, ◌-◌, ◌*◌, ◌<◌, ◌≤◌, min, Bool, true, false, cond, ltb, List, [], Option, Some, None, Result, Ok, Err, refl, sym, ap, ◌∙◌, subst, arith}
use Rattle.std.specs.Prelude.{◌||◌, IfSome}
use Rattle.std.specs.List.{list_any, range_with_len}
use Rattle.std.proofs.lemmas.Bool.{ltb-true}
use Rattle.host_base.specs.Answers.{◌>>=◌, needs, GivesOrFails}
use Rattle.host_base.proofs.Known.{both, one}
use Rattle.disk_model.specs.declared.block.Block.{Block}
use Rattle.disk_model.specs.Sectors.{raw_from, overlap}
use Rattle.disk_model.specs.Content.{Content}
use Rattle.state_model.specs.record_model.declared.runs.Run.{Run}
use Rattle.state_model.specs.record_model.Records.{Record}
use Rattle.state_model.specs.declared.geometry.Geometry.{Geometry}
use Rattle.log_model.specs.declared.entry.Entry.{Entry}
use Rattle.log_model.specs.Logs.{recovered}
use Rattle.log_recovery.specs.log_page.declared.restart.Restart.{Restart}
use Rattle.log_recovery.specs.log_page.declared.places.Extent.{Extent}
use Rattle.log_recovery.specs.log_page.declared.places.LogPlace.{LogPlace}
use Rattle.log_recovery.specs.log_page.Places.{page_bytes}
use Rattle.log_recovery.specs.log_page.Restarts.{is_clean}
use Rattle.log_recovery.specs.log_page.LiveLogs.{live_log, greatest_lsn}
use Rattle.log_recovery.specs.log_reading.declared.fault.LogRefusal.{LogRefusal}
use Rattle.log_recovery.specs.log_reading.declared.fault.LogRefusal.TheVariants.{ForeignLog}
use Rattle.log_recovery.specs.log_reading.LogPages.{sector_in, sector_below, log_sector, sector_bytes, log_bytes, page_in}
use Rattle.log_recovery.specs.log_reading.declared.front.RestartFront.{RestartFront}
use Rattle.log_recovery.specs.log_reading.Fronts.{front_in}
use Rattle.log_recovery.specs.declared.found.RecoveredBlocks.{RecoveredBlocks}
use Rattle.log_recovery.specs.LogStates.{own_entries, entries_by, live_entries_in, whole_entries, lap_by, lap_in, LogState, recovery_in, FoundLog, log_in}
use Rattle.log_recovery.specs.Own.{is_in_block, is_own}
use Rattle.log_recovery.specs.Writing.{first_update, unless_foreign, is_barred, to_write_in}
use Rattle.image_open.specs.declared.refusal.Refusal.{Refusal}
use Rattle.image_open.specs.declared.refusal.MountFault.{MountFault}
use Rattle.image_open.specs.Errors.{scan_cause, log_refusal, refused_as}
use Rattle.image_open.specs.LogPlaces.{nowhere, stream_sector, stream_sectors, log_of, LieAlike, AreSectors}
use Rattle.image_open.specs.Volumes.{log_record, log_place, log_state, recovered_at}
use Rattle.image_open.specs.Openings.{AreFoundBy}
use Rattle.image_open.proofs.Stretches.{one_each}

-- ---- one recovery

module _ (c : Content) (p q : LogPlace) (alike : LieAlike p q) where
  bytes_alike : (n : ℕ) → log_bytes c p n ≡ log_bytes c q n
  bytes_alike n =
      ap (λ (k : ℕ). sector_bytes c (k - 512 * n) (log_sector p n)) alike.initialised
      ∙ ap (sector_bytes c (q.initialised - 512 * n)) (alike.sectors n)

  page_alike : (n : ℕ) → page_in c p n ≡ page_in c q n
  unfolding page_in
  page_alike n = ap (λ (at : ℕ → List ℕ). raw_from at (8 * n) 8) (fun_ext bytes_alike)

  pages_alike : page_in c p ≡ page_in c q
  pages_alike = fun_ext page_alike

  entries_alike_by : (r : Restart) → entries_by c p r ≡ entries_by c q r
  unfolding entries_by
  entries_alike_by r =
      let by : ℕ → (ℕ → List ℕ) → ℕ → Result (List Entry) LogRefusal =
      λ pages at clusters. if_clean (is_clean r) (needs r.own (ForeignLog r.current) >>= λ _. own_entries (live_log pages at r.oldest) clusters) in
      ap (λ (pages : ℕ). by pages (page_in c p) p.clusters) alike.pages
      ∙ ap (λ (at : ℕ → List ℕ). by q.pages at p.clusters) pages_alike
      ∙ ap (by q.pages (page_in c q)) alike.clusters
    where
      if_clean : Bool → Result (List Entry) LogRefusal → Result (List Entry) LogRefusal
      if_clean b entries = cond b (Ok []) entries

  entries_alike : (chosen : Option Restart) → live_entries_in c p chosen ≡ live_entries_in c q chosen
  entries_alike None = refl
  entries_alike (Some r) = entries_alike_by r

  lap_alike : (chosen : Option Restart) → lap_in c p chosen ≡ lap_in c q chosen
  unfolding lap_in
  lap_alike chosen =
      ap (λ (pages : ℕ). lap_by pages (greatest_lsn pages (page_in c p) chosen)) alike.pages
      ∙ ap (λ (at : ℕ → List ℕ). lap_by q.pages (greatest_lsn q.pages at chosen)) pages_alike

  -- what follows the front
  abbrev found_by : RestartFront → Result (List Entry) LogRefusal → Result FoundLog LogRefusal
  found_by front entries = entries >>= λ entries. whole_entries c entries >>= λ log. Ok (record { log = log; front = front })

  found_alike : (front : RestartFront) → found_by front (live_entries_in c p front.chosen) ≡ found_by front (live_entries_in c q front.chosen)
  found_alike front = ap (found_by front) (entries_alike front.chosen)

  log_alike : log_in c p ≡ log_in c q
  unfolding log_in
  log_alike =
      ap (λ (at : ℕ → List ℕ). front_in (at 0) (at 1) >>= λ front. found_by front (live_entries_in c p front.chosen)) pages_alike
      ∙ ap (λ (rest : RestartFront → Result FoundLog LogRefusal). front_in (page_in c q 0) (page_in c q 1) >>= rest) (fun_ext found_alike)

  -- what follows the log
  abbrev state_by : FoundLog → Result ℕ LogRefusal → Result LogState LogRefusal
  state_by found lap = lap >>= λ lap. Ok (record { log = found.log; next_lap = lap; restart = found.front.restart; opens = found.front.opens })

  state_alike : (found : FoundLog) → state_by found (lap_in c p found.front.chosen) ≡ state_by found (lap_in c q found.front.chosen)
  state_alike found = ap (state_by found) (lap_alike found.front.chosen)

  recovery_alike : recovery_in c p ≡ recovery_in c q
  unfolding recovery_in
  recovery_alike =
      ap (λ (log : Result FoundLog LogRefusal). log >>= λ found. state_by found (lap_in c p found.front.chosen)) log_alike
      ∙ ap (λ (rest : FoundLog → Result LogState LogRefusal). log_in c q >>= rest) (fun_ext state_alike)

  pub recovered_alike : recovered_at c p ≡ recovered_at c q
  unfolding recovered_at
  recovered_alike = ap (λ (r : Result LogState LogRefusal). refused_as log_refusal r >>= λ state. okay (recovered c state.log)) recovery_alike
    where
      okay : Content → Result Content Refusal
      okay d = Ok d

  own_alike : (kept : List Block) → is_own p kept ≡ is_own q kept
  own_alike kept = fun_ext (λ b. own_of b)
    where
      own_by : Block → ℕ → (ℕ → Option ℕ) → Bool
      own_by b pages at = list_any (λ n. is_in_block b (at n)) (range_with_len 0 (8 * pages)) || list_any (overlap b) kept

      own_of : (b : Block) → is_own p kept b ≡ is_own q kept b
      own_of b = ap (own_by b p.pages) (fun_ext alike.sectors) ∙ ap (λ (pages : ℕ). own_by b pages (log_sector q)) alike.pages

  pub to_write_alike : (kept : List Block) → to_write_in c p kept ≡ to_write_in c q kept
  unfolding to_write_in
  to_write_alike kept =
      ap (λ (own : Block → Bool). recovery_in c p >>= λ state. unless_foreign (first_update (is_barred own c state.log) state.log) state) (own_alike kept)
      ∙ ap (λ (r : Result LogState LogRefusal). r >>= λ state. unless_foreign (first_update (is_barred (is_own q kept) c state.log) state.log) state) recovery_alike

-- what recovery by one of them answers, by the other
pub by_alike : {X : Type 0} (known : Option Content) (view : Content → X → Content) (result : Result X MountFault) (p q : LogPlace) → LieAlike p q
    → IfSome known (λ c. GivesOrFails (view c) scan_cause result (recovered_at c p)) → IfSome known (λ c. GivesOrFails (view c) scan_cause result (recovered_at c q))
by_alike known view result p q alike h = one known _ _ (λ c e. rw (← recovered_alike c p q alike) e) h

-- the blocks of a log that isn't refused for another cause
found_refused : (c : Content) (r : Result LogState LogRefusal) (blocks : RecoveredBlocks) → AreFoundBy c r blocks → AreFoundBy c (refused_as log_refusal r) blocks
found_refused c (Ok state) blocks h = h
found_refused c (Err e) blocks h = absurd h

-- the blocks that recovery by one of them finds are those of the volume's log, which is the other
pub found_by_alike : (known : Option Content) (g : Geometry) (clusters device : ℕ) (file : Option Record) (place : LogPlace) (blocks : RecoveredBlocks) → LieAlike place (log_place g clusters device file)
    → IfSome known (λ c. log_record c g ≡ Ok file) → IfSome known (λ c. AreFoundBy c (recovery_in c place) blocks) → IfSome known (λ c. AreFoundBy c (log_state c g clusters device) blocks)
unfolding log_state
found_by_alike known g clusters device file place blocks alike first second =
    both known _ _ _ (λ c is h. rw is (found_refused c (recovery_in c (log_place g clusters device file)) blocks (subst (λ (r : Result LogState LogRefusal). AreFoundBy c r blocks) (recovery_alike c place (log_place g clusters device file) alike) h))) first second

-- ---- the place of a stream

pub itself : (p : LogPlace) → LieAlike p p
itself p = record { sectors = λ n. refl; initialised = refl; pages = refl; clusters = refl }

pub in_stream : (per count : ℕ) (runs : List Run) (n : ℕ) → n < count → sector_in (stream_sectors per count runs) n ≡ Some (stream_sector per runs n)
unfolding stream_sectors
in_stream per count runs n lt =
    let here : 0 + n ≡ n = omega arith in
    one_each per runs 0 count n lt ∙ ap (λ (s : ℕ). Some (stream_sector per runs s)) here

-- so many sectors, as many as the pages have or more, lie as the stream's
pub streams_alike : (per clusters device pages initialised count : ℕ) (runs : List Run) (sectors : List Extent) → 8 * pages ≤ count → AreSectors per runs count sectors
    → LieAlike (log_of clusters device pages initialised sectors) (log_of clusters device pages initialised (stream_sectors per (8 * pages) runs))
streams_alike per clusters device pages initialised count runs sectors enough are = record { sectors = same; initialised = refl; pages = refl; clusters = refl }
  where
    by_test : (n : ℕ) (t : Bool) → ltb (512 * n) (min initialised (page_bytes * pages)) ≡ t
        → cond t (sector_below (min nowhere device) (sector_in sectors n)) None ≡ cond t (sector_below (min nowhere device) (sector_in (stream_sectors per (8 * pages) runs) n)) None
    by_test n true is =
        let low = ltb-true (512 * n) (min initialised (page_bytes * pages)) is in
        are.lie (min nowhere device) n (omega arith) (omega arith) ∙ sym (ap (sector_below (min nowhere device)) (in_stream per (8 * pages) runs n (omega arith)))
    by_test n false is = refl

    same : (n : ℕ) → log_sector (log_of clusters device pages initialised sectors) n ≡ log_sector (log_of clusters device pages initialised (stream_sectors per (8 * pages) runs)) n
    same n = by_test n (ltb (512 * n) (min initialised (page_bytes * pages))) refl
