-- No log that a store left is refused by a mount, and none that a stopped mount of it left.
use Rattle.std.proofs.Common.{◌≡◌, ◌⊎◌, subst, ℕ, zero, suc, ◌+◌, ◌-◌, ◌*◌, ◌/◌, ◌%◌, ◌^◌, ◌<◌, ◌≤◌, max, Bool, true, false, cond, List, [], ◌∷◌, Option, Some, None, Result, Ok, Err, refl, sym, ap, ap₂, ◌∙◌, inl, inr, arith, eq-eqb, lt-ltb, le-leb}
use Rattle.std.specs.Prelude.{◌&&◌, ◌||◌, ◌==◌, not, find, if◌then◌else◌, nat_le, nat_lt, unwrap_or}
use Rattle.std.specs.Option.{option_map, option_or}
use Rattle.std.specs.List.{list_any, range_with_len}
use Rattle.std.proofs.lemmas.Bool.{leb-true, ltb-true}
use Rattle.host_base.specs.Answers.{◌>>=◌, needs, ExplainsOrFails}
use Rattle.disk_model.specs.declared.block.Block.{Block}
use Rattle.disk_model.specs.declared.block.BlockKind.{BlockKind}
use Rattle.disk_model.specs.declared.block.BlockKind.TheVariants.{Plain, FileRec, Index}
use Rattle.disk_model.specs.Content.{Content, content_of}
use Rattle.disk_model.specs.Sectors.{sector_of, sectors, overlap}
use Rattle.fixup_record.specs.Spellings.{has_spelling}
use Rattle.sector_device.specs.Disks.{is_within}
use Rattle.sector_device.specs.Moments.{Changes, MayLeaveNow}
use Rattle.log_model.specs.declared.entry.Entry.{Entry}
use Rattle.log_model.specs.declared.entry.Act.{Act}
use Rattle.log_model.specs.declared.entry.Act.TheVariants.{Update, Commit}
use Rattle.log_model.specs.Logs.{updates, block_of_kind, is_shadowed, is_covered_whole, is_other, is_written_out, first_misplaced, first_partial}
use Rattle.txn_core.specs.log_page.declared.places.LogPlace.{LogPlace}
use Rattle.txn_core.specs.log_page.declared.restart.Restart.{Restart}
use Rattle.txn_core.specs.log_page.Places.{first_page, lap_of, sequence_bits}
use Rattle.txn_core.specs.log_page.LiveLogs.{live_log, said_lsn, greatest_lsn, lap_above, next_lap}
use Rattle.txn_core.specs.log_page.RecordPages.{Reading}
use Rattle.txn_core.specs.log_page.Restarts.{is_clean}
use Rattle.txn_core.specs.log_laws.NextLaps.{IsSaid}
use Rattle.txn_core.proofs.log_laws.Fresh.{above}
use Rattle.txn_core.proofs.log_laws.Greatest.{greatest_found}
use Rattle.log_recovery.specs.log_reading.declared.fault.LogRefusal.{LogRefusal}
use Rattle.log_recovery.specs.log_reading.declared.fault.LogRefusal.TheVariants.{LogVersion, ForeignLog}
use Rattle.log_recovery.specs.log_reading.declared.front.RestartFront.{RestartFront}
use Rattle.log_recovery.specs.log_reading.Fronts.{chosen_in, is_readable, next_restart, next_opens, front_in}
use Rattle.log_recovery.specs.log_reading.LogPages.{log_sector, page_in}
use Rattle.log_recovery.specs.log_reading.Rings.{IsRingPlace}
use Rattle.log_recovery.specs.LogStates.{FoundLog, LogState, all_or_refused, own_entries, entries_by, live_entries_in, whole_entries, has_lap, lap_by, lap_in, log_in, recovery_in}
use Rattle.log_recovery.specs.Own.{is_in_block, is_in_log}
use Rattle.log_recovery.specs.Own.{is_own as is_own_block}
use Rattle.log_recovery.specs.Writing.{is_spelled, is_put_out, is_barred, updates_such, first_update, unless_foreign, to_write_in}
use Rattle.txn_core.specs.log_area.Areas.{page_first}
use Rattle.txn_core.specs.ring_laws.PageBytes.{page_sector, raw_page}
use Rattle.txn_core.proofs.ring_laws.LogSectors.{lies_in_row, read_is_raw}
use Rattle.txn_core.proofs.ring_laws.SeenDisks.{not_own, written_updated}
use Rattle.store_model.specs.Geometry.{SectorBytes}
use Rattle.store_model.specs.Logs.{has_update}
use Rattle.store_model.specs.Volumes.{is_known}
use Rattle.txn_core.specs.store_claims.Windows.{StoreWindow}
use Rattle.store_model.proofs.Known.{is_in}
use Rattle.store_model.proofs.Told.{true≢false, same_self}
use Rattle.txn_core.specs.txn_laws.Windows.{HasWindow, RecoversWithin, lap_behind, next_lap_in}
use Rattle.txn_core.proofs.txn_laws.PageWrites.{page_is_own}
use Rattle.txn_core.proofs.txn_laws.Laps.{next_lap_shown}
use Rattle.txn_core.proofs.txn_laws.Syncs.{and_left, and_right}
use Rattle.txn_core.proofs.txn_laws.Telling.{at_return}
use Rattle.txn_core.specs.txn_model.Values.{StoreFacts, is_own, own_of}
use Rattle.txn_mount.specs.declared.fault.StoreFault.{StoreFault}
use Rattle.txn_mount.specs.declared.fault.StoreFault.TheVariants.{Refused, Fault, Memory, Broken}
use Rattle.txn_mount.specs.Contents.{UpdatesKnown}
use Rattle.txn_mount.specs.Faults.{store_cause}
use Rattle.txn_mount.specs.Images.{RecoversAlike}
use Rattle.txn_mount.specs.Mountable.{IsFar, IsMountable, StoresMount, StoppedMountsMount, NeverRefused}
use Rattle.txn_mount.proofs.Frames.{live_alike}
use Rattle.txn_mount.proofs.Starting.{out_written}

-- ---- known blocks aren't those by which the log is found

-- some number of a range passes
found_in : (p : ℕ → Bool) (n from : ℕ) → list_any p (range_with_len from n) ≡ true → (k : ℕ) × (from ≤ k) × (k < from + n) × (p k ≡ true)
found_in p zero from is = absurd cc
found_in p (suc n) from is = go (λ h. found_in p n (from + 1) h) (p from) refl is
  where
    go : (list_any p (range_with_len (from + 1) n) ≡ true → (k : ℕ) × (from + 1 ≤ k) × (k < from + 1 + n) × (p k ≡ true)) → (v : Bool) → p from ≡ v → (v || list_any p (range_with_len (from + 1) n)) ≡ true
        → (k : ℕ) × (from ≤ k) × (k < from + suc n) × (p k ≡ true)
    go more true here h = (from, omega arith, omega arith, here)
    go more false none h = let x = more h in (x.0, omega (arith, x.1), omega (arith, x.2), x.3)

-- some block does
found_block : (p : Block → Bool) (bs : List Block) → list_any p bs ≡ true → (d : Block) × (p d ≡ true) × ((q : Block → Bool) → q d ≡ true → list_any q bs ≡ true)
found_block p [] is = absurd cc
found_block p (b ∷ bs) is = go (λ h. found_block p bs h) (p b) refl is
  where
    or_left : (u v : Bool) → u ≡ true → (u || v) ≡ true
    or_left true v h = refl
    or_left false v h = absurd cc

    or_right : (u v : Bool) → v ≡ true → (u || v) ≡ true
    or_right true v h = refl
    or_right false v h = h

    go : (list_any p bs ≡ true → (d : Block) × (p d ≡ true) × ((q : Block → Bool) → q d ≡ true → list_any q bs ≡ true)) → (v : Bool) → p b ≡ v → (v || list_any p bs) ≡ true
        → (d : Block) × (p d ≡ true) × ((q : Block → Bool) → q d ≡ true → list_any q (b ∷ bs) ≡ true)
    go more true here h = (b, here, λ q is. or_left (q b) (list_any q bs) is)
    go more false none h = let x = more h in (x.0, x.1, λ q is. or_right (q b) (list_any q bs) (x.2 q is))

or_parts : (u v : Bool) → (u || v) ≡ true → (u ≡ true) ⊎ (v ≡ true)
or_parts true v is = inl refl
or_parts false v is = inr is

or_second : (u v : Bool) → v ≡ true → (u || v) ≡ true
or_second true v is = refl
or_second false v is = is

module _ (place : LogPlace) (ring : IsRingPlace place) (kept : List Block) (b : Block) where
  -- a sector of the block in which a page of the log lies
  in_sector : (o : Option ℕ) → is_in_block b o ≡ true → (s : ℕ) × (o ≡ Some s) × (b.first ≤ s) × (s < b.first + sectors b.kind)
  in_sector (Some s) is = (s, refl, leb-true b.first s (and_left (nat_le b.first s) (nat_lt s (b.first + sectors b.kind)) is), ltb-true s (b.first + sectors b.kind) (and_right (nat_le b.first s) (nat_lt s (b.first + sectors b.kind)) is))
  in_sector None is = absurd cc

  some_is : (x y : ℕ) → Some x ≡ Some y → x ≡ y
  some_is x y e = cc

  log_own : is_in_log place b ≡ true → (s : ℕ) × (b.first ≤ s) × (s < b.first + sectors b.kind) × (is_own place kept s ≡ true)
  log_own is =
      let n = found_in (λ n. is_in_block b (log_sector place n)) (8 * place.pages) 0 is in
      let s = in_sector (log_sector place n.0) n.3 in
      let k = n.0 / 8 in
      let i = n.0 % 8 in
      let lt : k < place.pages = omega (arith, n.2) in
      let few : i < 8 = omega arith in
      let at : page_sector place k + i ≡ s.0 = some_is (page_sector place k + i) s.0 (sym (lies_in_row place ring k i lt few) ∙ ap (log_sector place) (let e : 8 * k + i ≡ n.0 = omega arith in e) ∙ s.1) in
      (s.0, s.2, s.3, page_is_own place kept k s.0 lt (is_in (page_sector place k) 8 s.0 (omega (arith, at)) (omega (arith, at, few))))

  kept_own : list_any (overlap b) kept ≡ true → (s : ℕ) × (b.first ≤ s) × (s < b.first + sectors b.kind) × (is_own place kept s ≡ true)
  kept_own is =
      let d = found_block (overlap b) kept is in
      let one = ltb-true b.first (d.0.first + sectors d.0.kind) (and_left (nat_lt b.first (d.0.first + sectors d.0.kind)) (nat_lt d.0.first (b.first + sectors b.kind)) d.1) in
      let two = ltb-true d.0.first (b.first + sectors b.kind) (and_right (nat_lt b.first (d.0.first + sectors d.0.kind)) (nat_lt d.0.first (b.first + sectors b.kind)) d.1) in
      let some = some_sectors b.kind in
      let more = some_sectors d.0.kind in
      let s = max b.first d.0.first in (
        s,
        omega arith,
        omega (arith, two, some),
        or_second (list_any (λ k. is_within (page_first place k) 8 s) (range_with_len 0 place.pages)) (list_any (λ (x : Block). is_within x.first (sectors x.kind) s) kept)
            (d.2 (λ (x : Block). is_within x.first (sectors x.kind) s) (is_in d.0.first (sectors d.0.kind) s (omega arith) (omega (arith, one, more)))),
      )
    where
      some_sectors : (k : BlockKind) → 0 < sectors k
      some_sectors Plain = omega arith
      some_sectors FileRec = omega arith
      some_sectors Index = omega arith

  -- a known block has none of them
  known_apart : is_known (is_own place kept) b ≡ true → is_own_block place kept b ≡ false
  known_apart known = go (is_own_block place kept b) refl
    where
      none : (s : ℕ) → b.first ≤ s → s < b.first + sectors b.kind → is_own place kept s ≡ true → ⊥
      none s low high is = true≢false (sym is ∙ not_own (is_own place kept) b s known (is_in b.first (sectors b.kind) s low high))

      go : (v : Bool) → is_own_block place kept b ≡ v → is_own_block place kept b ≡ false
      go false is = is
      go true is = elim (or_parts (is_in_log place b) (list_any (overlap b) kept) is) [
        | inl log ↦ (let s = log_own log in absurd (none s.0 s.1 s.2 s.3))
        | inr found ↦ (let s = kept_own found in absurd (none s.0 s.1 s.2 s.3))
      ]

-- ---- no block is barred

no_such : (such : Block → Bool) (list es : List Entry) → ((b : Block) → has_update es b ≡ true → has_update list b ≡ true) → ((b : Block) → has_update list b ≡ true → such b ≡ false) → find (λ (e : Entry). updates_such such e.act) es ≡ None
no_such such list [] among none = refl
no_such such list (e ∷ es) among none =
    ap (λ (v : Bool). cond v (Some e) (find (λ (x : Entry). updates_such such x.act) es)) (act_none e.act refl)
    ∙ no_such such list es (λ b has. among b (or_second (updates b e.act) (has_update es b) has)) none
  where
    or_first : (u v : Bool) → u ≡ true → (u || v) ≡ true
    or_first true v is = refl
    or_first false v is = absurd cc

    act_none : (act : Act) → e.act ≡ act → updates_such such act ≡ false
    act_none (Update first kind at redo undo) is =
        none (block_of_kind first kind) (among (block_of_kind first kind) (or_first (updates (block_of_kind first kind) e.act) (has_update es (block_of_kind first kind)) (ap (updates (block_of_kind first kind)) is ∙ same_self (block_of_kind first kind))))
    act_none Commit is = refl

none_such : (such : Block → Bool) (list : List Entry) → ((b : Block) → has_update list b ≡ true → such b ≡ false) → first_update such list ≡ None
none_such such list none = ap (λ (o : Option Entry). option_map (λ (e : Entry). e.lsn) o) (no_such such list list (λ b has. has) none)

-- what is put out is a known block whose body has a spelling
abbrev MayPutOut : LogPlace → List Block → Content → List Entry → Type 0
MayPutOut place kept c list = (b : Block) → is_put_out c list b ≡ true → (is_known (is_own place kept) b ≡ true) × (is_spelled c list b ≡ true)

none_barred : (place : LogPlace) (ring : IsRingPlace place) (kept : List Block) (c : Content) (list : List Entry) → MayPutOut place kept c list → first_update (is_barred (is_own_block place kept) c list) list ≡ None
unfolding is_barred
none_barred place ring kept c list may = none_such (is_barred (is_own_block place kept) c list) list (λ b has. here b)
  where
    here : (b : Block) → is_barred (is_own_block place kept) c list b ≡ false
    here b = go (is_put_out c list b) refl
      where
        go : (v : Bool) → is_put_out c list b ≡ v → (is_put_out c list b && (is_own_block place kept b || not (is_spelled c list b))) ≡ false
        go false none = ap (λ (v : Bool). v && (is_own_block place kept b || not (is_spelled c list b))) none
        go true out =
            let m = may b out in
            ap₂ (λ (u : Bool) (v : Bool). u && v) out (ap₂ (λ (u : Bool) (v : Bool). u || not v) (known_apart place ring kept b m.0) m.1)

-- ---- the front

front_ok : (first second : List ℕ) (r : Restart) → chosen_in first second ≡ Some r → r.major ≡ 1 → front_in first second ≡ Ok (record { chosen = Some r; restart = next_restart first second; opens = next_opens (Some r) })
unfolding front_in
front_ok first second r is major =
    ap (λ (o : Option Restart). is_readable o first second >>= λ _. Ok (record { chosen = o; restart = next_restart first second; opens = next_opens o })) is
    ∙ ap (λ (v : Bool). needs v (LogVersion r.major r.minor) >>= λ _. Ok (record { chosen = Some r; restart = next_restart first second; opens = next_opens (Some r) })) (eq-eqb r.major 1 major)

-- ---- the entries

own_ok : (place : LogPlace) (c : Content) (r : Restart) (list : List Entry) → is_clean r ≡ false → r.own ≡ true → live_log place.pages (page_in c place) r.oldest ≡ record { entries = list; foreign = None } → first_misplaced list place.clusters ≡ None
    → entries_by c place r ≡ Ok list
unfolding entries_by
own_ok place c r list unclean own reads placed =
    ap (λ (v : Bool). if v then Ok [] else (needs r.own (ForeignLog r.current) >>= λ _. own_entries (live_log place.pages (page_in c place) r.oldest) place.clusters)) unclean
    ∙ ap (λ (v : Bool). needs v (ForeignLog r.current) >>= λ _. own_entries (live_log place.pages (page_in c place) r.oldest) place.clusters) own
    ∙ ap (λ (reading : Reading). own_entries reading place.clusters) reads
    ∙ ap (λ (o : Option ℕ). all_or_refused (option_or o None) list) placed

clean_ok : (place : LogPlace) (c : Content) (r : Restart) → is_clean r ≡ true → entries_by c place r ≡ Ok []
unfolding entries_by
clean_ok place c r clean = ap (λ (v : Bool). if v then Ok [] else (needs r.own (ForeignLog r.current) >>= λ _. own_entries (live_log place.pages (page_in c place) r.oldest) place.clusters)) clean

-- ---- the lap

lap_ok : (place : LogPlace) (c : Content) (chosen : Option Restart) (lap : ℕ) → ((lsn : ℕ) → IsSaid place.pages (page_in c place) chosen lsn → lap_of place.pages lsn < lap) → 1 ≤ lap → IsFar place lap
    → (n : ℕ) × (lap_in c place chosen ≡ Ok n) × (n ≤ lap)
unfolding lap_in lap_by
lap_ok place c chosen lap below some far =
    let g = greatest_lsn place.pages (page_in c place) chosen in
    let n = lap_above place.pages g in
    let le : n ≤ lap = by_greatest g refl in
    (n, ap (λ (v : Bool). needs v (ForeignLog (unwrap_or g 0)) >>= λ _. Ok (lap_above place.pages g)) (lt-ltb (n + 2 ^ 16) (2 ^ sequence_bits place.pages) (omega (arith, le, far))), le)
  where
    by_greatest : (g : Option ℕ) → greatest_lsn place.pages (page_in c place) chosen ≡ g → lap_above place.pages g ≤ lap
    by_greatest (Some lsn) is = (let lt = below lsn (greatest_found place.pages (page_in c place) chosen lsn is).said in omega (arith, lt))
    by_greatest None is = some

-- ---- all of it

abbrev state_of : List Entry → ℕ → RestartFront → LogState
state_of list n front = record { log = list; next_lap = n; restart = front.restart; opens = front.opens }

module _ (place : LogPlace) (ring : IsRingPlace place) (kept : List Block) (c : Content) (front : RestartFront) (fronted : front_in (page_in c place 0) (page_in c place 1) ≡ Ok front) (list : List Entry)
    (reads : live_entries_in c place front.chosen ≡ Ok list) (whole : first_partial c list ≡ None) (may : MayPutOut place kept c list) (n : ℕ) (lap_is : lap_in c place front.chosen ≡ Ok n) where
  log_ok : log_in c place ≡ Ok (record { log = list; front = front })
  unfolding log_in
  log_ok =
      ap (λ (r : Result RestartFront LogRefusal). r >>= λ front. live_entries_in c place front.chosen >>= λ entries. whole_entries c entries >>= λ log. Ok (record { log = log; front = front })) fronted
      ∙ ap (λ (r : Result (List Entry) LogRefusal). r >>= λ entries. whole_entries c entries >>= λ log. Ok (record { log = log; front = front })) reads
      ∙ ap (λ (o : Option ℕ). all_or_refused o list >>= λ log. Ok (record { log = log; front = front })) whole

  recovery_ok : recovery_in c place ≡ Ok (state_of list n front)
  unfolding recovery_in
  recovery_ok =
      ap (λ (r : Result FoundLog LogRefusal). r >>= λ found. lap_in c place found.front.chosen >>= λ lap. Ok (record { log = found.log; next_lap = lap; restart = found.front.restart; opens = found.front.opens })) log_ok
      ∙ ap (λ (r : Result ℕ LogRefusal). r >>= λ lap. Ok (record { log = list; next_lap = lap; restart = front.restart; opens = front.opens })) lap_is

  all_ok : to_write_in c place kept ≡ Ok (state_of list n front)
  unfolding to_write_in
  all_ok =
      ap (λ (r : Result LogState LogRefusal). r >>= λ state. unless_foreign (first_update (is_barred (is_own_block place kept) c state.log) state.log) state) recovery_ok
      ∙ ap (λ (o : Option ℕ). unless_foreign o (state_of list n front)) (none_barred place ring kept c list may)

-- an empty list puts nothing out
none_out : (place : LogPlace) (kept : List Block) (c : Content) → MayPutOut place kept c []
none_out place kept c b out = absurd (true≢false (sym (written_updated [] b c (out_written c [] b out))))

none_updates : (own : ℕ → Bool) → UpdatesKnown own []
none_updates own b has = absurd (true≢false (sym has))

-- ---- what recovers to a content of a window

out_claimed : (c : Content) (list : List Entry) (b : Block) → is_written_out c list b ≡ true → is_shadowed list b ≡ false
unfolding is_written_out
out_claimed c list b out = not_true (is_shadowed list b) (and_right (has_update list b) (not (is_shadowed list b)) (and_left (has_update list b && not (is_shadowed list b)) (is_other c list b || ((c b).torn && is_covered_whole list b)) out))
  where
    not_true : (v : Bool) → not v ≡ true → v ≡ false
    not_true true is = absurd cc
    not_true false is = refl

out_either : (c : Content) (list : List Entry) (b : Block) → is_put_out c list b ≡ true → (is_spelled c list b ≡ true) ⊎ (is_other c list b ≡ true)
unfolding is_put_out
out_either c list b out = or_parts (is_spelled c list b) (is_other c list b) (and_right (is_written_out c list b) (is_spelled c list b || is_other c list b) out)

module _ (place : LogPlace) (ring : IsRingPlace place) (kept : List Block) (w : StoreWindow) (at : SectorBytes) (x : RecoversWithin place (is_own place kept) w at) where
  abbrev c : Content
  c = content_of at

  raw_is : (k : ℕ) → k < place.pages → page_in (content_of at) place k ≡ raw_page place at k
  raw_is k lt = read_is_raw place at k ring lt

  within_said : (chosen : Option Restart) (lsn : ℕ) → IsSaid place.pages (page_in c place) chosen lsn → IsSaid place.pages (raw_page place at) chosen lsn
  within_said chosen lsn (inl restart) = inl restart
  within_said chosen lsn (inr page) = inr (record { page = page.page; begun = page.begun; inside = page.inside; says = ap said_lsn (sym (raw_is page.page page.inside)) ∙ page.says })

  may_out : MayPutOut place kept c x.list
  may_out b out =
      let written = out_written c x.list b out in
      let known = x.known b written in (
        known,
        elim (out_either c x.list b out) [
          | inl spelled ↦ spelled
          | inr other ↦ ap (has_spelling b.kind) (x.recovers b known (out_claimed c x.list b written)).bytes ∙ x.spelled b written other
        ],
      )

  reads_list : live_log place.pages (page_in c place) x.restart.oldest ≡ record { entries = x.list; foreign = None }
  reads_list = live_alike place.pages (page_in c place) (raw_page place at) x.restart.oldest (λ k low lt. raw_is k lt) ∙ x.reads

  abbrev front : RestartFront
  front = record { chosen = Some x.restart; restart = next_restart (page_in (content_of at) place 0) (page_in (content_of at) place 1); opens = next_opens (Some x.restart) }

  fronted : front_in (page_in c place 0) (page_in c place 1) ≡ Ok (record { chosen = Some x.restart; restart = next_restart (page_in c place 0) (page_in c place 1); opens = next_opens (Some x.restart) })
  fronted =
      let some = ring.ring in
      front_ok (page_in c place 0) (page_in c place 1) x.restart (ap₂ (λ (a : List ℕ) (b : List ℕ). chosen_in a b) (raw_is 0 (omega (arith, some))) (raw_is 1 (omega (arith, some))) ∙ x.chosen) x.own_page.major

  mountable : (lap : ℕ) → next_lap_in place at ≤ lap → IsFar place lap → IsMountable place kept lap at
  mountable lap le far = by_clean (is_clean x.restart) refl
    where
      next_is : next_lap_in place at ≡ next_lap place.pages (raw_page place at) (Some x.restart)
      next_is = ap (next_lap place.pages (raw_page place at)) x.chosen

      below : (lsn : ℕ) → IsSaid place.pages (page_in c place) (Some x.restart) lsn → lap_of place.pages lsn < lap
      below lsn said = (let lt = above place.pages (raw_page place at) (Some x.restart) lsn (within_said (Some x.restart) lsn said) in omega (arith, lt, le, next_is))

      some : 1 ≤ lap
      some = (let lt = below x.restart.current (inl (record { restart = x.restart; is = refl; says = refl })) in omega (arith, lt))

      found : (n : ℕ) × (lap_in c place (Some x.restart) ≡ Ok n) × (n ≤ lap)
      found = lap_ok place c (Some x.restart) lap below some far

      by_clean : (v : Bool) → is_clean x.restart ≡ v → IsMountable place kept lap at
      by_clean true clean = record {
        state = state_of [] found.0 front;
        read = all_ok place ring kept c front fronted [] (clean_ok place c x.restart clean) refl (none_out place kept c) found.0 found.1;
        updates = none_updates (is_own place kept);
        next = found.2;
      }
      by_clean false unclean = record {
        state = state_of x.list found.0 front;
        read = all_ok place ring kept c front fronted x.list (own_ok place c x.restart x.list unclean x.own_page.own reads_list x.placed) x.no_partial may_out found.0 found.1;
        updates = x.updates;
        next = found.2;
      }

-- ---- of a store

by_call : (f g : StoreFacts) (w v : StoreWindow) (image : SectorBytes) → IsRingPlace f.place → {A : Type 0} → A ⊎ (RecoversWithin f.place (own_of f) w image ⊎ RecoversWithin f.place (own_of f) v image)
    → A ⊎ (next_lap_in f.place image ≤ max (lap_behind f) (lap_behind g)) → IsFar f.place (max (lap_behind f) (lap_behind g)) → A ⊎ IsMountable f.place f.found (max (lap_behind f) (lap_behind g)) image
by_call f g w v image ring (inl before) low far = inl before
by_call f g w v image ring (inr recovers) (inl before) far = inl before
by_call f g w v image ring (inr (inl within)) (inr low) far = inr (mountable f.place ring f.found w image within (max (lap_behind f) (lap_behind g)) low far)
by_call f g w v image ring (inr (inr within)) (inr low) far = inr (mountable f.place ring f.found v image within (max (lap_behind f) (lap_behind g)) low far)

ring_of : (changes : Changes) (f : StoreFacts) (w : StoreWindow) → HasWindow changes f w → IsRingPlace f.place
ring_of changes f w has = has.3.stands.ring.ring.lies

pub stores_mount_law : StoresMount
stores_mount_law = record {
  within = λ place kept w at ring x far. mountable place ring kept w at x (next_lap_in place at) (omega arith) far;
  at_return = λ count changes f w image has left far. mountable f.place (ring_of changes f w has) f.found w (sector_of image) (at_return count changes f w image has left) (lap_behind f) (next_lap_shown count changes f w image has left) far;
  during = λ count moment old now f g w v t image has recovers laps le left far. by_call f g w v (sector_of image) (ring_of old f w has) (recovers t image le left) (laps t image le left) far;
}

-- ---- of a mount that was stopped

pub stopped_mounts_mount_law : StoppedMountsMount
stopped_mounts_mount_law place kept list content lap at ring x known far =
    record {
      state = state_of x.entries found.0 x.front;
      read = all_ok place ring kept (content_of at) x.front x.fronted x.entries x.reads (x.whole known) may found.0 found.1;
      updates = by_same x.same;
      next = found.2;
    }
  where
    by_same : (x.entries ≡ list) ⊎ (x.entries ≡ []) → UpdatesKnown (is_own place kept) x.entries
    by_same (inl is) = subst (UpdatesKnown (is_own place kept)) (sym is) known
    by_same (inr is) = subst (UpdatesKnown (is_own place kept)) (sym is) (none_updates (is_own place kept))

    claimed : (b : Block) → is_put_out (content_of at) x.entries b ≡ true → (x.entries ≡ list) ⊎ (x.entries ≡ []) → is_shadowed list b ≡ false
    claimed b out (inl is) = subst (λ (l : List Entry). is_shadowed l b ≡ false) is (out_claimed (content_of at) x.entries b (out_written (content_of at) x.entries b out))
    claimed b out (inr is) = absurd (true≢false (sym (written_updated [] b (content_of at) (out_written (content_of at) [] b (subst (λ (l : List Entry). is_put_out (content_of at) l b ≡ true) is out)))))

    may : MayPutOut place kept (content_of at) x.entries
    may b out =
        let m = x.may_write known b out in
        (m.0, ap (has_spelling b.kind) (x.recovers b m.0 (claimed b out x.same)).bytes ∙ m.1)

    below : (lsn : ℕ) → IsSaid place.pages (page_in (content_of at) place) x.front.chosen lsn → lap_of place.pages lsn < suc lap
    below lsn (inl restart) = (let le = x.laps lsn (inl restart) in omega (arith, le))
    below lsn (inr page) =
        let le = x.laps lsn (inr (record { page = page.page; begun = page.begun; inside = page.inside; says = ap said_lsn (sym (read_is_raw place at page.page ring page.inside)) ∙ page.says })) in
        omega (arith, le)

    found : (n : ℕ) × (lap_in (content_of at) place x.front.chosen ≡ Ok n) × (n ≤ suc lap)
    found = lap_ok place (content_of at) x.front.chosen (suc lap) below (omega arith) far

-- ---- what a mount answers then

pub never_refused_law : NeverRefused
never_refused_law place kept lap at fault m explains = by_fault fault (subst (λ (r : Result LogState LogRefusal). ExplainsOrFails (store_cause fault) r) m.read explains)
  where
    by_fault : (e : StoreFault) → ExplainsOrFails (store_cause e) (Ok m.state) → (e ≡ Fault) ⊎ (e ≡ Memory)
    by_fault (Refused refusal) is = absurd (let none = is in cc)
    by_fault Fault is = inl refl
    by_fault Memory is = inr refl
    by_fault Broken is = absurd is
