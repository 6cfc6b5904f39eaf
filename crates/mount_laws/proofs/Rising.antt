-- The entries of a log stand by rising LSNs.
use Rattle.std.proofs.Common.{◌≡◌, ℕ, suc, ◌+◌, ◌-◌, ◌*◌, ◌^◌, ◌<◌, ◌≤◌, Bool, true, false, cond, eqb, min, List, [], ◌∷◌, ◌++◌, length, get_or, take, Option, Some, None, Ok, refl, sym, ap, ◌∙◌, subst, inl, inr, arith}
use Rattle.std.specs.Prelude.{⊤}
use Rattle.std.proofs.lemmas.Bool.{cases_Bool, and_parts, leb-true, ltb-true}
use Rattle.std.specs.Option.{option_or}
use Rattle.std.proofs.lemmas.List.{length-drop, length-take}
use Rattle.host_base.specs.Answers.{◌>>=◌, needs}
use Rattle.disk_model.specs.declared.block.BlockKind.TheVariants.{Plain}
use Rattle.disk_model.specs.Bytes.{zeros}
use Rattle.disk_model.specs.Sectors.{zero_sector}
use Rattle.disk_model.specs.Fixups.{restored}
use Rattle.disk_model.specs.Content.{Content, HasSizes}
use Rattle.disk_model.proofs.Frames.{length-written}
use Rattle.disk_model.proofs.Sectors.{length-raw_from}
use Rattle.disk_model.proofs.Protection.{length-restored}
use Rattle.record_model.proofs.Answering.{steps_from_ok, needs_from_ok}
use Rattle.log_model.specs.declared.entry.Entry.{Entry}
use Rattle.log_model.specs.Entries.{entry_size}
use Rattle.log_model.specs.Logs.{first_misplaced, first_partial}
use Rattle.log_laws.specs.log_page.declared.places.LogPlace.{LogPlace}
use Rattle.log_laws.specs.log_page.declared.restart.Restart.{Restart}
use Rattle.log_laws.specs.log_page.Places.{page_bytes, first_page, lap_of, page_of, is_in_ring}
use Rattle.log_laws.specs.log_page.Restarts.{is_clean}
use Rattle.log_laws.specs.log_page.RecordPages.{Reading, no_reading, free_at, lsn_of, bytes_from}
use Rattle.log_laws.specs.log_page.LiveLogs.{live_log, start_in_page}
use Rattle.log_laws.proofs.log_page.Readings.{size_some}
use Rattle.volume_mount.specs.log_reading.declared.fault.LogRefusal.TheVariants.{ForeignLog}
use Rattle.volume_mount.specs.log_reading.declared.front.RestartFront.{RestartFront}
use Rattle.volume_mount.specs.log_reading.Fronts.{front_in}
use Rattle.volume_mount.specs.log_reading.LogPages.{sector_bytes, log_sector, log_bytes, page_in, initialised_bytes}
use Rattle.log_laws.specs.Tables.{reading, Stand, kth_page, kth_lsn, kth_start, IsLiveLog, entries_of}
use Rattle.log_laws.proofs.Behind.{lsns_rise}
use Rattle.log_laws.proofs.Logs.{read_table, outside}
use Rattle.volume_mount.specs.log_recovery.LogStates.{LogState, FoundLog, all_or_refused, own_entries, entries_by, live_entries_in, whole_entries, lap_in, log_in, recovery_in}
use Rattle.volume_mount.specs.log_recovery.Own.{is_own}
use Rattle.volume_mount.specs.log_recovery.Writing.{is_barred, first_update, unless_foreign, to_write_in}
use Rattle.mount_laws.specs.Firsts.{Rise, EntriesRise}

-- ---- entries between two LSNs

abbrev AreBetween : ℕ → ℕ → List Entry → Type 0
AreBetween low high [] = ⊤
AreBetween low high (e ∷ entries) = (low ≤ e.lsn) × ((e.lsn < high) × AreBetween (suc e.lsn) high entries)

wider : (low under high over : ℕ) (entries : List Entry) → under ≤ low → high ≤ over → AreBetween low high entries → AreBetween under over entries
wider low under high over [] lower higher are = tt
wider low under high over (e ∷ entries) lower higher are = (omega (arith, lower, are.0), (omega (arith, higher, are.1.0), wider (suc e.lsn) (suc e.lsn) high over entries (omega arith) higher are.1.1))

joined : (low mid high : ℕ) (entries more : List Entry) → low ≤ mid → mid ≤ high → AreBetween low mid entries → AreBetween mid high more → AreBetween low high (entries ++ more)
joined low mid high [] more lower higher are next = wider mid low high high more lower (omega arith) next
joined low mid high (e ∷ entries) more lower higher are next = (are.0, (omega (arith, higher, are.1.0), joined (suc e.lsn) mid high entries more (omega (arith, are.1.0)) higher are.1.1 next))

rising : (low high : ℕ) (entries : List Entry) → AreBetween low high entries → Rise low entries
rising low high [] are = tt
rising low high (e ∷ entries) are = (are.0, rising (suc e.lsn) high entries are.1.1)

-- ---- on a page

on_page : (page : List ℕ) (first at : ℕ) (entries : List Entry) → 64 ≤ at → length page ≤ 4096 → Stand page first at entries → AreBetween (lsn_of first at) (first + 512) entries
on_page page first at [] behind few stand = tt
on_page page first at (e ∷ entries) behind few (here, rest) =
    let own = here.own in
    let inside = here.begins.inside in
    let some = size_some e in
    let left : length (bytes_from page at) ≡ length (take (free_at page) page) - at = length-drop at (take (free_at page) page) in
    let most : length (take (free_at page) page) ≡ min (free_at page) (length page) = length-take (free_at page) page in
    let below : at < 4096 = omega (arith, inside, some, left, most, few) in
    (omega (arith, own), (omega (arith, own, below, behind), wider (lsn_of first (at + entry_size e)) (suc e.lsn) (first + 512) (first + 512) entries (omega (arith, own, some, behind)) (omega arith) (on_page page first (at + entry_size e) entries (omega (arith, behind)) few rest)))

start_behind : (pages oldest k : ℕ) → 64 ≤ kth_start pages oldest k
start_behind pages oldest k = chosen (eqb k 0)
  where
    chosen : (t : Bool) → 64 ≤ cond t (start_in_page pages oldest) 64
    chosen true = omega arith
    chosen false = omega arith

begins_behind : (first at : ℕ) → first ≤ lsn_of first at
begins_behind first at = omega arith

-- ---- in the ring

piece_at : (pieces : List (List Entry)) (k : ℕ) → List Entry
piece_at pieces k = get_or pieces k []

module _ (pages : ℕ) (raw : ℕ → List ℕ) (oldest : ℕ) (small : page_bytes * pages < 2 ^ 64) (sized : (k : ℕ) → length (raw k) ≤ 4096) (begun : first_page ≤ page_of pages oldest) (inside : page_of pages oldest < pages) where
  abbrev lsn : ℕ → ℕ
  lsn k = kth_lsn pages oldest k

  rises : (i j : ℕ) → i < j → j < pages - first_page → lsn i + 512 ≤ lsn j
  rises i j less few = lsns_rise pages (lap_of pages oldest) (page_of pages oldest) begun inside i j small less few

  -- the pieces from the k-th one on
  from_piece : (k : ℕ) (pieces : List (List Entry)) → k + length pieces ≤ pages - first_page
      → ((i : ℕ) → i < length pieces → Stand (restored (raw (kth_page pages oldest (k + i)))) (lsn (k + i)) (kth_start pages oldest (k + i)) (get_or pieces i [])) → (high : ℕ) × AreBetween (lsn k) high (entries_of pieces) × (lsn k ≤ high)
  from_piece k [] few stand = (lsn k, tt, omega arith)
  from_piece k (piece ∷ []) few stand =
      let n : ℕ = lsn (k + 0) in
      let same : k + 0 ≡ k = omega arith in
      let long : length (restored (raw (kth_page pages oldest (k + 0)))) ≤ 4096 = omega (arith, length-restored (raw (kth_page pages oldest (k + 0))), sized (kth_page pages oldest (k + 0))) in
      let page = on_page (restored (raw (kth_page pages oldest (k + 0)))) n (kth_start pages oldest (k + 0)) piece (start_behind pages oldest (k + 0)) long (stand 0 (omega arith)) in
      let is : lsn (k + 0) ≡ lsn k = ap (λ (x : ℕ). lsn x) same in
      (n + 512, joined (lsn k) (n + 512) (n + 512) piece [] (omega (arith, is)) (omega arith) (wider (lsn_of n (kth_start pages oldest (k + 0))) (lsn k) (n + 512) (n + 512) piece (omega (arith, is, begins_behind n (kth_start pages oldest (k + 0)))) (omega arith) page) tt, omega (arith, is))
  from_piece k (piece ∷ next ∷ pieces) few stand =
      let n : ℕ = lsn (k + 0) in
      let same : k + 0 ≡ k = omega arith in
      let long : length (restored (raw (kth_page pages oldest (k + 0)))) ≤ 4096 = omega (arith, length-restored (raw (kth_page pages oldest (k + 0))), sized (kth_page pages oldest (k + 0))) in
      let page = on_page (restored (raw (kth_page pages oldest (k + 0)))) n (kth_start pages oldest (k + 0)) piece (start_behind pages oldest (k + 0)) long (stand 0 (omega arith)) in
      let is : lsn (k + 0) ≡ lsn k = ap (λ (x : ℕ). lsn x) same in
      let rest = from_piece (k + 1) (next ∷ pieces) (omega (arith, few)) (λ i below. subst (λ (x : ℕ). Stand (restored (raw (kth_page pages oldest x))) (lsn x) (kth_start pages oldest x) (get_or (next ∷ pieces) i [])) (omega arith) (stand (suc i) (omega (arith, below)))) in
      let more = rises k (k + 1) (omega arith) (omega (arith, few)) in
      let mine = wider (lsn_of n (kth_start pages oldest (k + 0))) (lsn k) (n + 512) (lsn (k + 1)) piece (omega (arith, is, begins_behind n (kth_start pages oldest (k + 0)))) (omega (arith, is, more)) page in
      (rest.0, joined (lsn k) (lsn (k + 1)) rest.0 piece (entries_of (next ∷ pieces)) (omega (arith, more)) rest.2 mine rest.1, omega (arith, more, rest.2))

  live_rise : (entries : List Entry) → IsLiveLog pages raw oldest entries → Rise 0 entries
  live_rise entries live =
      let found = from_piece 0 live.pieces (omega (arith, live.are.few)) (λ i below. subst (λ (x : ℕ). Stand (restored (raw (kth_page pages oldest x))) (lsn x) (kth_start pages oldest x) (get_or live.pieces i [])) (omega arith) (live.are.stand i below)) in
      subst (λ (l : List Entry). Rise 0 l) live.entries_are (rising 0 found.0 (entries_of live.pieces) (wider (lsn 0) 0 found.0 found.0 (entries_of live.pieces) (omega arith) (omega arith) found.1))

-- ---- a log

none_foreign : (r : Reading) (clusters : ℕ) (entries : List Entry) → own_entries r clusters ≡ Ok entries → r ≡ reading entries None
none_foreign r clusters entries is = go (first_misplaced r.entries clusters) r.foreign refl is
  where
    go : (first : Option ℕ) (foreign : Option ℕ) → r.foreign ≡ foreign → all_or_refused (option_or first foreign) r.entries ≡ Ok entries → r ≡ reading entries None
    go (Some lsn) foreign f e = absurd cc
    go None (Some lsn) f e = absurd cc
    go None None f e = let same : r.entries ≡ entries = cc in ap (λ (o : Option ℕ). reading r.entries o) f ∙ ap (λ (l : List Entry). reading l None) same

sized_sector : (c : Content) (valid : ℕ) (o : Option ℕ) → HasSizes c → length (sector_bytes c valid o) ≡ 512
unfolding initialised_bytes zero_sector
sized_sector c valid None sized = refl
sized_sector c valid (Some s) sized = length-written valid (zeros (512 - valid)) (c (record { first = s; kind = Plain })).bytes ∙ sized (record { first = s; kind = Plain })

sized_page : (c : Content) (place : LogPlace) (n : ℕ) → HasSizes c → length (page_in c place n) ≡ 4096
unfolding page_in
sized_page c place n sized = length-raw_from (log_bytes c place) (8 * n) 8 (λ k. sized_sector c (place.initialised - 512 * k) (log_sector place k) sized)

in_ring_parts : (pages oldest : ℕ) → is_in_ring pages oldest ≡ true → (first_page ≤ page_of pages oldest) × (page_of pages oldest < pages)
in_ring_parts pages oldest is = let parts = and_parts _ _ is in (leb-true _ _ parts.0, ltb-true _ _ parts.1)

read_rise : (c : Content) (place : LogPlace) (oldest : ℕ) (entries : List Entry) → HasSizes c → page_bytes * place.pages < 2 ^ 64 → live_log place.pages (page_in c place) oldest ≡ reading entries None → Rise 0 entries
read_rise c place oldest entries sized small is = elim (cases_Bool (is_in_ring place.pages oldest)) [
  | inl ring ↦
      (let parts = in_ring_parts place.pages oldest ring in
      live_rise place.pages (page_in c place) oldest small (λ k. omega (arith, sized_page c place k sized)) parts.0 parts.1 entries (read_table place.pages (page_in c place) oldest ring entries is))
  | inr out ↦ (let none : reading entries None ≡ no_reading = sym is ∙ outside place.pages (page_in c place) oldest out in
      let same : [] ≡ entries = ap (λ (r : Reading). r.entries) (sym none) in subst (λ (l : List Entry). Rise 0 l) same tt)
]

by_clean : (c : Content) (place : LogPlace) (r : Restart) (entries : List Entry) (clean : Bool) → HasSizes c → page_bytes * place.pages < 2 ^ 64
    → (cond clean (Ok []) (needs r.own (ForeignLog r.current) >>= λ _. own_entries (live_log place.pages (page_in c place) r.oldest) place.clusters)) ≡ Ok entries → Rise 0 entries
by_clean c place r entries true sized small is = let same : [] ≡ entries = cc in subst (λ (l : List Entry). Rise 0 l) same tt
by_clean c place r entries false sized small is =
    let own = needs_from_ok r.own _ (λ _. own_entries (live_log place.pages (page_in c place) r.oldest) place.clusters) entries is in
    read_rise c place r.oldest entries sized small (none_foreign (live_log place.pages (page_in c place) r.oldest) place.clusters entries own.1)

live_entries_rise : (c : Content) (place : LogPlace) (chosen : Option Restart) (entries : List Entry) → HasSizes c → page_bytes * place.pages < 2 ^ 64 → live_entries_in c place chosen ≡ Ok entries → Rise 0 entries
unfolding entries_by
live_entries_rise c place None entries sized small is = let same : [] ≡ entries = cc in subst (λ (l : List Entry). Rise 0 l) same tt
live_entries_rise c place (Some r) entries sized small is = by_clean c place r entries (is_clean r) sized small is

same_whole : (o : Option ℕ) (entries log : List Entry) → all_or_refused o entries ≡ Ok log → entries ≡ log
same_whole None entries log is = cc
same_whole (Some lsn) entries log is = absurd cc

found_as : List Entry → RestartFront → FoundLog
found_as log front = record { log = log; front = front }

log_rises : (c : Content) (place : LogPlace) (found : FoundLog) → HasSizes c → page_bytes * place.pages < 2 ^ 64 → log_in c place ≡ Ok found → Rise 0 found.log
unfolding log_in found_as
log_rises c place found sized small is =
    let a = steps_from_ok (front_in (page_in c place 0) (page_in c place 1)) (λ (front : RestartFront). live_entries_in c place front.chosen >>= λ entries. whole_entries c entries >>= λ log. Ok (found_as log front)) found is in
    let b = steps_from_ok (live_entries_in c place a.0.chosen) (λ (entries : List Entry). whole_entries c entries >>= λ log. Ok (found_as log a.0)) found a.2 in
    let w = steps_from_ok (whole_entries c b.0) (λ (log : List Entry). Ok (found_as log a.0)) found b.2 in
    let same = same_whole (first_partial c b.0) b.0 w.0 w.1 in
    let made : found_as w.0 a.0 ≡ found = cc in
    subst (λ (f : FoundLog). Rise 0 f.log) made (subst (λ (l : List Entry). Rise 0 l) same (live_entries_rise c place a.0.chosen b.0 sized small b.1))

state_as : FoundLog → ℕ → LogState
state_as found lap = record { log = found.log; next_lap = lap; restart = found.front.restart; opens = found.front.opens }

recovery_rises : (c : Content) (place : LogPlace) (state : LogState) → HasSizes c → page_bytes * place.pages < 2 ^ 64 → recovery_in c place ≡ Ok state → Rise 0 state.log
unfolding recovery_in state_as
recovery_rises c place state sized small is =
    let a = steps_from_ok (log_in c place) (λ (found : FoundLog). lap_in c place found.front.chosen >>= λ lap. Ok (state_as found lap)) state is in
    let b = steps_from_ok (lap_in c place a.0.front.chosen) (λ (lap : ℕ). Ok (state_as a.0 lap)) state a.2 in
    let made : state_as a.0 b.0 ≡ state = cc in
    subst (λ (s : LogState). Rise 0 s.log) made (log_rises c place a.0 sized small a.1)

unless_same : (lsn : Option ℕ) (x y : LogState) → unless_foreign lsn x ≡ Ok y → x ≡ y
unless_same None x y e = cc
unless_same (Some lsn) x y e = absurd cc

pub entries_rise : EntriesRise
unfolding to_write_in
entries_rise c place kept state sized small is =
    let a = steps_from_ok (recovery_in c place) (λ (s : LogState). unless_foreign (first_update (is_barred (is_own place kept) c s.log) s.log) s) state is in
    let same = unless_same (first_update (is_barred (is_own place kept) c a.0.log) a.0.log) a.0 state a.2 in
    subst (λ (s : LogState). Rise 0 s.log) same (recovery_rises c place a.0 sized small a.1)
