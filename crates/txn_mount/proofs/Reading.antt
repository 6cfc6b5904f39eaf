-- What is read of a log that isn't refused.
use Rattle.std.proofs.Common.{◌≡◌, subst, ℕ, zero, suc, ◌+◌, ◌%◌, Bool, true, false, List, [], ◌∷◌, ◌++◌, Option, Some, None, Result, Ok, Err, refl, sym, ap, ◌∙◌, inl, inr, arith, eq-eqb}
use Rattle.std.specs.Prelude.{All, if◌then◌else◌, ◌||◌, ◌==◌, length, ◌-◌}
use Rattle.std.specs.Option.{option_or}
use Rattle.std.proofs.lemmas.List.Elements.{All-nil, All-cons}
use Rattle.host_base.specs.Answers.{◌>>=◌, needs}
use Rattle.disk_model.specs.declared.block.Block.{Block}
use Rattle.disk_model.specs.Content.{Content}
use Rattle.disk_model.specs.Fixups.{restored}
use Rattle.disk_model.proofs.Frames.{same_block-is}
use Rattle.log_model.specs.declared.entry.Entry.{Entry}
use Rattle.log_model.specs.declared.entry.Act.{Act}
use Rattle.log_model.specs.declared.entry.Act.TheVariants.{Update, Commit}
use Rattle.log_model.specs.declared.fault.EntryFault.{EntryFault}
use Rattle.log_model.specs.Entries.{entry_at, entry_size, IsPlaced, IsAct}
use Rattle.log_model.specs.Logs.{AreLevel, IsLevel, updates, block_of_kind, is_in_grid, first_misplaced, first_partial}
use Rattle.log_model.proofs.EntryTables.{read_table}
use Rattle.txn_core.specs.log_page.declared.places.LogPlace.{LogPlace}
use Rattle.txn_core.specs.log_page.declared.restart.Restart.{Restart}
use Rattle.txn_core.specs.log_page.Places.{entries_at, page_lsn, page_after, lap_after, lap_of, page_of, is_in_ring, first_page}
use Rattle.txn_core.specs.log_page.RecordPages.{Reading, no_reading, bytes_from, lsn_of, entry_in, goes_on, entry_or_foreign, entries_from, page_reading, is_whole_page}
use Rattle.txn_core.specs.log_page.LiveLogs.{followed_by, log_from, live_log, start_in_page}
use Rattle.txn_core.specs.log_page.Restarts.{is_clean}
use Rattle.log_recovery.specs.log_reading.declared.fault.LogRefusal.{LogRefusal}
use Rattle.log_recovery.specs.log_reading.declared.fault.LogRefusal.TheVariants.{ForeignLog}
use Rattle.log_recovery.specs.log_reading.declared.front.RestartFront.{RestartFront}
use Rattle.log_recovery.specs.log_reading.LogPages.{page_in}
use Rattle.log_recovery.specs.log_reading.Fronts.{front_in}
use Rattle.log_recovery.specs.LogStates.{FoundLog, LogState, all_or_refused, own_entries, entries_by, live_entries_in, whole_entries, lap_in, log_in, recovery_in}
use Rattle.log_recovery.specs.Own.{is_own}
use Rattle.log_recovery.specs.Writing.{is_barred, first_update, unless_foreign, to_write_in}
use Rattle.store_model.specs.Logs.{has_update}
use Rattle.txn_mount.specs.Contents.{ReadsLog, ReadsWell, ReadsAreLevel}

pub ok_then : {A B : Type 0} (r : Result A LogRefusal) (f : A → Result B LogRefusal) (y : B) → (r >>= f) ≡ Ok y → (x : A) × (r ≡ Ok x) × (f x ≡ Ok y)
ok_then (Ok x) f y e = (x, refl, e)
ok_then (Err b) f y e = absurd cc

ok_same : {A : Type 0} (x y : A) → ◌≡◌ {A = Result A LogRefusal} (Ok x) (Ok y) → x ≡ y
ok_same x y e = cc

unless_ok : {A : Type 0} (o : Option ℕ) (x y : A) → unless_foreign o x ≡ Ok y → (o ≡ None) × (x ≡ y)
unless_ok None x y e = (refl, ok_same x y e)
unless_ok (Some lsn) x y e = absurd cc

pub all_ok : (o : Option ℕ) (l y : List Entry) → all_or_refused o l ≡ Ok y → (o ≡ None) × (l ≡ y)
all_ok None l y e = (refl, ok_same l y e)
all_ok (Some lsn) l y e = absurd cc

-- ---- the parts of what is read

log_whole : (c : Content) (front : RestartFront) (entries : List Entry) (found : FoundLog) → (whole_entries c entries >>= λ log. Ok (record { log = log; front = front })) ≡ Ok found
    → (found.front ≡ front) × (found.log ≡ entries) × (first_partial c found.log ≡ None)
log_whole c front entries found e =
    let a = ok_then (whole_entries c entries) (λ (log : List Entry). Ok (record { log = log; front = front })) found e in
    let w = all_ok (first_partial c entries) entries a.0 a.1 in
    let is : record { log = a.0; front = front } ≡ found = ok_same (record { log = a.0; front = front }) found a.2 in
    (sym (ap (λ (f : FoundLog). f.front) is), sym (ap (λ (f : FoundLog). f.log) is) ∙ sym w.1, subst (λ (l : List Entry). first_partial c l ≡ None) (w.1 ∙ ap (λ (f : FoundLog). f.log) is) w.0)

log_parts : (c : Content) (place : LogPlace) (found : FoundLog) → log_in c place ≡ Ok found
    → (front_in (page_in c place 0) (page_in c place 1) ≡ Ok found.front) × (live_entries_in c place found.front.chosen ≡ Ok found.log) × (first_partial c found.log ≡ None)
unfolding log_in
log_parts c place found e =
    let a = ok_then (front_in (page_in c place 0) (page_in c place 1)) (λ (front : RestartFront). live_entries_in c place front.chosen >>= λ entries. whole_entries c entries >>= λ log. Ok (record { log = log; front = front })) found e in
    let b = ok_then (live_entries_in c place a.0.chosen) (λ (entries : List Entry). whole_entries c entries >>= λ log. Ok (record { log = log; front = a.0 })) found a.2 in
    let w = log_whole c a.0 b.0 found b.2 in
    (a.1 ∙ ap (λ (f : RestartFront). Ok f) (sym w.0), subst (λ (f : RestartFront). live_entries_in c place f.chosen ≡ Ok found.log) (sym w.0) (b.1 ∙ ap (λ (l : List Entry). Ok l) (sym w.1)), w.2)

recovery_parts : (c : Content) (place : LogPlace) (state : LogState) → recovery_in c place ≡ Ok state
    → (found : FoundLog) × (log_in c place ≡ Ok found) × (lap_in c place found.front.chosen ≡ Ok state.next_lap) × (found.log ≡ state.log) × (state.restart ≡ found.front.restart) × (state.opens ≡ found.front.opens)
unfolding recovery_in
recovery_parts c place state e =
    let a = ok_then (log_in c place) (λ (found : FoundLog). lap_in c place found.front.chosen >>= λ lap. Ok (record { log = found.log; next_lap = lap; restart = found.front.restart; opens = found.front.opens })) state e in
    let b = ok_then (lap_in c place a.0.front.chosen) (λ (lap : ℕ). Ok (record { log = a.0.log; next_lap = lap; restart = a.0.front.restart; opens = a.0.front.opens })) state a.2 in
    let made : LogState = record { log = a.0.log; next_lap = b.0; restart = a.0.front.restart; opens = a.0.front.opens } in
    let is : made ≡ state = ok_same made state b.2 in
    (a.0, a.1, b.1 ∙ ap (λ (s : LogState). Ok s.next_lap) is, ap (λ (s : LogState). s.log) is, sym (ap (λ (s : LogState). s.restart) is), sym (ap (λ (s : LogState). s.opens) is))

pub read_log : (c : Content) (place : LogPlace) (kept : List Block) (state : LogState) → to_write_in c place kept ≡ Ok state → ReadsLog c place kept state
unfolding to_write_in
read_log c place kept state e =
    let a = ok_then (recovery_in c place) (λ (s : LogState). unless_foreign (first_update (is_barred (is_own place kept) c s.log) s.log) s) state e in
    let u = unless_ok (first_update (is_barred (is_own place kept) c a.0.log) a.0.log) a.0 state a.2 in
    let r = recovery_parts c place state (a.1 ∙ ap (λ (s : LogState). Ok s) u.1) in
    let p = log_parts c place r.0 r.1 in
    record {
      front = r.0.front;
      fronted = p.0;
      entries = p.1 ∙ ap (λ (l : List Entry). Ok l) r.3;
      whole = subst (λ (l : List Entry). first_partial c l ≡ None) r.3 p.2;
      lap = r.2;
      restart = r.4;
      opens = r.5;
      may_write = subst (λ (s : LogState). first_update (is_barred (is_own place kept) c s.log) s.log ≡ None) u.1 u.0;
    }

-- ---- each entry

abbrev PlacedAct : Act → Type 0
PlacedAct (Update first kind at redo undo) = is_in_grid (block_of_kind first kind) ≡ true
PlacedAct Commit = Unit {0}

abbrev AreRead : List Entry → Type 0
AreRead [] = Unit {0}
AreRead (e ∷ es) = (AreLevel e.act × PlacedAct e.act) × AreRead es

placed_by : (first kind : ℕ) → IsPlaced kind (first % 8) → is_in_grid (block_of_kind first kind) ≡ true
placed_by first kind (inl is) = subst (λ (k : ℕ). is_in_grid (block_of_kind first k) ≡ true) (sym is) refl
placed_by first kind (inr (inl h)) = subst (λ (k : ℕ). is_in_grid (block_of_kind first k) ≡ true) (sym h.0) (eq-eqb (first % 2) 0 (let e = h.1 in omega (arith, e)))
placed_by first kind (inr (inr h)) = subst (λ (k : ℕ). is_in_grid (block_of_kind first k) ≡ true) (sym h.0) (eq-eqb (first % 8) 0 h.1)

act_read : (act : Act) (s : List ℕ) → IsAct s act → AreLevel act × PlacedAct act
act_read (Update first kind at redo undo) s t = (t.profile.same, placed_by first kind t.profile.placed)
act_read Commit s t = (tt, tt)

entry_read : (page : List ℕ) (first at : ℕ) (e : Entry) → entry_in page first at ≡ Some e → AreLevel e.act × PlacedAct e.act
unfolding entry_in
entry_read page first at e is = go (entry_at (bytes_from page at)) refl
  where
    picked : (x : Entry) (v : Bool) → (if v then Some x else None) ≡ Some e → x ≡ e
    picked x true h = cc
    picked x false h = absurd cc

    go : (r : Result Entry EntryFault) → entry_at (bytes_from page at) ≡ r → AreLevel e.act × PlacedAct e.act
    go (Ok x) h =
        let q : entry_in page first at ≡ (if x.lsn == lsn_of first at then Some x else None) = rw h refl in
        let same : x ≡ e = picked x (x.lsn == lsn_of first at) (sym q ∙ is) in
        let b = read_table (bytes_from page at) x h in
        subst (λ (y : Entry). AreLevel y.act × PlacedAct y.act) same (act_read x.act _ b.own.act)
    go (Err f) h = let q : entry_in page first at ≡ None = rw h refl in absurd cc

step_read : (page : List ℕ) (first at lsn : ℕ) (o : Option Entry) → entry_in page first at ≡ o → (after : Entry → Reading) → ((e : Entry) → AreRead (after e).entries) → AreRead (entry_or_foreign o lsn after).entries
step_read page first at lsn (Some e) is after rest = (entry_read page first at e is, rest e)
step_read page first at lsn None is after rest = tt

pick_read : (v : Bool) (r : Reading) → AreRead r.entries → AreRead (if v then r else no_reading).entries
pick_read true r h = h
pick_read false r h = tt

from_read : (most : ℕ) (page : List ℕ) (first at : ℕ) → AreRead (entries_from most page first at).entries
unfolding entries_from
from_read zero page first at = tt
from_read (suc most) page first at =
    pick_read (goes_on page at) (entry_or_foreign (entry_in page first at) (lsn_of first at) (λ e. entries_from most page first (at + entry_size e)))
    (step_read page first at (lsn_of first at) (entry_in page first at) refl (λ e. entries_from most page first (at + entry_size e)) (λ e. from_read most page first (at + entry_size e)))

page_read : (raw : List ℕ) (first at : ℕ) → AreRead (page_reading raw first at).entries
unfolding page_reading
page_read raw first at = from_read (length raw) (restored raw) first at

both_read : (xs ys : List Entry) → AreRead xs → AreRead ys → AreRead (xs ++ ys)
both_read [] ys h k = k
both_read (x ∷ xs) ys h k = (h.0, both_read xs ys h.1 k)

followed_read : (es : List Entry) (o : Option ℕ) (n : Reading) → AreRead es → AreRead n.entries → AreRead (followed_by (record { entries = es; foreign = o }) n).entries
followed_read es (Some lsn) n h k = h
followed_read es None n h k = both_read es n.entries h k

rounds_read : (most pages : ℕ) (raw : ℕ → List ℕ) (lap page at : ℕ) → AreRead (log_from pages raw most lap page at).entries
unfolding log_from
rounds_read zero pages raw lap page at = tt
rounds_read (suc most) pages raw lap page at =
    let here = page_reading (raw page) (page_lsn pages lap page) at in
    pick_read (is_whole_page pages (raw page) (page_lsn pages lap page)) (followed_by here (log_from pages raw most (lap_after pages lap page) (page_after pages page) entries_at))
    (followed_read here.entries here.foreign (log_from pages raw most (lap_after pages lap page) (page_after pages page) entries_at) (page_read (raw page) (page_lsn pages lap page) at) (rounds_read most pages raw (lap_after pages lap page) (page_after pages page) entries_at))

live_read : (pages : ℕ) (raw : ℕ → List ℕ) (oldest : ℕ) → AreRead (live_log pages raw oldest).entries
unfolding live_log
live_read pages raw oldest =
    pick_read (is_in_ring pages oldest) (log_from pages raw (pages - first_page) (lap_of pages oldest) (page_of pages oldest) (start_in_page pages oldest)) (rounds_read (pages - first_page) pages raw (lap_of pages oldest) (page_of pages oldest) (start_in_page pages oldest))

own_read : (reading : Reading) (clusters : ℕ) (l : List Entry) → AreRead reading.entries → own_entries reading clusters ≡ Ok l → AreRead l
own_read reading clusters l h e = subst AreRead (all_ok (option_or (first_misplaced reading.entries clusters) reading.foreign) reading.entries l e).1 h

by_read : (c : Content) (place : LogPlace) (r : Restart) (l : List Entry) → entries_by c place r ≡ Ok l → AreRead l
unfolding entries_by
by_read c place r l e = go (is_clean r) e
  where
    go : (v : Bool) → (if v then Ok [] else (needs r.own (ForeignLog r.current) >>= λ _. own_entries (live_log place.pages (page_in c place) r.oldest) place.clusters)) ≡ Ok l → AreRead l
    go true h = subst AreRead (ok_same [] l h) tt
    go false h =
        let a = ok_then (needs r.own (ForeignLog r.current)) (λ (u : Unit {0}). own_entries (live_log place.pages (page_in c place) r.oldest) place.clusters) l h in
        own_read (live_log place.pages (page_in c place) r.oldest) place.clusters l (live_read place.pages (page_in c place) r.oldest) a.2

pub entries_read : (c : Content) (place : LogPlace) (chosen : Option Restart) (l : List Entry) → live_entries_in c place chosen ≡ Ok l → AreRead l
entries_read c place (Some r) l e = by_read c place r l e
entries_read c place None l e = subst AreRead (ok_same [] l e) tt

level_all : (l : List Entry) → AreRead l → All IsLevel l
level_all [] h = All-nil IsLevel
level_all (e ∷ es) h = All-cons IsLevel e es h.0.0 (level_all es h.1)

grid_all : (l : List Entry) → AreRead l → (b : Block) → has_update l b ≡ true → is_in_grid b ≡ true
grid_all [] h b e = absurd cc
grid_all (e ∷ es) h b has = go (λ k. grid_all es h.1 b k) (updates b e.act) refl
  where
    here : (act : Act) → PlacedAct act → updates b act ≡ true → is_in_grid b ≡ true
    here (Update first kind at redo undo) p is = subst (λ (x : Block). is_in_grid x ≡ true) (sym (same_block-is b (block_of_kind first kind) is)) p
    here Commit p is = absurd cc

    rest : (v : Bool) → v ≡ false → (v || has_update es b) ≡ true → has_update es b ≡ true
    rest false e k = k
    rest true e k = absurd cc

    go : (has_update es b ≡ true → is_in_grid b ≡ true) → (v : Bool) → updates b e.act ≡ v → is_in_grid b ≡ true
    go more true is = here e.act h.0.1 is
    go more false none = more (rest (updates b e.act) none has)

pub reads_well : (c : Content) (place : LogPlace) (kept : List Block) (state : LogState) → to_write_in c place kept ≡ Ok state → ReadsWell state.log
reads_well c place kept state e =
    let r = read_log c place kept state e in
    let all = entries_read c place r.front.chosen state.log r.entries in
    record { level = level_all state.log all; grid = grid_all state.log all }

pub reads_are_level : ReadsAreLevel
reads_are_level = record { log = read_log; well = reads_well }
