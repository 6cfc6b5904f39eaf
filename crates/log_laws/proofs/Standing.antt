-- The entries of a page, one behind the other, by the table and by the reader.
use Rattle.std.proofs.Common.{◌≡◌, ℕ, zero, suc, ◌+◌, ◌<◌, ◌≤◌, Bool, true, false, cond, eqb, ltb, List, [], ◌∷◌, length, Option, Some, None, Result, Ok, Err, refl, sym, ap, ◌∙◌, subst, inl, inr, arith}
use Rattle.std.specs.Prelude.{◌||◌}
use Rattle.std.proofs.lemmas.Bool.{cases_Bool, eq-eqb, eqb-true, lt-ltb, ltb-true}
use Rattle.std.proofs.lemmas.List.{length-take, length-drop}
use Rattle.log_page.specs.disk_model.Fixups.{restored}
use Rattle.log_page.proofs.disk_model.Protection.{length-restored}
use Rattle.log_page.specs.log_model.declared.entry.Entry.{Entry}
use Rattle.log_page.specs.log_model.declared.fault.EntryFault.{EntryFault}
use Rattle.log_page.specs.log_model.Entries.{entry_at, entry_size}
use Rattle.log_page.proofs.log_model.EntryTables.{read_table, table_read}
use Rattle.log_page.specs.Places.{entries_at}
use Rattle.log_page.specs.RecordPages.{Reading, no_reading, foreign_here, entry_before, entry_or_foreign, free_at, lsn_of, bytes_from, entry_in, goes_on, entries_from, page_reading}
use Rattle.log_page.proofs.Readings.{size_some}
use Rattle.log_laws.specs.Tables.{reading, StandsAt, Belongs, Stand, StandBefore}

-- ---- one entry

stands_read : (page : List ℕ) (first at : ℕ) (e : Entry) → StandsAt page first at e → entry_in page first at ≡ Some e
unfolding entry_in
stands_read page first at e s =
    let read = table_read (bytes_from page at) e s.begins in
    rw read (ap (λ (b : Bool). cond b (Some e) None) (eq-eqb e.lsn (lsn_of first at) s.own))

-- an entry that is kept where its LSN is the one of its place
own_kept : (same : Bool) (x e : Entry) → cond same (Some x) None ≡ Some e → (same ≡ true) × (x ≡ e)
own_kept true x e is = (refl, cc)
own_kept false x e is = absurd cc

read_stands : (page : List ℕ) (first at : ℕ) (e : Entry) → entry_in page first at ≡ Some e → StandsAt page first at e
unfolding entry_in
read_stands page first at e is = by (entry_at (bytes_from page at)) refl
  where
    by : (r : Result Entry EntryFault) → entry_at (bytes_from page at) ≡ r → StandsAt page first at e
    by (Err fault) read = let none : None ≡ Some e = rw read at is in absurd cc
    by (Ok x) read =
        let kept = own_kept (eqb x.lsn (lsn_of first at)) x e (rw read at is) in
        record {
          begins = read_table (bytes_from page at) e (read ∙ ap Ok kept.1);
          own = ap (λ (y : Entry). y.lsn) (sym kept.1) ∙ eqb-true x.lsn (lsn_of first at) kept.0;
        }

-- it ends in the page
ends_inside : (page : List ℕ) (first at : ℕ) (e : Entry) → StandsAt page first at e → (at + entry_size e ≤ length page) × (at < free_at page)
ends_inside page first at e s =
    let some = size_some e in
    let n = entry_size e in
    let inside = s.begins.inside in
    (omega (arith, length-drop {A = ℕ}, length-take {A = ℕ}), omega (arith, length-drop {A = ℕ}, length-take {A = ℕ}))

-- ---- an entry belongs here, or none

belongs_goes : (page : List ℕ) (at : ℕ) → Belongs page at → goes_on page at ≡ true
belongs_goes page at (inl begin) = ap (λ (b : Bool). b || ltb at (free_at page)) (eq-eqb at entries_at begin)
belongs_goes page at (inr before) = or_true (eqb at entries_at) (ltb at (free_at page)) (lt-ltb at (free_at page) before)
  where
    or_true : (a b : Bool) → b ≡ true → (a || b) ≡ true
    or_true true b e = refl
    or_true false b e = e

goes_belongs : (page : List ℕ) (at : ℕ) → goes_on page at ≡ true → Belongs page at
goes_belongs page at goes = elim (cases_Bool (eqb at entries_at)) [
  | inl begin ↦ inl (eqb-true at entries_at begin)
  | inr behind ↦ inr (ltb-true at (free_at page) (behind_begin (eqb at entries_at) (ltb at (free_at page)) behind goes))
]
  where
    behind_begin : (a b : Bool) → a ≡ false → (a || b) ≡ true → b ≡ true
    behind_begin false b e is = is
    behind_begin true b e is = absurd cc

not_goes : (page : List ℕ) (at : ℕ) → (Belongs page at → ⊥) → goes_on page at ≡ false
not_goes page at none = elim (cases_Bool (goes_on page at)) [
  | inl goes ↦ absurd (none (goes_belongs page at goes))
  | inr ends ↦ ends
]

goes_not : (page : List ℕ) (at : ℕ) → goes_on page at ≡ false → Belongs page at → ⊥
goes_not page at ends belongs = let goes = belongs_goes page at belongs in absurd cc

-- ---- steps of the reader

step : (most : ℕ) (page : List ℕ) (first at : ℕ) → goes_on page at ≡ true → entries_from (suc most) page first at ≡ entry_or_foreign (entry_in page first at) (lsn_of first at) (λ e. entries_from most page first (at + entry_size e))
unfolding entries_from
step most page first at more = rw more refl

stop : (most : ℕ) (page : List ℕ) (first at : ℕ) → goes_on page at ≡ false → entries_from most page first at ≡ no_reading
unfolding entries_from
stop zero page first at less = refl
stop (suc most) page first at less = rw less refl

one_more : (most : ℕ) (page : List ℕ) (first at : ℕ) (e : Entry) → StandsAt page first at e → entries_from (suc most) page first at ≡ entry_before e (entries_from most page first (at + entry_size e))
one_more most page first at e s =
    step most page first at (belongs_goes page at (inr (ends_inside page first at e s).1))
    ∙ ap (λ (o : Option Entry). entry_or_foreign o (lsn_of first at) (λ x. entries_from most page first (at + entry_size x))) (stands_read page first at e s)

-- ---- the table, up to the end or before another entry

abbrev pub StandAs : List ℕ → ℕ → ℕ → Option ℕ → List Entry → Type 0
StandAs page first at None entries = Stand page first at entries
StandAs page first at (Some lsn) entries = StandBefore page first at lsn entries

one_before : (page : List ℕ) (first at : ℕ) (foreign : Option ℕ) (e : Entry) (entries : List Entry) → StandsAt page first at e → StandAs page first (at + entry_size e) foreign entries → StandAs page first at foreign (e ∷ entries)
one_before page first at None e entries here behind = (here, behind)
one_before page first at (Some lsn) e entries here behind = (here, behind)

first_of : (page : List ℕ) (first at : ℕ) (foreign : Option ℕ) (e : Entry) (entries : List Entry) → StandAs page first at foreign (e ∷ entries) → StandsAt page first at e × StandAs page first (at + entry_size e) foreign entries
first_of page first at None e entries are = are
first_of page first at (Some lsn) e entries are = are

-- fewer entries than bytes stand on a page
fuel_left : (page : List ℕ) (first at most : ℕ) (e : Entry) → StandsAt page first at e → length page ≤ suc most + at → (length page ≤ most + (at + entry_size e)) × (0 < most)
fuel_left page first at most e s enough =
    let size = size_some e in
    let inside = (ends_inside page first at e s).0 in
    (omega arith, omega arith)

reads_end : (most : ℕ) (page : List ℕ) (first at : ℕ) (foreign : Option ℕ) → StandAs page first at foreign [] → entries_from (suc most) page first at ≡ reading [] foreign
reads_end most page first at None ends = stop (suc most) page first at (not_goes page at ends)
reads_end most page first at (Some lsn) (belongs, none, is) =
    step most page first at (belongs_goes page at belongs)
    ∙ ap (λ (o : Option Entry). entry_or_foreign o (lsn_of first at) (λ x. entries_from most page first (at + entry_size x))) (no_entry (entry_in page first at) refl)
    ∙ ap (λ (n : ℕ). foreign_here n) (sym is)
  where
    no_entry : (o : Option Entry) → entry_in page first at ≡ o → entry_in page first at ≡ None
    no_entry None read = read
    no_entry (Some e) read = absurd (none e (read_stands page first at e read))

stand_read : (entries : List Entry) (fuel : ℕ) (page : List ℕ) (first at : ℕ) (foreign : Option ℕ) → length page ≤ fuel + at → 0 < fuel → StandAs page first at foreign entries → entries_from fuel page first at ≡ reading entries foreign
stand_read entries zero page first at foreign enough some are = absurd (omega arith)
stand_read [] (suc most) page first at foreign enough some are = reads_end most page first at foreign are
stand_read (e ∷ entries) (suc most) page first at foreign enough some are =
    let parts = first_of page first at foreign e entries are in
    let left = fuel_left page first at most e parts.0 enough in
    one_more most page first at e parts.0 ∙ ap (entry_before e) (stand_read entries most page first (at + entry_size e) foreign left.0 left.1 parts.1)

abbrev Read : List ℕ → ℕ → ℕ → Reading → Type 0
Read page first at r = StandAs page first at r.foreign r.entries

-- by what stands at the offset, where the entries behind it were read as they stand
by_entry : (most : ℕ) (page : List ℕ) (first at : ℕ) → ((next : ℕ) → length page ≤ most + next → 0 < most → Read page first next (entries_from most page first next)) → length page ≤ suc most + at → goes_on page at ≡ true
    → (o : Option Entry) → entry_in page first at ≡ o → Read page first at (entry_or_foreign o (lsn_of first at) (λ e. entries_from most page first (at + entry_size e)))
by_entry most page first at behind enough goes None read = (goes_belongs page at goes, (λ e stands. clash e (sym read ∙ stands_read page first at e stands)), refl)
  where
    clash : (e : Entry) → None ≡ Some e → ⊥
    clash e is = cc
by_entry most page first at behind enough goes (Some e) read =
    let here = read_stands page first at e read in
    let left = fuel_left page first at most e here enough in
    let rest = entries_from most page first (at + entry_size e) in
    one_before page first at rest.foreign e rest.entries here (behind (at + entry_size e) left.0 left.1)

read_stand : (fuel : ℕ) (page : List ℕ) (first at : ℕ) → length page ≤ fuel + at → 0 < fuel → Read page first at (entries_from fuel page first at)
read_stand zero page first at enough some = absurd (omega arith)
read_stand (suc most) page first at enough some = elim (cases_Bool (goes_on page at)) [
  | inl goes ↦ subst (Read page first at) (sym (step most page first at goes)) (by_entry most page first at (λ next fits left. read_stand most page first next fits left) enough goes (entry_in page first at) refl)
  | inr ends ↦ subst (Read page first at) (sym (stop (suc most) page first at ends)) (goes_not page at ends)
]

-- ---- of all bytes

module _ (raw : List ℕ) (first at : ℕ) (some : 0 < length raw) where
  enough : length (restored raw) ≤ length raw + at
  enough = let size = length-restored raw in omega arith

  pub stand_reading : (foreign : Option ℕ) (entries : List Entry) → StandAs (restored raw) first at foreign entries → page_reading raw first at ≡ reading entries foreign
  unfolding page_reading
  stand_reading foreign entries are = stand_read entries (length raw) (restored raw) first at foreign enough some are

  pub reading_stand : Read (restored raw) first at (page_reading raw first at)
  unfolding page_reading
  reading_stand = read_stand (length raw) (restored raw) first at enough some

  pub reading_stands : (foreign : Option ℕ) (entries : List Entry) → page_reading raw first at ≡ reading entries foreign → StandAs (restored raw) first at foreign entries
  reading_stands foreign entries is = subst (Read (restored raw) first at) is reading_stand
