-- What each event of the log of a store leaves is a log of it that the disk holds.
use Rattle.std.proofs.Common.{◌≡◌, ℕ, zero, suc, ◌+◌, ◌-◌, ◌<◌, ◌≤◌, max, Bool, true, false, List, [], ◌∷◌, ◌++◌, length, take, drop, get_or, Option, Some, None, refl, sym, ap, ◌∙◌, subst, inl, inr, length-append, arith}
use Rattle.std.specs.Prelude.{if◌then◌else◌}
use Rattle.std.proofs.lemmas.Bool.{cases_lt, eq-eqb, ne_eqb}
use Rattle.store_model.specs.log_model.declared.entry.Entry.{Entry}
use Rattle.log_reading.specs.log_page.declared.restart.Restart.{Restart}
use Rattle.log_reading.specs.log_page.Places.{first_page}
use Rattle.log_reading.specs.log_page.CheckWords.{IsCheckWord}
use Rattle.log_reading.specs.log_page.PageSpellings.{MakePage}
use Rattle.log_reading.specs.log_page.Restarts.{FitsRestart}
use Rattle.log_reading.specs.log_page.RestartLaws.{HasRanges}
use Rattle.store_model.specs.sector_device.Disks.{Disk, seen, settled, IsBetween}
use Rattle.store_model.specs.Stores.{Store}
use Rattle.store_model.specs.Rings.{PagePlaces, Ring, Restarts, entries_on, synced_places, restart_place}
use Rattle.store_model.proofs.Rings.{entries_longer, drop_entries, take_entries}
use Rattle.ring_laws.specs.Numbers.{LogSession, place_of_page, lap_of_page, lsn_of_page}
use Rattle.store_model.specs.sector_device.Sectors.{sectors_of}
use Rattle.store_model.specs.sector_device.WholeSectors.{length-sectors_of}
use Rattle.store_model.proofs.fixup_record.Protected.{length-protected}
use Rattle.log_reading.specs.log_page.Restarts.{restart_spelling}
use Rattle.log_laws.proofs.log_page.Spelled.{length-restart_spelling}
use Rattle.ring_laws.specs.PageBytes.{raw_page, AreAlike, spelled_page, spelled_restart}
use Rattle.ring_laws.specs.RingPages.{HoldsRing, entries_of_page, page_written, page_sent, fixed_to}
use Rattle.ring_laws.specs.RestartPages.{RestartFields, IsBelow, HoldsRestarts, with_next, restart_written, restart_sent, restart_synced}
use Rattle.ring_laws.specs.Laws.{page_put, restart_put}
use Rattle.ring_laws.specs.StoreLogs.{NamesPages, entries_to, LogNumbers, HoldsLog, LogBecomes, KeepsLog, stays_to}
use Rattle.ring_laws.proofs.LogSectors.{kept_by_page}
use Rattle.ring_laws.proofs.Numbering.{in_ring}
use Rattle.ring_laws.proofs.RingFacts.{has_ring, true_false}
use Rattle.ring_laws.proofs.RestartFacts.{place_below}
use Rattle.ring_laws.proofs.RingWrites.{length-new, page_is_written, page_fails}
use Rattle.ring_laws.proofs.RingCalls.{grows, syncs, frees, kept_by_others, picks}
use Rattle.ring_laws.proofs.RestartWrites.{restart_is_sent, restart_not_sent}
use Rattle.ring_laws.proofs.RestartCalls.{restarts_sync, restarts_kept, restart_picks}

-- ---- entries on pages

same_front : (m : ℕ) (xs ys : List (List Entry)) → ((k : ℕ) → k < m → get_or xs k [] ≡ get_or ys k []) → entries_on (take m xs) ≡ entries_on (take m ys)
same_front zero [] [] same = refl
same_front zero [] (y ∷ ys) same = refl
same_front zero (x ∷ xs) [] same = refl
same_front zero (x ∷ xs) (y ∷ ys) same = refl
same_front (suc m) [] [] same = refl
same_front (suc m) [] (y ∷ ys) same =
    none m (same_front m [] ys (λ k lt. same (suc k) (omega (arith, lt)))) ∙ ap (λ (l : List Entry). l ++ entries_on (take m ys)) (same 0 (omega arith))
  where
    none : (m : ℕ) → entries_on (take m []) ≡ entries_on (take m ys) → ◌≡◌ {A = List Entry} [] (entries_on (take m ys))
    none zero e = e
    none (suc m) e = e
same_front (suc m) (x ∷ xs) [] same =
    ap (λ (l : List Entry). l ++ entries_on (take m xs)) (same 0 (omega arith)) ∙ none m (same_front m xs [] (λ k lt. same (suc k) (omega (arith, lt))))
  where
    none : (m : ℕ) → entries_on (take m xs) ≡ entries_on (take m []) → ◌≡◌ {A = List Entry} (entries_on (take m xs)) []
    none zero e = e
    none (suc m) e = e
same_front (suc m) (x ∷ xs) (y ∷ ys) same =
    ap (λ (l : List Entry). l ++ entries_on (take m xs)) (same 0 (omega arith)) ∙ ap (λ (l : List Entry). y ++ l) (same_front m xs ys (λ k lt. same (suc k) (omega (arith, lt))))

within_all : (m : ℕ) (xs : List (List Entry)) → length (entries_on (take m xs)) ≤ length (entries_on xs)
within_all zero [] = omega arith
within_all zero (x ∷ xs) = omega arith
within_all (suc m) [] = omega arith
within_all (suc m) (x ∷ xs) = omega (arith, within_all m xs, length-append x (entries_on (take m xs)), length-append x (entries_on xs))

all_taken : (xs : List (List Entry)) → entries_on (take (length xs) xs) ≡ entries_on xs
all_taken [] = refl
all_taken (x ∷ xs) = ap (λ (l : List Entry). x ++ l) (all_taken xs)

-- ---- the numbers of a log, by those of a store

pub record Counted (l : LogNumbers) (log : List Entry) (synced done sent place : ℕ) (begun renamed replaced : Bool) : Type 0 where
  pub log_is : log ≡ entries_on l.pages
  pub synced_is : synced ≡ entries_to l.ring l.pages l.ring.synced
  pub done_is : done ≡ entries_to l.ring l.pages l.ring.done
  pub sent_is : sent ≡ entries_to l.ring l.pages l.ring.sent
  pub replaced_is : replaced ≡ l.restarts.done
  pub restart : l.restarts.begun ≡ true → renamed ≡ true
  pub renames : renamed ≡ true → begun ≡ true
  pub low : begun ≡ true → l.ring.oldest ≤ l.noted
  pub notes : begun ≡ true → place ≡ entries_to l.ring l.pages l.noted
  pub high : renamed ≡ true → l.noted ≤ l.ring.synced

abbrev CountedBy : LogNumbers → Store → Type 0
CountedBy l store = Counted l store.log store.synced store.done store.sent store.place store.begun store.renamed store.replaced

counted : (s : LogSession) (l : LogNumbers) (store : Store) (disk : Disk) → HoldsLog s l store disk → CountedBy l store
counted s l store disk h = record {
  log_is = h.kept.holds.log;
  synced_is = h.kept.holds.synced;
  done_is = h.done;
  sent_is = h.kept.holds.sent;
  replaced_is = h.replaced;
  restart = h.kept.begun;
  renames = h.renamed;
  low = h.low;
  notes = h.place;
  high = h.kept.high;
}

holds : (s : LogSession) (l : LogNumbers) (after : Store) (disk : Disk) (log : List Entry) (synced done sent place : ℕ) (begun renamed replaced : Bool) → LogBecomes after log synced done sent place begun renamed replaced
    → Counted l log synced done sent place begun renamed replaced → HoldsRing s l.ring l.check l.pages disk → HoldsRestarts s.place l.restarts l.word l.fields disk → NamesPages s l.ring l.restarts l.noted l.fields
    → HoldsLog s l after disk
holds s l after disk log synced done sent place begun renamed replaced b c ring restarts names = record {
  kept = record {
    ring = ring.ring;
    restarts = restarts.restarts;
    holds = record { log = b.log_is ∙ c.log_is; synced = b.synced_is ∙ c.synced_is; sent = b.sent_is ∙ c.sent_is };
    begun = λ e. b.renamed_is ∙ c.restart e;
    low = λ e. c.low (c.renames (sym b.renamed_is ∙ e));
    high = λ e. c.high (sym b.renamed_is ∙ e);
    names = λ e. b.place_is ∙ c.notes (c.renames (sym b.renamed_is ∙ e));
  };
  ring = ring;
  restarts = restarts;
  names = names;
  done = b.done_is ∙ c.done_is;
  replaced = b.replaced_is ∙ c.replaced_is;
  low = λ e. c.low (sym b.begun_is ∙ e);
  place = λ e. b.place_is ∙ c.notes (sym b.begun_is ∙ e);
  renamed = λ e. b.begun_is ∙ c.renames (sym b.renamed_is ∙ e);
}

same_restart : (a b : Restart) → ◌≡◌ {A = Option Restart} (Some a) (Some b) → a ≡ b
same_restart a b e = cc

restart_length : (next : Restart) (word : ℕ) → length (spelled_restart next word) ≡ 4096
unfolding spelled_restart
restart_length next word = length-protected (restart_spelling next) word ∙ length-restart_spelling next

-- ---- a store begins

none_on : (n : ℕ) → 0 ≡ length (entries_on (take n []))
none_on zero = refl
none_on (suc n) = refl

pub log_starts : (s : LogSession) (r : Ring) (check : Option ℕ) (q : Restarts) (word : Option ℕ) (fields : RestartFields) (noted place : ℕ) (store : Store) (disk : Disk) (own : Restart)
    → HoldsRing s r check [] disk → HoldsRestarts s.place q word fields disk → q.begun ≡ false → fields q.sure ≡ Some own → own.oldest ≡ lsn_of_page s r.oldest → LogBecomes store [] 0 0 0 place false false false
    → HoldsLog s (record { ring = r; check = check; pages = []; restarts = q; word = word; fields = fields; noted = noted }) store disk
log_starts s r check q word fields noted place store disk own ring restarts quiet is names b =
    holds s (record { ring = r; check = check; pages = []; restarts = q; word = word; fields = fields; noted = noted }) store disk [] 0 0 0 place false false false b
    (record {
      log_is = refl;
      synced_is = none_on (r.synced - r.oldest);
      done_is = none_on (r.done - r.oldest);
      sent_is = none_on (r.sent - r.oldest);
      replaced_is = not_done q.done refl;
      restart = λ begun. absurd (true_false (sym begun ∙ quiet));
      renames = λ e. absurd (true_false (sym e));
      low = λ e. absurd (true_false (sym e));
      notes = λ e. absurd (true_false (sym e));
      high = λ e. absurd (true_false (sym e));
    }) ring restarts (record { sure = own; sure_is = is; oldest = names; next = λ f begun e. absurd (true_false (sym begun ∙ quiet)) })
  where
    not_done : (v : Bool) → q.done ≡ v → false ≡ q.done
    not_done true e = absurd (true_false (sym (restarts.restarts.begun e) ∙ quiet))
    not_done false e = sym e

-- ---- some pages of a log alike

fewer_pages : (s : LogSession) (from to : ℕ) (disk now : Disk) → to ≤ s.place.pages → AreAlike s.place 0 s.place.pages disk now → AreAlike s.place from to disk now
fewer_pages s from to disk now fits alike = record {
  durable = λ k i low high few. alike.durable k i (omega arith) (omega (arith, high, fits)) few;
  written = λ k i low high few. alike.written k i (omega arith) (omega (arith, high, fits)) few;
}

module _ (s : LogSession) (l : LogNumbers) (store : Store) (disk : Disk) (h : HoldsLog s l store disk) where
  c : CountedBy l store
  c = counted s l store disk h

  two_pages : 2 ≤ s.place.pages
  two_pages = omega (arith, h.ring.lies.ring)

  -- ---- what is done elsewhere, and entries that are appended

  pub log_kept : (after : Store) (now : Disk) → KeepsLog store after → AreAlike s.place 0 s.place.pages disk now → HoldsLog s l after now
  log_kept after now b alike = holds s l after now store.log store.synced store.done store.sent store.place store.begun store.renamed store.replaced b c
      (kept_by_others s l.ring l.check l.pages disk h.ring now (fewer_pages s first_page s.place.pages disk now (omega arith) alike))
      (restarts_kept s.place l.restarts l.word l.fields disk h.restarts now (fewer_pages s 0 2 disk now two_pages alike)) h.names

  module _ (more : List (List Entry)) (same : (k : ℕ) → k < stays_to l store.begun - l.ring.oldest → get_or more k [] ≡ get_or l.pages k []) where
    fixed : (begun : Bool) → fixed_to l.ring l.check ≤ stays_to l begun
    fixed true = omega arith
    fixed false = omega arith

    sent_fixed : (check : Option ℕ) → l.ring.sent ≤ fixed_to l.ring check
    sent_fixed (Some word) = h.ring.next
    sent_fixed None = omega arith

    same_to : (n : ℕ) → n ≤ stays_to l store.begun → entries_to l.ring l.pages n ≡ entries_to l.ring more n
    same_to n le = ap (λ (es : List Entry). length es) (same_front (n - l.ring.oldest) l.pages more (λ k lt. sym (same k (omega (arith, lt, le)))))

    sent_stays : l.ring.sent ≤ stays_to l store.begun
    sent_stays = omega (arith, sent_fixed l.check, fixed store.begun)

    noted_stays : store.begun ≡ true → l.noted ≤ stays_to l store.begun
    noted_stays e = subst (λ (v : Bool). l.noted ≤ stays_to l v) (sym e) (let le : l.noted ≤ max (fixed_to l.ring l.check) l.noted = omega arith in le)

    pub log_grows : (after : Store) → LogBecomes after (entries_on more) store.synced store.done store.sent store.place store.begun store.renamed store.replaced → HoldsLog s (record l { pages = more }) after disk
    log_grows after b = holds s (record l { pages = more }) after disk (entries_on more) store.synced store.done store.sent store.place store.begun store.renamed store.replaced b
        (record {
          log_is = refl;
          synced_is = c.synced_is ∙ same_to l.ring.synced (omega (arith, h.ring.ring.synced, h.ring.ring.done, sent_stays));
          done_is = c.done_is ∙ same_to l.ring.done (omega (arith, h.ring.ring.done, sent_stays));
          sent_is = c.sent_is ∙ same_to l.ring.sent sent_stays;
          replaced_is = c.replaced_is;
          restart = c.restart;
          renames = c.renames;
          low = c.low;
          notes = λ e. c.notes e ∙ same_to l.noted (noted_stays e);
          high = c.high;
        })
        (grows s l.ring l.check l.pages disk h.ring more (λ k lt. same k (omega (arith, lt, fixed store.begun)))) h.restarts h.names

  -- ---- a page is begun and written

  pub log_begins : (word : ℕ) → l.check ≡ None → l.ring.done < l.ring.oldest + l.ring.size → MakePage s.place.pages (lap_of_page s l.ring.done) (place_of_page s l.ring.done) (entries_of_page l.ring l.pages l.ring.done)
      → IsCheckWord (raw_page s.place (seen disk) (place_of_page s l.ring.done)) word → HoldsLog s (record l { check = Some word }) store disk
  log_begins word none room made picked = record {
    kept = h.kept;
    ring = picks s l.ring l.pages disk word (subst (λ (o : Option ℕ). HoldsRing s l.ring o l.pages disk) none h.ring) room made picked;
    restarts = h.restarts;
    names = h.names;
    done = h.done;
    replaced = h.replaced;
    low = h.low;
    place = h.place;
    renamed = h.renamed;
  }

  abbrev m : ℕ
  m = entries_to l.ring l.pages (suc l.ring.done)

  to_rises : (a b : ℕ) → a ≤ b → entries_to l.ring l.pages a ≤ entries_to l.ring l.pages b
  to_rises a b le = entries_longer l.pages (a - l.ring.oldest) (b - l.ring.oldest) (omega (arith, le))

  pub log_within : (store.done ≤ m) × (m ≤ length store.log)
  log_within = (
    omega (arith, c.done_is, to_rises l.ring.done (suc l.ring.done) (omega arith)),
    omega (arith, within_all (suc l.ring.done - l.ring.oldest) l.pages, ap (λ (es : List Entry). length es) c.log_is),
  )

  sent_now : max store.sent m ≡ entries_to l.ring l.pages (max l.ring.sent (suc l.ring.done))
  sent_now = elim (cases_lt l.ring.sent (suc l.ring.done)) [
    | inl less ↦ (let rise = to_rises l.ring.sent (suc l.ring.done) (omega (arith, less)) in
        (let e : max store.sent m ≡ m = omega (arith, c.sent_is, rise) in e) ∙ ap (entries_to l.ring l.pages) (let e : suc l.ring.done ≡ max l.ring.sent (suc l.ring.done) = omega (arith, less) in e))
    | inr more ↦ (let rise = to_rises (suc l.ring.done) l.ring.sent more in
        (let e : max store.sent m ≡ store.sent = omega (arith, c.sent_is, rise) in e) ∙ c.sent_is ∙ ap (entries_to l.ring l.pages) (let e : l.ring.sent ≡ max l.ring.sent (suc l.ring.done) = omega (arith, more) in e))
  ]

  module _ (word : ℕ) (is : l.check ≡ Some word) where
    begun_ring : HoldsRing s l.ring (Some word) l.pages disk
    begun_ring = subst (λ (o : Option ℕ). HoldsRing s l.ring o l.pages disk) is h.ring

    restarts_stay : (now : Disk) → IsBetween disk (page_put s l.ring l.pages word disk) now → HoldsRestarts s.place l.restarts l.word l.fields now
    restarts_stay now between =
        let new = spelled_page s l.ring.done (entries_of_page l.ring l.pages l.ring.done) word in
        let size : length new ≡ 4096 = length-new s l.ring l.pages disk now word begun_ring between in
        let eight : length (sectors_of new) ≡ 8 = length-sectors_of new ∙ omega (arith, size) in
        let at = in_ring s (has_ring s.place h.ring.lies) l.ring.done in
        restarts_kept s.place l.restarts l.word l.fields disk h.restarts now
        (kept_by_page s.place 0 2 (place_of_page s l.ring.done) (sectors_of new) disk now h.ring.lies two_pages at.inside eight (inr (let le : 2 ≤ place_of_page s l.ring.done = omega arith in le)) between)

    pub log_written : (after : Store) → LogBecomes after store.log store.synced m (max store.sent m) store.place store.begun store.renamed store.replaced
        → (places : PagePlaces) × HoldsLog s (record l { ring = page_written l.ring places; check = None }) after (page_put s l.ring l.pages word disk)
    log_written after b =
        let it = page_is_written s l.ring l.pages disk word begun_ring in
        let now = page_put s l.ring l.pages word disk in (
          it.0,
          holds s (record l { ring = page_written l.ring it.0; check = None }) after now store.log store.synced m (max store.sent m) store.place store.begun store.renamed store.replaced b
              (record {
                log_is = c.log_is;
                synced_is = c.synced_is;
                done_is = refl;
                sent_is = sent_now;
                replaced_is = c.replaced_is;
                restart = c.restart;
                renames = c.renames;
                low = c.low;
                notes = c.notes;
                high = c.high;
              }) it.1 (restarts_stay now (record { durable = λ n. refl; written = λ n. inr refl })) (record { sure = h.names.sure; sure_is = h.names.sure_is; oldest = h.names.oldest; next = h.names.next }),
        )

    pub log_fails : (after : Store) (now : Disk) → IsBetween disk (page_put s l.ring l.pages word disk) now → LogBecomes after store.log store.synced store.done (max store.sent m) store.place store.begun store.renamed store.replaced
        → (places : PagePlaces) × HoldsLog s (record l { ring = page_sent l.ring places }) after now
    log_fails after now between b =
        let it = page_fails s l.ring l.pages disk now word begun_ring between in (
          it.0,
          holds s (record l { ring = page_sent l.ring it.0 }) after now store.log store.synced store.done (max store.sent m) store.place store.begun store.renamed store.replaced b
              (record {
                log_is = c.log_is;
                synced_is = c.synced_is;
                done_is = c.done_is;
                sent_is = sent_now;
                replaced_is = c.replaced_is;
                restart = c.restart;
                renames = c.renames;
                low = c.low;
                notes = c.notes;
                high = c.high;
              }) (subst (λ (o : Option ℕ). HoldsRing s (page_sent l.ring it.0) o l.pages now) (sym is) it.1) (restarts_stay now between)
              (record { sure = h.names.sure; sure_is = h.names.sure_is; oldest = h.names.oldest; next = h.names.next }),
        )

  -- ---- syncs

  sure_early : l.restarts.done ≡ false → (restart_synced l.restarts).sure ≡ l.restarts.sure
  sure_early e = ap (λ (v : Bool). (if v then record l.restarts { sure = suc l.restarts.sure; begun = false; done = false; places = synced_places l.restarts.places } else record l.restarts { places = synced_places l.restarts.places }).sure) e

  begun_early : l.restarts.done ≡ false → (restart_synced l.restarts).begun ≡ l.restarts.begun
  begun_early e = ap (λ (v : Bool). (if v then record l.restarts { sure = suc l.restarts.sure; begun = false; done = false; places = synced_places l.restarts.places } else record l.restarts { places = synced_places l.restarts.places }).begun) e

  none_done : (v : Bool) → l.restarts.done ≡ v
      → (if v then record l.restarts { sure = suc l.restarts.sure; begun = false; done = false; places = synced_places l.restarts.places } else record l.restarts { places = synced_places l.restarts.places }).done ≡ false
  none_done true e = refl
  none_done false e = e

  sure_late : l.restarts.done ≡ true → (restart_synced l.restarts).sure ≡ suc l.restarts.sure
  sure_late e = ap (λ (v : Bool). (if v then record l.restarts { sure = suc l.restarts.sure; begun = false; done = false; places = synced_places l.restarts.places } else record l.restarts { places = synced_places l.restarts.places }).sure) e

  begun_late : l.restarts.done ≡ true → (restart_synced l.restarts).begun ≡ false
  begun_late e = ap (λ (v : Bool). (if v then record l.restarts { sure = suc l.restarts.sure; begun = false; done = false; places = synced_places l.restarts.places } else record l.restarts { places = synced_places l.restarts.places }).begun) e

  restarts_synced : HoldsRestarts s.place (restart_synced l.restarts) l.word l.fields (settled disk)
  restarts_synced = restarts_sync s.place l.restarts l.word l.fields disk h.restarts

  pub log_synced : (after : Store) → store.replaced ≡ false → LogBecomes after store.log store.done store.done store.sent store.place store.begun store.renamed store.replaced
      → HoldsLog s (record l { ring = record l.ring { synced = l.ring.done; places = synced_places l.ring.places }; restarts = restart_synced l.restarts }) after (settled disk)
  log_synced after early b =
      let e : l.restarts.done ≡ false = sym c.replaced_is ∙ early in
      holds s (record l { ring = record l.ring { synced = l.ring.done; places = synced_places l.ring.places }; restarts = restart_synced l.restarts }) after (settled disk)
      store.log store.done store.done store.sent store.place store.begun store.renamed store.replaced b
      (record {
        log_is = c.log_is;
        synced_is = c.done_is;
        done_is = c.done_is;
        sent_is = c.sent_is;
        replaced_is = early ∙ sym (none_done l.restarts.done refl);
        restart = λ begun. c.restart (sym (begun_early e) ∙ begun);
        renames = c.renames;
        low = c.low;
        notes = c.notes;
        high = λ renamed. omega (arith, c.high renamed, h.ring.ring.synced);
      })
      (syncs s l.ring l.check l.pages disk h.ring) restarts_synced
      (record {
        sure = h.names.sure;
        sure_is = ap l.fields (sure_early e) ∙ h.names.sure_is;
        oldest = h.names.oldest;
        next = λ f begun is. h.names.next f (sym (begun_early e) ∙ begun) (ap (λ (n : ℕ). l.fields (suc n)) (sym (sure_early e)) ∙ is);
      })

  module _ (late : store.replaced ≡ true) where
    done_late : l.restarts.done ≡ true
    done_late = sym c.replaced_is ∙ late

    begun_now : l.restarts.begun ≡ true
    begun_now = h.restarts.restarts.begun done_late

    renamed_now : store.renamed ≡ true
    renamed_now = c.restart begun_now

    begun_store : store.begun ≡ true
    begun_store = c.renames renamed_now

    low_noted : l.ring.oldest ≤ l.noted
    low_noted = c.low begun_store

    high_noted : l.noted ≤ l.ring.done
    high_noted = omega (arith, c.high renamed_now, h.ring.ring.synced)

    place_is : store.place ≡ length (entries_on (take (l.noted - l.ring.oldest) l.pages))
    place_is = c.notes begun_store

    -- entries up to a page, without those before the noted one
    rest_is : (n : ℕ) → l.noted ≤ n → entries_to l.ring l.pages n - store.place ≡ length (entries_on (take (n - l.noted) (drop (l.noted - l.ring.oldest) l.pages)))
    rest_is n le =
        let parts = take_entries l.pages (l.noted - l.ring.oldest) (n - l.noted) in
        let whole : entries_to l.ring l.pages n ≡ length (entries_on (take (l.noted - l.ring.oldest + (n - l.noted)) l.pages)) = ap (λ (k : ℕ). length (entries_on (take k l.pages))) (let e : n - l.ring.oldest ≡ l.noted - l.ring.oldest + (n - l.noted) = omega (arith, le, low_noted) in e) in
        omega (arith, parts, whole, place_is)

    next_page : (f : Restart) × (l.fields (suc l.restarts.sure) ≡ Some f)
    next_page = h.restarts.says begun_now

    pub log_freed : (after : Store) → LogBecomes after (drop store.place store.log) (store.done - store.place) (store.done - store.place) (store.sent - store.place) store.place false false false
        → HoldsLog s
        (record l {
          ring = record l.ring { oldest = l.noted; synced = l.ring.done; places = synced_places l.ring.places };
          pages = drop (l.noted - l.ring.oldest) l.pages;
          restarts = restart_synced l.restarts;
        }) after (settled disk)
    log_freed after b =
        let freed_ring = frees s (record l.ring { synced = l.ring.done; places = synced_places l.ring.places }) l.check l.pages (settled disk) (syncs s l.ring l.check l.pages disk h.ring) l.noted low_noted high_noted in
        holds s
        (record l { ring = record l.ring { oldest = l.noted; synced = l.ring.done; places = synced_places l.ring.places }; pages = drop (l.noted - l.ring.oldest) l.pages; restarts = restart_synced l.restarts })
        after (settled disk) (drop store.place store.log) (store.done - store.place) (store.done - store.place) (store.sent - store.place) store.place false false false b
        (record {
          log_is = ap (λ (k : ℕ). drop k store.log) place_is ∙ ap (drop (length (entries_on (take (l.noted - l.ring.oldest) l.pages)))) c.log_is ∙ drop_entries l.pages (l.noted - l.ring.oldest);
          synced_is = ap (λ (k : ℕ). k - store.place) c.done_is ∙ rest_is l.ring.done high_noted;
          done_is = ap (λ (k : ℕ). k - store.place) c.done_is ∙ rest_is l.ring.done high_noted;
          sent_is = ap (λ (k : ℕ). k - store.place) c.sent_is ∙ rest_is l.ring.sent (omega (arith, high_noted, h.ring.ring.done));
          replaced_is = sym (none_done l.restarts.done refl);
          restart = λ begun. absurd (true_false (sym begun ∙ begun_late done_late));
          renames = λ e. absurd (true_false (sym e));
          low = λ e. absurd (true_false (sym e));
          notes = λ e. absurd (true_false (sym e));
          high = λ e. absurd (true_false (sym e));
        })
        freed_ring restarts_synced
        (record {
          sure = next_page.0;
          sure_is = ap l.fields (sure_late done_late) ∙ next_page.1;
          oldest = h.names.next next_page.0 begun_now next_page.1;
          next = λ f begun is. absurd (true_false (sym begun ∙ begun_late done_late));
        })

  -- ---- a checkpoint begins

  pub log_noted : (after : Store) → store.begun ≡ false → LogBecomes after store.log store.synced store.done store.sent (length store.log) true false store.replaced
      → HoldsLog s (record l { noted = l.ring.oldest + length l.pages }) after disk
  log_noted after early b =
      let no_page : l.restarts.begun ≡ true → ⊥ = λ begun. true_false (sym (c.renames (c.restart begun)) ∙ early) in
      holds s (record l { noted = l.ring.oldest + length l.pages }) after disk store.log store.synced store.done store.sent (length store.log) true false store.replaced b
      (record {
        log_is = c.log_is;
        synced_is = c.synced_is;
        done_is = c.done_is;
        sent_is = c.sent_is;
        replaced_is = c.replaced_is;
        restart = λ begun. absurd (no_page begun);
        renames = λ e. absurd (true_false (sym e));
        low = λ e. omega arith;
        notes = λ e. ap (λ (es : List Entry). length es) (c.log_is ∙ sym (all_taken l.pages))
            ∙ ap (λ (k : ℕ). length (entries_on (take k l.pages))) (let f : length l.pages ≡ l.ring.oldest + length l.pages - l.ring.oldest = omega arith in f);
        high = λ e. absurd (true_false (sym e));
      })
      h.ring h.restarts
      (record { sure = h.names.sure; sure_is = h.names.sure_is; oldest = h.names.oldest; next = λ f begun is. absurd (no_page begun) })

  -- ---- a restart page is begun and written

  pub restart_begins : (next : Restart) (word : ℕ) → l.word ≡ None → store.replaced ≡ false → FitsRestart next → HasRanges next → IsBelow (l.fields l.restarts.sure) (Some next) → next.oldest ≡ lsn_of_page s l.noted
      → IsCheckWord (raw_page s.place (seen disk) (restart_place (suc l.restarts.sure))) word → HoldsLog s (record l { word = Some word; fields = with_next l.restarts next l.fields }) store disk
  restart_begins next word none early fits ranges rises names picked = record {
    kept = h.kept;
    ring = h.ring;
    restarts = restart_picks s.place l.restarts l.fields disk next word (subst (λ (o : Option ℕ). HoldsRestarts s.place l.restarts o l.fields disk) none h.restarts) (sym c.replaced_is ∙ early) fits ranges rises picked;
    names = record {
      sure = h.names.sure;
      sure_is = ap (λ (v : Bool). if v then Some next else l.fields l.restarts.sure) (ne_eqb l.restarts.sure (suc l.restarts.sure) (λ e. omega (arith, e))) ∙ h.names.sure_is;
      oldest = h.names.oldest;
      next = λ f begun is. ap (λ (r : Restart). r.oldest)
          (same_restart f next (sym is ∙ ap (λ (v : Bool). if v then Some next else l.fields (suc l.restarts.sure)) (eq-eqb (suc l.restarts.sure) (suc l.restarts.sure) refl))) ∙ names;
    };
    done = h.done;
    replaced = h.replaced;
    low = h.low;
    place = h.place;
    renamed = h.renamed;
  }

  module _ (next : Restart) (word : ℕ) (is : l.word ≡ Some word) (told : l.fields (suc l.restarts.sure) ≡ Some next) (names : next.oldest ≡ lsn_of_page s l.noted) (begun : store.begun ≡ true) (high : l.noted ≤ l.ring.synced) where
    begun_restarts : HoldsRestarts s.place l.restarts (Some word) l.fields disk
    begun_restarts = subst (λ (o : Option ℕ). HoldsRestarts s.place l.restarts o l.fields disk) is h.restarts

    ring_stays : (now : Disk) → IsBetween disk (restart_put s.place l.restarts next word disk) now → HoldsRing s l.ring l.check l.pages now
    ring_stays now between =
        let new = spelled_restart next word in
        let size : length new ≡ 4096 = restart_length next word in
        let eight : length (sectors_of new) ≡ 8 = length-sectors_of new ∙ omega (arith, size) in
        let at = restart_place (suc l.restarts.sure) in
        let few : at < 2 = place_below (suc l.restarts.sure) in
        kept_by_others s l.ring l.check l.pages disk h.ring now
        (kept_by_page s.place first_page s.place.pages at (sectors_of new) disk now h.ring.lies (omega arith) (omega (arith, few, two_pages)) eight (inl (omega (arith, few))) between)

    next_names : NamesPages s l.ring (restart_sent l.restarts l.restarts.places) l.noted l.fields
    next_names = record {
      sure = h.names.sure;
      sure_is = h.names.sure_is;
      oldest = h.names.oldest;
      next = λ f yes_page e. ap (λ (r : Restart). r.oldest) (same_restart f next (sym e ∙ told)) ∙ names;
    }

    pub restart_put_well : (after : Store) → LogBecomes after store.log store.synced store.done store.sent store.place store.begun true true
        → (places : PagePlaces) × HoldsLog s (record l { restarts = restart_written l.restarts places; word = None }) after (restart_put s.place l.restarts next word disk)
    restart_put_well after b =
        let it = restart_is_sent s.place l.restarts l.fields disk word begun_restarts next told in
        let now = restart_put s.place l.restarts next word disk in (
          it.0,
          holds s (record l { restarts = restart_written l.restarts it.0; word = None }) after now store.log store.synced store.done store.sent store.place store.begun true true b
              (record {
                log_is = c.log_is;
                synced_is = c.synced_is;
                done_is = c.done_is;
                sent_is = c.sent_is;
                replaced_is = refl;
                restart = λ e. refl;
                renames = λ e. begun;
                low = c.low;
                notes = c.notes;
                high = λ e. high;
              }) (ring_stays now (record { durable = λ n. refl; written = λ n. inr refl })) it.1
              (record { sure = next_names.sure; sure_is = next_names.sure_is; oldest = next_names.oldest; next = λ f yes_page e. next_names.next f refl e }),
        )

    pub restart_put_badly : (after : Store) (now : Disk) → IsBetween disk (restart_put s.place l.restarts next word disk) now → LogBecomes after store.log store.synced store.done store.sent store.place store.begun true store.replaced
        → (places : PagePlaces) × HoldsLog s (record l { restarts = restart_sent l.restarts places }) after now
    restart_put_badly after now between b =
        let it = restart_not_sent s.place l.restarts l.fields disk word begun_restarts now next told between in (
          it.0,
          holds s (record l { restarts = restart_sent l.restarts it.0 }) after now store.log store.synced store.done store.sent store.place store.begun true store.replaced b
              (record {
                log_is = c.log_is;
                synced_is = c.synced_is;
                done_is = c.done_is;
                sent_is = c.sent_is;
                replaced_is = c.replaced_is;
                restart = λ e. refl;
                renames = λ e. begun;
                low = c.low;
                notes = c.notes;
                high = λ e. high;
              }) (ring_stays now between) (subst (λ (o : Option ℕ). HoldsRestarts s.place (restart_sent l.restarts it.0) o l.fields now) (sym is) it.1)
              (record { sure = next_names.sure; sure_is = next_names.sure_is; oldest = next_names.oldest; next = λ f yes_page e. next_names.next f refl e }),
        )
