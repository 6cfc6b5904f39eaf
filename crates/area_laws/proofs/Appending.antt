-- A ring stands with an entry more.
use Rattle.std.proofs.Common.{◌≡◌, ◌≢◌, ℕ, ◌+◌, ◌-◌, ◌*◌, ◌/◌, ◌%◌, ◌^◌, ◌<◌, ◌≤◌, Bool, true, cond, List, [], ◌∷◌, ◌++◌, length, drop, get_or, set, Option, Some, None, refl, sym, ap, ap₂, ◌∙◌, subst, inl, inr, arith}
use Rattle.std.proofs.lemmas.Bool.{cases_lt, eq-eqb, ne_eqb}
use Rattle.std.proofs.lemmas.List.{length-append, length-set, get_or_append_left, get_or-set_same, get_or-set_other}
use Rattle.std.proofs.Math.Seq.{get_or-append_seam}
use Rattle.log_area.specs.disk_model.Bytes.{written, zeros}
use Rattle.log_area.proofs.disk_model.Frames.{length-written}
use Rattle.log_area.specs.sector_device.Disks.{Disk}
use Rattle.ring_laws.specs.log_model.declared.entry.Entry.{Entry}
use Rattle.ring_laws.specs.log_model.Entries.{entry_size, entry_spelling, FitsEntry}
use Rattle.ring_laws.proofs.log_model.EntrySpelled.{length-zeros, length-entry_spelling}
use Rattle.ring_laws.specs.log_page.Places.{page_bytes, first_page, entries_at, sequence_bits, lsn_at, lap_of}
use Rattle.ring_laws.specs.log_page.RecordPages.{lsn_of}
use Rattle.ring_laws.specs.log_page.PageSpellings.{end_lsn, entries_spelling}
use Rattle.ring_laws.proofs.log_page.Readings.{size_some}
use Rattle.ring_laws.specs.store_model.Rings.{Ring}
use Rattle.ring_laws.specs.Numbers.{LogSession, ring_size, place_of_page, lap_of_page, lsn_of_page}
use Rattle.ring_laws.specs.RingPages.{fixed_to}
use Rattle.ring_laws.proofs.Numbering.{has_places, in_ring}
use Rattle.ring_laws.proofs.RingCalls.{grows}
use Rattle.ring_laws.proofs.RingFacts.{has_ring, log_small}
use Rattle.log_area.specs.Areas.{RingPageOf, LogAreaOf, IsLogArea, no_page, place_at, lap_at, number_lsn, is_filling, next_number, next_at, next_lsn, used_pages, held_page, page_with, appended}
use Rattle.log_area.proofs.Numbering.{place_inside}
use Rattle.area_laws.specs.Standing.{IsSessionOf, HoldsEntries, StandsRing, end_before, pages_with}
use Rattle.area_laws.proofs.Entries.{spelling-one, spelling-more, length-one, length-more, placed-more, end-more, length-some, lsn_in_page, lap_in_page}
use Rattle.area_laws.proofs.Filling.{drop_written, drop-zeros, over_zeros}
use Rattle.area_laws.proofs.Keeps.{IsPlaced, HasRoom, small_entry, is_placed, filling_then, append_keeps}

-- ---- LSNs

pub session_lsn : (s : LogSession) (a : LogAreaOf) (n at : ℕ) → IsSessionOf s a → number_lsn a n at ≡ lsn_at s.place.pages (lap_of_page s n) (page_bytes * place_of_page s n + at)
session_lsn s a n at own = ap₂ (λ (p : ℕ) (l : ℕ). lsn_at p (l + n / (p - 4)) (page_bytes * (first_page + n % (p - 4)) + at)) own.pages own.lap

-- ---- an entry on a page

module _ (s : LogSession) (n at : ℕ) (e : Entry) (lies : 4 < s.place.pages) (small : page_bytes * s.place.pages < 2 ^ 64) (fit : FitsEntry e)
    (is : e.lsn ≡ lsn_at s.place.pages (lap_of_page s n) (page_bytes * place_of_page s n + at)) (above : 0x40 ≤ at) (below : at + entry_size e ≤ 4096) where
  own : e.lsn ≡ lsn_of (lsn_of_page s n) at
  own = is ∙ lsn_in_page s.place.pages (lap_of_page s n) (place_of_page s n) at above

  same_lap : lap_of s.place.pages e.lsn ≡ lap_of s.place.pages (lsn_of_page s n)
  same_lap =
      let some = size_some e in
      let inside = in_ring s lies n in
      ap (lap_of s.place.pages) is ∙ lap_in_page s.place.pages (lap_of_page s n) (place_of_page s n) at small inside.inside (omega arith)
      ∙ sym (lap_in_page s.place.pages (lap_of_page s n) (place_of_page s n) entries_at small inside.inside (omega arith))

  pub first_entry : (p : RingPageOf) → at ≡ 0x40 → HoldsEntries s n (e ∷ []) (page_with e at p)
  first_entry p front =
      let one = length-one e fit in
      let spelled = length-entry_spelling e fit in
      let over : (page_with e at p).bytes ≡ written 0x40 (entry_spelling e) (zeros page_bytes)
      = ap₂ (λ (k : ℕ) (b : Bool). written k (entry_spelling e) (cond b (zeros page_bytes) p.bytes)) front (eq-eqb at entries_at front) in
      record {
        made = record {
          some = omega arith;
          placed = (fit, own ∙ ap (lsn_of (lsn_of_page s n)) front, omega arith);
          last = same_lap;
        };
        size = ap length over ∙ length-written 0x40 (entry_spelling e) (zeros page_bytes) ∙ length-zeros page_bytes;
        behind =
            ap (drop 0x40) over ∙ drop_written 0x40 0 0x40 (entry_spelling e) (zeros page_bytes) (omega arith)
            ∙ ap (written 0 (entry_spelling e)) (drop-zeros 0x40 page_bytes) ∙ over_zeros [] (entry_spelling e) 4032 (omega arith)
            ∙ ap₂ (λ (b : List ℕ) (k : ℕ). b ++ zeros k) (sym (spelling-one e)) (omega arith);
        free = omega arith;
        last = refl;
      }

  pub next_entry : (entries : List Entry) (p : RingPageOf) → HoldsEntries s n entries p → at ≡ p.free → 0x40 < at → HoldsEntries s n (entries ++ e ∷ []) (page_with e at p)
  next_entry entries p h here past =
      let old = entries_spelling entries in
      let more = length-more entries e fit in
      let spelled = length-entry_spelling e fit in
      let ends : at ≡ 0x40 + length old = here ∙ h.free in
      let over : (page_with e at p).bytes ≡ written at (entry_spelling e) p.bytes = ap (λ (b : Bool). written at (entry_spelling e) (cond b (zeros page_bytes) p.bytes)) (ne_eqb at entries_at (λ x. omega arith)) in
      record {
        made = record {
          some = length-some entries e;
          placed = placed-more (lsn_of_page s n) entries_at entries e h.made.placed fit (own ∙ ap (lsn_of (lsn_of_page s n)) ends) (omega arith);
          last = ap (lap_of s.place.pages) (end-more (lsn_of_page s n) entries e) ∙ same_lap;
        };
        size = ap length over ∙ length-written at (entry_spelling e) p.bytes ∙ h.size;
        behind =
            ap (drop 0x40) over ∙ drop_written 0x40 (length old) at (entry_spelling e) p.bytes ends
            ∙ ap (written (length old) (entry_spelling e)) h.behind ∙ over_zeros old (entry_spelling e) (page_bytes - entries_at - length old) (omega arith)
            ∙ ap₂ (λ (b : List ℕ) (k : ℕ). b ++ zeros k) (sym (spelling-more entries e)) (omega arith);
        free = omega arith;
        last = sym (end-more (lsn_of_page s n) entries e);
      }

-- ---- the ring

module _ (s : LogSession) (a : LogAreaOf) (r : Ring) (pages : List (List Entry)) (disk : Disk) (e : Entry) (h : StandsRing s a r pages disk)
    (fit : FitsEntry e) (is : e.lsn ≡ next_lsn a (entry_size e)) (lap : lap_at a (next_number a (entry_size e)) < 2 ^ sequence_bits a.pages) (p : IsPlaced a (entry_size e) (next_number a (entry_size e)) (next_at a (entry_size e))) where
  abbrev n : ℕ
  n = next_number a (entry_size e)

  abbrev at : ℕ
  at = next_at a (entry_size e)

  abbrev k : IsLogArea a
  k = h.area

  -- the others stay in memory
  other_page : (m : ℕ) → a.oldest ≤ m → m < n → held_page (appended e a) m ≡ held_page a m
  other_page m le lt =
      let size = h.session.pages in
      let room = p.room in
      let apart : place_of_page s m ≢ place_of_page s n = has_places s m n lt (omega arith) in
      get_or-set_other a.ring (place_at a n) (place_at a m) (page_with e at (held_page a n)) no_page (λ same. apart (ap (λ (x : ℕ). first_page + x) (as_places m n same)))
    where
      as_places : (i j : ℕ) → place_at a i ≡ place_at a j → i % ring_size s ≡ j % ring_size s
      as_places i j same = sym (ap (λ (t : ℕ). i % (t - 4)) h.session.pages) ∙ same ∙ ap (λ (t : ℕ). j % (t - 4)) h.session.pages

  own_page : held_page (appended e a) n ≡ page_with e at (held_page a n)
  own_page = get_or-set_same a.ring (place_at a n) (page_with e at (held_page a n)) no_page (slot_inside)
    where
      slot_inside : place_at a n < length a.ring
      slot_inside = place_inside a n (a.pages - 4) refl (let some = k.some in omega arith) k.places

  -- with pages that are those of before below this one, which has these entries
  module _ (more : List (List Entry)) (same : (i : ℕ) → i < n - a.oldest → get_or more i [] ≡ get_or pages i []) (counted : length more ≡ n - a.oldest + 1)
      (low : n ≤ a.oldest + used_pages a) (holds : HoldsEntries s n (get_or more (n - a.oldest) []) (page_with e at (held_page a n))) where
    used_then : used_pages (appended e a) ≡ n - a.oldest + 1
    used_then = ap (λ (b : Bool). n - a.oldest + cond b 1 0) (filling_then a e p.above)

    ends_same : (m : ℕ) → a.oldest < m → m ≤ n → end_before s a.oldest pages m ≡ end_before s a.oldest more m
    ends_same m lt le = ap (λ (es : List Entry). 1 + end_lsn (lsn_of_page s (m - 1)) es) (sym (same (m - 1 - a.oldest) (omega arith)))

    held_then : (m : ℕ) → a.done ≤ m → m < a.oldest + used_pages (appended e a) → HoldsEntries s m (get_or more (m - a.oldest) []) (held_page (appended e a) m)
    held_then m le lt =
        let used = used_then in
        let first = k.durable_pages in
        let second = k.written_pages in
        elim (cases_lt m n) [
          | inl before ↦
              subst (λ (q : RingPageOf). HoldsEntries s m (get_or more (m - a.oldest) []) q) (sym (other_page m (omega arith) before))
              (subst (λ (es : List Entry). HoldsEntries s m es (held_page a m)) (sym (same (m - a.oldest) (omega arith))) (h.held m le (omega arith)))
          | inr behind ↦
              let here : n ≡ m = omega arith in
              subst (λ (j : ℕ). HoldsEntries s j (get_or more (j - a.oldest) []) (held_page (appended e a) j)) here
              (subst (λ (q : RingPageOf). HoldsEntries s n (get_or more (n - a.oldest) []) q) (sym own_page) holds)
        ]

    kept_below : (i : ℕ) → i < fixed_to r a.check - r.oldest → get_or more i [] ≡ get_or pages i []
    kept_below i lt = same i (omega (arith, lt, kept_to a.check refl, h.oldest))
      where
        kept_to : (c : Option ℕ) → a.check ≡ c → fixed_to r c ≤ n
        kept_to (Some w) c = omega (arith, h.begun w c, p.from, h.done)
        kept_to None c = omega (arith, h.ring.unbegun c, h.done, k.sealed_pages, p.from)

    pub stands_then : StandsRing s (appended e a) r more disk
    stands_then = record {
      area = append_keeps a e k lap p;
      session = record { pages = h.session.pages; lap = h.session.lap; firsts = h.session.firsts };
      ring = grows s r a.check pages disk h.ring more kept_below;
      oldest = h.oldest;
      synced = h.synced;
      done = h.done;
      counted = counted ∙ sym used_then;
      held = held_then;
      free = λ filling. sym (ap (λ (q : RingPageOf). q.free) own_page);
      begun = λ w c. omega (arith, h.begun w c, p.from);
      reached = λ lt. h.reached lt ∙ ends_same a.done lt (omega (arith, k.sealed_pages, p.from));
      durable = λ lt. h.durable lt ∙ ends_same a.synced lt (omega (arith, k.written_pages, k.sealed_pages, p.from));
    }

  here : e.lsn ≡ lsn_at s.place.pages (lap_of_page s n) (page_bytes * place_of_page s n + at)
  here = is ∙ session_lsn s a n at h.session

  -- a page is begun
  begins_page : at ≡ 0x40 → n ≡ a.oldest + used_pages a → StandsRing s (appended e a) r (pages ++ (e ∷ []) ∷ []) disk
  begins_page front number =
      let count = h.counted in
      let at_last : n - a.oldest ≡ length pages = omega arith in
      let last : get_or (pages ++ (e ∷ []) ∷ []) (n - a.oldest) [] ≡ e ∷ [] = ap (λ (i : ℕ). get_or (pages ++ (e ∷ []) ∷ []) i []) at_last ∙ get_or-append_seam pages (e ∷ []) [] [] in
      stands_then (pages ++ (e ∷ []) ∷ []) (λ i lt. get_or_append_left pages ((e ∷ []) ∷ []) [] i (omega arith)) (length-append pages ((e ∷ []) ∷ []) ∙ omega arith) (omega arith)
      (subst (λ (es : List Entry). HoldsEntries s n es (page_with e at (held_page a n))) (sym last)
      (first_entry s n at e (has_ring s.place h.ring.lies) (log_small s.place h.ring.lies) fit here p.above p.below (held_page a n) front))

  -- a page goes on
  fills_page : 0x40 < at → at ≡ a.free → n ≡ a.sealed → is_filling a ≡ true → used_pages a ≡ a.sealed - a.oldest + 1
      → StandsRing s (appended e a) r (set pages (a.sealed - a.oldest) (get_or pages (a.sealed - a.oldest) [] ++ e ∷ [])) disk
  fills_page past free number filling used =
      let count = h.counted in
      let i = a.sealed - a.oldest in
      let es = get_or pages i [] in
      let first = k.durable_pages in
      let second = k.written_pages in
      let third = k.sealed_pages in
      let at_end : get_or (set pages i (es ++ e ∷ [])) (n - a.oldest) [] ≡ get_or pages (n - a.oldest) [] ++ e ∷ []
      = ap (λ (j : ℕ). get_or (set pages i (es ++ e ∷ [])) (j - a.oldest) []) number ∙ get_or-set_same pages i (es ++ e ∷ []) [] (omega arith) ∙ ap (λ (j : ℕ). get_or pages (j - a.oldest) [] ++ e ∷ []) (sym number) in
      let old = h.held n (omega (arith, k.sealed_pages)) (omega (arith, k.durable_pages, k.written_pages, k.sealed_pages)) in
      let free_is : at ≡ (held_page a n).free = free ∙ h.free filling ∙ ap (λ (j : ℕ). (held_page a j).free) (sym number) in
      stands_then (set pages i (es ++ e ∷ [])) (λ j lt. get_or-set_other pages i j (es ++ e ∷ []) [] (λ x. omega arith)) (length-set pages i (es ++ e ∷ []) ∙ omega arith) (omega (arith, k.durable_pages, k.written_pages, k.sealed_pages))
      (subst (λ (xs : List Entry). HoldsEntries s n xs (page_with e at (held_page a n))) (sym at_end)
      (next_entry s n at e (has_ring s.place h.ring.lies) (log_small s.place h.ring.lies) fit here p.above p.below (get_or pages (n - a.oldest) []) (held_page a n) old free_is past))

  pub stands_with : StandsRing s (appended e a) r (pages_with e a pages) disk
  stands_with = elim p.where_is [
    | inl (front, number) ↦ subst (λ (more : List (List Entry)). StandsRing s (appended e a) r more disk) (sym (ap (λ (b : Bool). cond b (pages ++ (e ∷ []) ∷ []) (set pages (a.sealed - a.oldest) (get_or pages (a.sealed - a.oldest) [] ++ e ∷ []))) (eq-eqb at entries_at front))) (begins_page front number)
    | inr (past, free, number, filling, used) ↦ subst (λ (more : List (List Entry)). StandsRing s (appended e a) r more disk) (sym (ap (λ (b : Bool). cond b (pages ++ (e ∷ []) ∷ []) (set pages (a.sealed - a.oldest) (get_or pages (a.sealed - a.oldest) [] ++ e ∷ []))) (ne_eqb at entries_at (λ x. omega arith)))) (fills_page past free number filling used)
  ]

pub ring_appends : (s : LogSession) (a : LogAreaOf) (r : Ring) (pages : List (List Entry)) (disk : Disk) (e : Entry) → StandsRing s a r pages disk → FitsEntry e → e.lsn ≡ next_lsn a (entry_size e)
    → lap_at a (next_number a (entry_size e)) < 2 ^ sequence_bits a.pages → HasRoom a (entry_size e) → StandsRing s (appended e a) r (pages_with e a pages) disk
ring_appends s a r pages disk e h fit is lap room =
    let some = size_some e in
    stands_with s a r pages disk e h fit is lap (is_placed a (entry_size e) h.area (small_entry e fit) (omega arith) room)
