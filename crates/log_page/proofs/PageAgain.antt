-- A spelled record page is read again.
use Rattle.std.proofs.Common.{◌≡◌, ℕ, zero, suc, ◌+◌, ◌-◌, ◌<◌, ◌≤◌, ◌^◌, Bool, true, cond, eqb, ltb, nat_eq, List, [], ◌∷◌, ◌++◌, length, take, drop, slice_index, Option, Some, None, Result, Ok, Err, refl, sym, ap, ◌∙◌, inl, inr, arith}
use Rattle.std.specs.Prelude.{is_ok}
use Rattle.std.specs.List.{starts_with}
use Rattle.std.specs.Cmp.Lexicographic.{pointwise}
use Rattle.std.proofs.lemmas.Bool.{and_from, or_right, or_from, eq-eqb, ne_eqb, lt-ltb, le-ltb}
use Rattle.std.proofs.lemmas.List.{length-append, drop-drop, drop-take, drop_at, take_at}
use Rattle.disk_model.specs.Numbers.{field, spell}
use Rattle.disk_model.specs.Bytes.{part, zeros}
use Rattle.disk_model.specs.Fixups.{array_at, array_count, is_in_shape, restored}
use Rattle.disk_model.proofs.Fields.{field_same, field-append, field-append_right}
use Rattle.disk_model.proofs.Protection.{shape_from, not_in_array, length-restored}
use Rattle.fixup_record.specs.Protecting.{protected_bytes}
use Rattle.fixup_record.specs.ProtectLaws.{IsUndone}
use Rattle.fixup_record.proofs.Protected.{undone, stays, length-protected}
use Rattle.log_record.specs.log_model.declared.entry.Entry.{Entry}
use Rattle.log_record.specs.log_model.Entries.{entry_at, entry_size, entry_spelling, FitsEntry}
use Rattle.log_record.proofs.log_model.EntrySpelled.{length-zeros, length-entry_spelling, spelled_table, spelled_read}
use Rattle.log_page.specs.declared.fault.PageFault.{PageFault}
use Rattle.log_page.specs.declared.fault.PageFault.TheVariants.{NotWhole}
use Rattle.log_page.specs.Places.{page_bytes, entries_at, lap_of, page_lsn}
use Rattle.log_page.specs.RecordPages.{Reading, record_signature, first_lsn, last_lsn, free_at, is_whole_page, lsn_of, bytes_from, entry_in, goes_on, entry_before, entry_or_foreign, entries_from, page_reading, all_or_foreign, page_entries}
use Rattle.log_page.specs.LiveLogs.{said_lsn}
use Rattle.log_page.specs.PageSpellings.{end_lsn, entries_spelling, page_front, page_spelling, AreInPlace, MakePage, IsPageAgain}
use Rattle.log_page.proofs.Spelled.{field_here}
use Rattle.log_page.proofs.ReadAgain.{part_same}
use Rattle.log_page.proofs.Readings.{size_some, step, stop}

-- ---- entries one behind the other

spelling-nil : entries_spelling [] ≡ []
unfolding entries_spelling
spelling-nil = refl

spelling-cons : (e : Entry) (entries : List Entry) → entries_spelling (e ∷ entries) ≡ entry_spelling e ++ entries_spelling entries
unfolding entries_spelling
spelling-cons e entries = refl

-- the first entry's bytes, and then those of the others
length-cons : (e : Entry) (entries : List Entry) → FitsEntry e → length (entries_spelling (e ∷ entries)) ≡ entry_size e + length (entries_spelling entries)
length-cons e entries fits =
    ap length (spelling-cons e entries) ∙ length-append (entry_spelling e) (entries_spelling entries) ∙ ap (λ (n : ℕ). n + length (entries_spelling entries)) (length-entry_spelling e fits)

end_inside : (first at : ℕ) (entries : List Entry) → AreInPlace first at entries → at + length (entries_spelling entries) ≤ page_bytes
end_inside first at [] last = let none = ap length spelling-nil in omega arith
end_inside first at (e ∷ entries) (fits, own, more) =
    let rest = end_inside first (at + entry_size e) entries more in
    let size = length-cons e entries fits in
    omega arith

few_entries : (first at : ℕ) (entries : List Entry) → AreInPlace first at entries → length entries ≤ length (entries_spelling entries)
few_entries first at [] last = omega arith
few_entries first at (e ∷ entries) (fits, own, more) =
    let rest = few_entries first (at + entry_size e) entries more in
    let size = length-cons e entries fits in
    let some = size_some e in
    omega arith

end_small : (lsn first at : ℕ) (entries : List Entry) → lsn < 2 ^ 64 → AreInPlace first at entries → end_lsn lsn entries < 2 ^ 64
end_small lsn first at [] small last = small
end_small lsn first at (e ∷ entries) small (fits, own, more) = end_small e.lsn first (at + entry_size e) entries fits.lsn more

-- ---- read one after the other

abbrev whole_reading : List Entry → Reading
whole_reading entries = record { entries = entries; foreign = None }

entry_here : (page more : List ℕ) (first at : ℕ) (e : Entry) → bytes_from page at ≡ entry_spelling e ++ more → FitsEntry e → e.lsn ≡ lsn_of first at → entry_in page first at ≡ Some e
unfolding entry_in
entry_here page more first at e is fits own =
    let read : entry_at (bytes_from page at) ≡ Ok e = ap entry_at is ∙ spelled_read e more fits in
    rw read (ap (λ (b : Bool). cond b (Some e) None) (eq-eqb e.lsn (lsn_of first at) own))

next_bytes : (page more : List ℕ) (at : ℕ) (e : Entry) → FitsEntry e → bytes_from page at ≡ entry_spelling e ++ more → bytes_from page (at + entry_size e) ≡ more
next_bytes page more at e fits is =
    sym (drop-drop (entry_size e) at (take (free_at page) page)) ∙ ap (drop (entry_size e)) is ∙ drop_at (entry_spelling e) more (entry_size e) (length-entry_spelling e fits)

reads : (most : ℕ) (page : List ℕ) (first at : ℕ) (entries : List Entry) → length entries < most → AreInPlace first at entries → bytes_from page at ≡ entries_spelling entries
    → at + length (entries_spelling entries) ≡ free_at page → 0x40 < at + length entries → entries_from most page first at ≡ whole_reading entries
reads zero page first at entries few placed bytes ends past = absurd (omega arith)
reads (suc most) page first at [] few placed bytes ends past =
    let none = ap length spelling-nil in
    stop (suc most) page first at (or_from (eqb at entries_at) (ltb at (free_at page)) (ne_eqb at entries_at (λ e. omega arith)) (le-ltb at (free_at page) (omega arith)))
reads (suc most) page first at (e ∷ entries) few (fits, own, more) bytes ends past =
    let size = length-cons e entries fits in
    let some = size_some e in
    let here : bytes_from page at ≡ entry_spelling e ++ entries_spelling entries = bytes ∙ spelling-cons e entries in
    let goes : goes_on page at ≡ true = or_right (eqb at entries_at) (ltb at (free_at page)) (lt-ltb at (free_at page) (omega arith)) in
    step most page first at goes
    ∙ ap (λ (o : Option Entry). entry_or_foreign o (lsn_of first at) (λ x. entries_from most page first (at + entry_size x))) (entry_here page (entries_spelling entries) first at e here fits own)
    ∙ ap (entry_before e) (reads most page first (at + entry_size e) entries (omega arith) more (next_bytes page (entries_spelling entries) at e fits here) (omega arith) (omega arith))

-- ---- the bytes before the entries

length-page_front : (last free : ℕ) → length (page_front last free) ≡ 0x40
unfolding page_front zeros spell
length-page_front last free = refl

module _ (last free : ℕ) where
  abbrev f : List ℕ
  f = page_front last free

  array_is : field 0x04 2 f ≡ 0x28
  unfolding page_front zeros spell
  array_is = field_here 0x04 2 0x28 f (drop 0x06 f) refl (omega arith)

  count_is : field 0x06 2 f ≡ 9
  unfolding page_front zeros spell
  count_is = field_here 0x06 2 9 f (drop 0x08 f) refl (omega arith)

  last_is : last < 2 ^ 64 → field 0x08 8 f ≡ last
  unfolding page_front zeros spell
  last_is small = field_here 0x08 8 last f (drop 0x10 f) refl small

  free_is : free < 2 ^ 16 → field 0x18 2 f ≡ free
  unfolding page_front zeros spell
  free_is small = field_here 0x18 2 free f (drop 0x1A f) refl small

  signature_is : (rest : List ℕ) → take 4 (page_front last free ++ rest) ≡ record_signature
  unfolding page_front zeros spell
  signature_is rest = refl

-- ---- a page of an entry and others

module _ (pages lap page : ℕ) (e : Entry) (others : List Entry) (m : MakePage pages lap page (e ∷ others)) where
  abbrev first : ℕ
  first = page_lsn pages lap page

  abbrev bytes : List ℕ
  bytes = entries_spelling (e ∷ others)

  abbrev free : ℕ
  free = entries_at + length (entries_spelling (e ∷ others))

  abbrev last : ℕ
  last = end_lsn (page_lsn pages lap page) (e ∷ others)

  abbrev behind : List ℕ
  behind = bytes ++ zeros (page_bytes - entries_at - length bytes)

  abbrev s : List ℕ
  s = page_spelling pages lap page (e ∷ others)

  s_is : s ≡ page_front last free ++ behind
  unfolding page_spelling
  s_is = refl

  fits : FitsEntry e
  fits = m.placed.0

  own : e.lsn ≡ first
  own = m.placed.1 ∙ omega arith

  last_small : last < 2 ^ 64
  last_small = end_small e.lsn first (entries_at + entry_size e) others fits.lsn m.placed.2

  room : free ≤ 4096
  room = end_inside first entries_at (e ∷ others) m.placed

  length-s : length s ≡ 4096
  length-s =
      let fit = room in
      let front = length-page_front last free in
      let blank = length-zeros (page_bytes - entries_at - length bytes) in
      let two = length-append bytes (zeros (page_bytes - entries_at - length bytes)) in
      ap length s_is ∙ length-append (page_front last free) behind ∙ omega arith

  head_is : (at n value : ℕ) → at + n ≤ 0x40 → field at n (page_front last free) ≡ value → field at n s ≡ value
  head_is at n value le is =
      let front = length-page_front last free in
      ap (field at n) s_is ∙ field-append at n (page_front last free) behind (omega arith) ∙ is

  at_28 : array_at s ≡ 0x28
  at_28 = head_is 0x04 2 0x28 (omega arith) (array_is last free)

  has_9 : array_count s ≡ 9
  has_9 = head_is 0x06 2 9 (omega arith) (count_is last free)

  shaped : is_in_shape s ≡ true
  shaped =
      let size = length-s in
      let at = at_28 in
      let count = has_9 in
      shape_from s (omega arith) (omega arith) (omega arith)

  drop_front : drop 0x40 s ≡ behind
  drop_front = ap (drop 0x40) s_is ∙ drop_at (page_front last free) behind 0x40 (length-page_front last free)

  first_field : field 0x40 8 s ≡ first
  first_field =
      let size = length-cons e others fits in
      let one = length-entry_spelling e fits in
      let some = size_some e in
      ap (field 0x40 8) s_is ∙ field-append_right 0x40 8 0x40 (page_front last free) behind (length-page_front last free) (omega arith)
      ∙ field-append 0 8 bytes (zeros (page_bytes - entries_at - length bytes)) (omega arith)
      ∙ ap (field 0 8) (spelling-cons e others) ∙ field-append 0 8 (entry_spelling e) (entries_spelling others) (omega arith)
      ∙ (spelled_table e fits).lsn ∙ own

  bytes_here : part 0x40 (length bytes) s ≡ bytes
  bytes_here = ap (take (length bytes)) drop_front ∙ take_at bytes (zeros (page_bytes - entries_at - length bytes)) (length bytes) refl

  -- ---- protected

  module _ (check : ℕ) (small : check < 2 ^ 16) where
    abbrev raw : List ℕ
    raw = protected_bytes s check

    abbrev back : List ℕ
    back = restored raw

    it : IsUndone s check
    it =
        let size = length-s in
        let at = at_28 in
        undone s check (omega arith) (omega arith) shaped (inr (omega arith)) small

    length-raw : length raw ≡ 4096
    length-raw = length-protected s check ∙ length-s

    length-back : length back ≡ 4096
    length-back = length-restored raw ∙ length-raw

    before_is : (i : ℕ) → i < 0x28 → slice_index back i ≡ slice_index s i
    before_is i lt = let at = at_28 in it.others i (not_in_array s i (inl (omega arith)))

    after_is : (i : ℕ) → 0x3A ≤ i → slice_index back i ≡ slice_index s i
    after_is i le =
        let at = at_28 in
        let size = length-s in
        it.others i (not_in_array s i (inr (omega arith)))

    raw_is : (i : ℕ) → i < 0x28 → slice_index raw i ≡ slice_index s i
    raw_is i lt =
        let at = at_28 in
        let size = length-s in
        stays s check i (omega arith) (omega arith) (not_in_array s i (inl (omega arith)))

    begins : (xs : List ℕ) → length xs ≡ 4096 → ((i : ℕ) → i < 0x28 → slice_index xs i ≡ slice_index s i) → starts_with nat_eq xs record_signature ≡ true
    begins xs size same =
        let whole = length-s in
        let here : take 4 xs ≡ record_signature = part_same 0 4 xs s (omega arith) (omega arith) (λ k lt. same (0 + k) (omega arith)) ∙ ap (take 4) s_is ∙ signature_is last free behind in
        ap (pointwise nat_eq record_signature) here

    last_back : last_lsn back ≡ last
    last_back = field_same 0x08 0x08 8 back s (λ k lt. before_is (0x08 + k) (omega arith)) ∙ head_is 0x08 8 last (omega arith) (last_is last free last_small)

    free_back : free_at back ≡ free
    free_back = let fit = room in field_same 0x18 0x18 2 back s (λ k lt. before_is (0x18 + k) (omega arith)) ∙ head_is 0x18 2 free (omega arith) (free_is last free (omega arith))

    first_back : first_lsn back ≡ first
    first_back = field_same 0x40 0x40 8 back s (λ k lt. after_is (0x40 + k) (omega arith)) ∙ first_field

    whole : is_whole_page pages raw first ≡ true
    unfolding is_whole_page
    whole =
        let lap_back : lap_of pages (last_lsn back) ≡ lap_of pages first = ap (lap_of pages) last_back ∙ m.last in
        and_from _ _ (ap is_ok it.answer) (and_from _ _ (and_from _ _ (begins back length-back before_is) (eq-eqb _ _ first_back)) (eq-eqb _ _ lap_back))

    bytes_back : bytes_from back entries_at ≡ bytes
    bytes_back =
        let fit = room in
        let size = length-s in
        let size' = length-back in
        ap (λ (n : ℕ). drop entries_at (take n back)) free_back ∙ drop-take 0x40 (length bytes) back
        ∙ part_same 0x40 (length bytes) back s (omega arith) (omega arith) (λ k lt. after_is (0x40 + k) (omega arith)) ∙ bytes_here

    reading : page_reading raw first entries_at ≡ whole_reading (e ∷ others)
    unfolding page_reading
    reading =
        let fit = room in
        let size = length-raw in
        let few = few_entries first entries_at (e ∷ others) m.placed in
        let some : 0 < length (e ∷ others) = m.some in
        reads (length raw) back first entries_at (e ∷ others) (omega arith) m.placed bytes_back (sym free_back) (omega arith)

    gives : page_entries pages raw first ≡ Ok (e ∷ others)
    unfolding page_entries
    gives = ap (λ (b : Bool). answered b (page_reading raw first entries_at)) whole ∙ ap all_or_foreign reading
      where
        answered : Bool → Reading → Result (List Entry) PageFault
        answered b r = cond b (all_or_foreign r) (Err NotWhole)

    says : said_lsn raw ≡ Some last
    says =
        ap (λ (b : Bool). cond b (Some (field 0x08 8 raw)) None) (begins raw length-raw raw_is)
        ∙ ap Some (field_same 0x08 0x08 8 raw s (λ k lt. raw_is (0x08 + k) (omega arith)) ∙ head_is 0x08 8 last (omega arith) (last_is last free last_small))

-- ---- any page

pub page_size : (pages lap page : ℕ) (entries : List Entry) → MakePage pages lap page entries → length (page_spelling pages lap page entries) ≡ page_bytes
page_size pages lap page [] m = absurd (omega (arith, m.some))
page_size pages lap page (e ∷ others) m = length-s pages lap page e others m

pub page_shape : (pages lap page : ℕ) (entries : List Entry) → MakePage pages lap page entries → is_in_shape (page_spelling pages lap page entries) ≡ true
page_shape pages lap page [] m = absurd (omega (arith, m.some))
page_shape pages lap page (e ∷ others) m = shaped pages lap page e others m

pub page_again : (pages lap page : ℕ) (entries : List Entry) (check : ℕ) → MakePage pages lap page entries → check < 2 ^ 16 → IsPageAgain pages lap page entries (protected_bytes (page_spelling pages lap page entries) check)
page_again pages lap page [] check m small = absurd (omega (arith, m.some))
page_again pages lap page (e ∷ others) check m small = record {
  whole = whole pages lap page e others m check small;
  reading = reading pages lap page e others m check small;
  gives = gives pages lap page e others m check small;
  says = says pages lap page e others m check small;
}
