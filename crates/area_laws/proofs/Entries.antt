-- Entries on a page, and one more behind them.
use Rattle.std.proofs.Common.{◌≡◌, ℕ, ◌+◌, ◌*◌, ◌/◌, ◌^◌, ◌<◌, ◌≤◌, List, [], ◌∷◌, ◌++◌, length, refl, ap, ◌∙◌, arith}
use Rattle.std.specs.List.{flat_map}
use Rattle.std.proofs.lemmas.List.{append-nil, length-append}
use Rattle.std.proofs.lemmas.Grind.{flat_map-append}
use Rattle.std.proofs.lemmas.Nat.{div-mul-add}
use Rattle.ring_laws.specs.log_model.declared.entry.Entry.{Entry}
use Rattle.ring_laws.specs.log_model.Entries.{entry_size, entry_spelling, FitsEntry}
use Rattle.ring_laws.proofs.log_model.EntrySpelled.{length-entry_spelling}
use Rattle.ring_laws.specs.log_page.Places.{page_bytes, entries_at, place_bits, lsn_at, lap_of}
use Rattle.ring_laws.specs.log_page.RecordPages.{lsn_of}
use Rattle.ring_laws.specs.log_page.PageSpellings.{end_lsn, entries_spelling, AreInPlace}
use Rattle.ring_laws.proofs.log_page.PlacesFit.{log_fits}
use Rattle.ring_laws.proofs.log_page.Readings.{size_some}

pub spelling-nil : entries_spelling [] ≡ []
unfolding entries_spelling
spelling-nil = refl

spelling-cons : (e : Entry) (entries : List Entry) → entries_spelling (e ∷ entries) ≡ entry_spelling e ++ entries_spelling entries
unfolding entries_spelling
spelling-cons e entries = refl

pub spelling-more : (entries : List Entry) (e : Entry) → entries_spelling (entries ++ e ∷ []) ≡ entries_spelling entries ++ entry_spelling e
unfolding entries_spelling
spelling-more entries e = flat_map-append entry_spelling entries (e ∷ []) ∙ ap (λ (x : List ℕ). flat_map entry_spelling entries ++ x) (append-nil (entry_spelling e))

pub spelling-one : (e : Entry) → entries_spelling (e ∷ []) ≡ entry_spelling e
unfolding entries_spelling
spelling-one e = append-nil (entry_spelling e)

pub length-more : (entries : List Entry) (e : Entry) → FitsEntry e → length (entries_spelling (entries ++ e ∷ [])) ≡ length (entries_spelling entries) + entry_size e
length-more entries e fits =
    ap length (spelling-more entries e) ∙ length-append (entries_spelling entries) (entry_spelling e) ∙ ap (λ (n : ℕ). length (entries_spelling entries) + n) (length-entry_spelling e fits)

pub length-one : (e : Entry) → FitsEntry e → length (entries_spelling (e ∷ [])) ≡ entry_size e
length-one e fits = ap length (spelling-one e) ∙ length-entry_spelling e fits

length-next : (e : Entry) (entries : List Entry) → FitsEntry e → length (entries_spelling (e ∷ entries)) ≡ entry_size e + length (entries_spelling entries)
length-next e entries fits =
    ap length (spelling-cons e entries) ∙ length-append (entry_spelling e) (entries_spelling entries) ∙ ap (λ (n : ℕ). n + length (entries_spelling entries)) (length-entry_spelling e fits)

pub placed-more : (first at : ℕ) (entries : List Entry) (e : Entry) → AreInPlace first at entries → FitsEntry e → e.lsn ≡ lsn_of first (at + length (entries_spelling entries))
    → at + length (entries_spelling entries) + entry_size e ≤ page_bytes → AreInPlace first at (entries ++ e ∷ [])
placed-more first at [] e placed fits own inside =
    let none = ap length spelling-nil in
    (fits, own ∙ ap (lsn_of first) (omega arith), omega arith)
placed-more first at (x ∷ xs) e (fits', own', rest) fits own inside =
    let size = length-next x xs fits' in
    (fits', own', placed-more first (at + entry_size x) xs e rest fits (own ∙ ap (lsn_of first) (omega arith)) (omega arith))

pub end-more : (lsn : ℕ) (entries : List Entry) (e : Entry) → end_lsn lsn (entries ++ e ∷ []) ≡ e.lsn
end-more lsn [] e = refl
end-more lsn (x ∷ xs) e = end-more x.lsn xs e

pub some-spelling : (first at : ℕ) (entries : List Entry) → 0 < length entries → AreInPlace first at entries → 0 < length (entries_spelling entries)
some-spelling first at [] some placed = absurd (omega arith)
some-spelling first at (x ∷ xs) some (fits, own, rest) =
    let size = length-next x xs fits in
    let has = size_some x in
    omega arith

pub length-some : {A : Type 0} (xs : List A) (x : A) → 0 < length (xs ++ x ∷ [])
length-some xs x = let two = length-append xs (x ∷ []) in omega arith

-- the LSN of an offset of a page, by that of its first entry
pub lsn_in_page : (pages lap page at : ℕ) → entries_at ≤ at → lsn_at pages lap (page_bytes * page + at) ≡ lsn_of (lsn_at pages lap (page_bytes * page + entries_at)) at
lsn_in_page pages lap page at le =
    let w = lap * 2 ^ place_bits pages in
    omega arith

pub lap_in_page : (pages lap page at : ℕ) → page_bytes * pages < 2 ^ 64 → page < pages → at < page_bytes → lap_of pages (lsn_at pages lap (page_bytes * page + at)) ≡ lap
lap_in_page pages lap page at small inside less =
    let fits = log_fits pages (omega arith) small in
    let w = 2 ^ place_bits pages in
    div-mul-add lap w ((page_bytes * page + at) / 8) (omega arith)
