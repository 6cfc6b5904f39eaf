-- The entries of a page, one after the other.
use Rattle.std.proofs.Common.{◌≡◌, ℕ, zero, suc, ◌+◌, ◌-◌, ◌≤◌, true, false, List, [], ◌∷◌, ◌++◌, length, take, Option, Some, None, refl, sym, ap, ◌∙◌, subst, append_assoc, arith}
use Rattle.std.specs.Prelude.{All, IfSome}
use Rattle.std.proofs.lemmas.List.{append-nil, length-take, length-drop}
use Rattle.std.proofs.lemmas.List.Elements.{All-push}
use Rattle.log_record.specs.log_model.declared.entry.Entry.{Entry}
use Rattle.log_record.specs.log_model.declared.entry.Act.{Act}
use Rattle.log_record.specs.log_model.declared.entry.Act.TheVariants.{Update, Commit}
use Rattle.log_record.specs.log_model.Entries.{act_size, entry_size, FitsEntry}
use Rattle.log_page.specs.RecordPages.{Reading, no_reading, foreign_here, entry_or_foreign, lsn_of, bytes_from, entry_in, goes_on, entries_from, AppendsFront}

-- a reading with entries that were read before
abbrev pub with_front : List Entry → Reading → Reading
with_front front r = record { entries = front ++ r.entries; foreign = r.foreign }

act_some : (a : Act) → 0x58 ≤ act_size a
act_some (Update first kind at redo undo) = omega arith
act_some Commit = omega arith

pub size_some : (e : Entry) → 0x58 ≤ entry_size e
size_some e = act_some e.act

-- an entry whose bytes are those up to the first free one ends in the page
pub ends_inside : (page : List ℕ) (at : ℕ) (e : Entry) → length page ≡ 4096 → entry_size e ≤ length (bytes_from page at) → at + entry_size e ≤ 4096
ends_inside page at e size le =
    let some = size_some e in
    let n = entry_size e in
    omega (arith, length-drop {A = ℕ}, length-take {A = ℕ})

pub found_inside : (o : Option Entry) (e : Entry) (at : ℕ) → o ≡ Some e → IfSome o (λ e. at + entry_size e ≤ 4096) → at + entry_size e ≤ 4096
found_inside None e at is le = absurd cc
found_inside (Some x) e at is le = let same : x ≡ e = cc in subst (λ (y : Entry). at + entry_size y ≤ 4096) same le

-- an entry that has a spelling goes with those that have
pub one_more_fits : (o : Option Entry) (e : Entry) (entries grown : List Entry) → o ≡ Some e → IfSome o FitsEntry → grown ≡ entries ++ e ∷ [] → All FitsEntry entries → All FitsEntry grown
one_more_fits None e entries grown is fits made all = absurd cc
one_more_fits (Some x) e entries grown is fits made all =
    let same : x ≡ e = cc in
    subst (All FitsEntry) (sym made) (All-push FitsEntry entries e all (subst FitsEntry same fits))

-- ---- one step

pub step : (most : ℕ) (page : List ℕ) (first at : ℕ) → goes_on page at ≡ true → entries_from (suc most) page first at ≡ entry_or_foreign (entry_in page first at) (lsn_of first at) (λ e. entries_from most page first (at + entry_size e))
unfolding entries_from
step most page first at more = rw more refl

pub stop : (most : ℕ) (page : List ℕ) (first at : ℕ) → goes_on page at ≡ false → entries_from most page first at ≡ no_reading
unfolding entries_from
stop zero page first at less = refl
stop (suc most) page first at less = rw less refl

pub one_more : (fuel most : ℕ) (page : List ℕ) (first at next : ℕ) (front front' : List Entry) (e : Entry) (whole : Reading)
    → fuel ≡ suc most → goes_on page at ≡ true → Some e ≡ entry_in page first at → next ≡ at + entry_size e → front' ≡ front ++ e ∷ []
    → with_front front (entries_from fuel page first at) ≡ whole → with_front front' (entries_from most page first next) ≡ whole
one_more fuel most page first at next front front' e whole count more here after grown read =
    let rest = entries_from most page first (at + entry_size e) in
    ap (λ (x : ℕ). with_front front' (entries_from most page first x)) after
    ∙ ap (λ (l : List Entry). with_front l rest) grown
    ∙ ap (λ (l : List Entry). reading l rest.foreign) (append_assoc front (e ∷ []) rest.entries)
    ∙ ap (with_front front) (sym (ap (λ (o : Option Entry). entry_or_foreign o (lsn_of first at) (λ e. entries_from most page first (at + entry_size e))) (sym here)))
    ∙ ap (with_front front) (sym (step most page first at more))
    ∙ ap (λ (k : ℕ). with_front front (entries_from k page first at)) (sym count)
    ∙ read
  where
    reading : List Entry → Option ℕ → Reading
    reading entries foreign = record { entries = entries; foreign = foreign }

-- an entry of another shape ends the reading
pub ends_foreign : (fuel most : ℕ) (page : List ℕ) (first at : ℕ) (front old : List Entry) (whole : Reading)
    → fuel ≡ suc most → goes_on page at ≡ true → None ≡ entry_in page first at → with_front front (entries_from fuel page first at) ≡ with_front old whole
    → (whole.foreign ≡ Some (lsn_of first at)) × (front ≡ old ++ whole.entries)
ends_foreign fuel most page first at front old whole count more here read =
    let is : entries_from fuel page first at ≡ foreign_here (lsn_of first at) =
    ap (λ (k : ℕ). entries_from k page first at) count ∙ step most page first at more ∙ ap (λ (o : Option Entry). entry_or_foreign o (lsn_of first at) (λ e. entries_from most page first (at + entry_size e))) (sym here) in
    let same : with_front old whole ≡ with_front front (foreign_here (lsn_of first at)) = sym read ∙ ap (with_front front) is in
    (ap (λ (r : Reading). r.foreign) same, sym (append-nil front) ∙ sym (ap (λ (r : Reading). r.entries) same))

-- and so does the first free byte
pub ends_free : (fuel : ℕ) (page : List ℕ) (first at : ℕ) (front old : List Entry) (whole : Reading)
    → goes_on page at ≡ false → with_front front (entries_from fuel page first at) ≡ with_front old whole → (whole.foreign ≡ None) × (front ≡ old ++ whole.entries)
ends_free fuel page first at front old whole less read =
    let same : with_front old whole ≡ with_front front no_reading = sym read ∙ ap (with_front front) (stop fuel page first at less) in
    (ap (λ (r : Reading). r.foreign) same, sym (append-nil front) ∙ sym (ap (λ (r : Reading). r.entries) same))

take_front : (front rest : List Entry) → take (length front) (front ++ rest) ≡ front
take_front [] rest = refl
take_front (x ∷ front) rest = ap (λ l. x ∷ l) (take_front front rest)

-- of two lists that go on to the same one, the longer one is the shorter one with a front of what follows that
longer_front : (old front rest entries : List Entry) → front ++ rest ≡ old ++ entries → length old ≤ length front → front ≡ old ++ take (length front - length old) entries
longer_front [] front rest entries same le =
    let all : length front - 0 ≡ length front = omega arith in
    sym (ap (λ (k : ℕ). take k entries) all ∙ ap (take (length front)) (sym same) ∙ take_front front rest)
longer_front (x ∷ old) [] rest entries same le = absurd (omega arith)
longer_front (x ∷ old) (y ∷ front) rest entries same le =
    let first : y ≡ x = cc in
    let behind : front ++ rest ≡ old ++ entries = cc in
    let fewer : length old ≤ length front = omega arith in
    let left : length (y ∷ front) - length (x ∷ old) ≡ length front - length old = omega arith in
    ap (λ (z : Entry). z ∷ front) first ∙ ap (λ l. x ∷ l) (longer_front old front rest entries behind fewer) ∙ ap (λ (k : ℕ). x ∷ (old ++ take k entries)) (sym left)

-- wherever it is left, a front of the entries was read
pub left_early : (rest : Reading) (front old : List Entry) (whole : Reading) → length old ≤ length front → with_front front rest ≡ with_front old whole → AppendsFront whole.entries old front
left_early rest front old whole le read = (length front - length old, longer_front old front rest.entries whole.entries (ap (λ (r : Reading). r.entries) read) le)
