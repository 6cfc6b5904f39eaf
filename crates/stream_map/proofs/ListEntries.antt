-- The entries of a list, one step at a time.
use Rattle.std.proofs.Common.{◌≡◌, ℕ, zero, suc, ◌+◌, ◌<◌, ◌≤◌, Bool, true, false, leb, List, [], length, take, drop, refl, sym, ap, ◌∙◌, inl, inr, arith}
use Rattle.std.proofs.lemmas.Bool.{le-leb, lt-leb, cases_Bool, cases_lt}
use Rattle.std.proofs.lemmas.List.{length-drop}
use Rattle.disk_model.specs.Numbers.{field}
use Rattle.record_model.specs.ListEntries.{has_entry, entry_of, ReadEntries, with_entry, entries_from, list_entries}
use Rattle.stream_map.proofs.ListFronts.{own_entry}

-- the rest of a list behind its first entry
abbrev pub behind_first : List ℕ → List ℕ
behind_first bytes = drop (field 0x04 2 bytes) bytes

abbrev pub own_bytes : List ℕ → List ℕ
own_bytes bytes = take (field 0x04 2 bytes) bytes

-- ---- one step, whatever the fuel

abbrev chosen : Bool → Bool → ReadEntries → ReadEntries
chosen none lawful more =
    elim none [
      | true ↦ record { entries = []; whole = true }
      | false ↦ elim lawful [
        | true ↦ more
        | false ↦ record { entries = []; whole = false }
      ]
    ]

from_more : (most : ℕ) (bytes : List ℕ) → entries_from (suc most) bytes ≡ chosen (leb (length bytes) 0) (has_entry bytes) (with_entry (entry_of (own_bytes bytes)) (entries_from most (behind_first bytes)))
unfolding entries_from
from_more most bytes = refl

from_none : (most : ℕ) (bytes : List ℕ) → length bytes ≡ 0 → entries_from most bytes ≡ record { entries = []; whole = true }
unfolding entries_from
from_none zero bytes e = refl
from_none (suc most) bytes e = from_more most bytes ∙ ap (λ (b : Bool). chosen b (has_entry bytes) (with_entry (entry_of (own_bytes bytes)) (entries_from most (behind_first bytes)))) (le-leb (length bytes) 0 (omega arith))

from_some : (most : ℕ) (bytes : List ℕ) (lawful : Bool) → 0 < length bytes → has_entry bytes ≡ lawful
    → entries_from (suc most) bytes ≡ chosen false lawful (with_entry (entry_of (own_bytes bytes)) (entries_from most (behind_first bytes)))
from_some most bytes lawful some h =
    from_more most bytes
    ∙ ap (λ (b : Bool). chosen b (has_entry bytes) (with_entry (entry_of (own_bytes bytes)) (entries_from most (behind_first bytes)))) (lt-leb (length bytes) 0 some)
    ∙ ap (λ (b : Bool). chosen false b (with_entry (entry_of (own_bytes bytes)) (entries_from most (behind_first bytes)))) h

from_fault : (most : ℕ) (bytes : List ℕ) → 0 < length bytes → has_entry bytes ≡ false → entries_from (suc most) bytes ≡ record { entries = []; whole = false }
from_fault most bytes some h = from_some most bytes false some h

from_entry : (most : ℕ) (bytes : List ℕ) → 0 < length bytes → has_entry bytes ≡ true → entries_from (suc most) bytes ≡ with_entry (entry_of (own_bytes bytes)) (entries_from most (behind_first bytes))
from_entry most bytes some h = from_some most bytes true some h

-- what is behind an entry is shorter
shorter : (bytes : List ℕ) → has_entry bytes ≡ true → length (behind_first bytes) + 0x1A ≤ length bytes
shorter bytes h = let own = own_entry bytes h in omega (arith, own, length-drop (field 0x04 2 bytes) bytes)

-- fuel for each byte is enough
enough : (k m : ℕ) (bytes : List ℕ) → length bytes ≤ k → length bytes ≤ m → entries_from k bytes ≡ entries_from m bytes
enough zero m bytes le small = from_none zero bytes (omega arith) ∙ sym (from_none m bytes (omega arith))
enough (suc k) zero bytes le small = from_none (suc k) bytes (omega arith) ∙ sym (from_none zero bytes (omega arith))
enough (suc k) (suc m) bytes le small =
    elim (cases_lt 0 (length bytes)) [
      | inl some ↦ elim (cases_Bool (has_entry bytes)) [
        | inl h ↦ (let less = shorter bytes h in
            from_entry k bytes some h ∙ ap (with_entry (entry_of (own_bytes bytes))) (enough k m (behind_first bytes) (omega arith) (omega arith)) ∙ sym (from_entry m bytes some h))
        | inr h ↦ from_fault k bytes some h ∙ sym (from_fault m bytes some h)
      ]
      | inr none ↦ from_none (suc k) bytes (omega arith) ∙ sym (from_none (suc m) bytes (omega arith))
    ]

-- ---- one step of a list

refuelled : (bytes : List ℕ) → list_entries bytes ≡ entries_from (suc (length bytes)) bytes
unfolding list_entries
refuelled bytes = enough (length bytes) (suc (length bytes)) bytes (omega arith) (omega arith)

fuelled : (bytes : List ℕ) (more : ℕ) → length bytes ≤ more → entries_from more bytes ≡ list_entries bytes
unfolding list_entries
fuelled bytes more le = enough more (length bytes) bytes le (omega arith)

-- no bytes have no entries
pub list_ended : (bytes : List ℕ) → length bytes ≡ 0 → list_entries bytes ≡ record { entries = []; whole = true }
unfolding list_entries
list_ended bytes e = from_none (length bytes) bytes e

-- bytes that begin with no entry are at fault
pub list_faulty : (bytes : List ℕ) → 0 < length bytes → has_entry bytes ≡ false → list_entries bytes ≡ record { entries = []; whole = false }
list_faulty bytes some h = refuelled bytes ∙ from_fault (length bytes) bytes some h

-- bytes that begin with an entry have it and those behind it
pub list_next : (bytes : List ℕ) → has_entry bytes ≡ true → list_entries bytes ≡ with_entry (entry_of (own_bytes bytes)) (list_entries (behind_first bytes))
list_next bytes h =
    let less = shorter bytes h in
    refuelled bytes
    ∙ from_entry (length bytes) bytes (omega arith) h
    ∙ ap (with_entry (entry_of (own_bytes bytes))) (fuelled (behind_first bytes) (length bytes) (omega arith))
