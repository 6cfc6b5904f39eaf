-- Entries at their places.
use Rattle.std.proofs.Common.{◌≡◌, ◌∙◌, ℕ, zero, suc, ◌+◌, ◌<◌, ◌≤◌, List, [], ◌∷◌, length, get_or, None, arith, All}
use Rattle.std.proofs.lemmas.List.Elements.{All-from_get_or}
use Rattle.std.proofs.lemmas.List.{get_or_default}
use Rattle.record_model.specs.declared.entry.Entry.{Entry}
use Rattle.record_model.specs.Nodes.{FitEntries, FitsEntry, FitsLast, last_entry}

-- the entry at a place
abbrev pub at_place : ℕ → List Entry → Entry
at_place k entries = get_or entries k (last_entry None)

pub all_at : (P : Entry → Type 0) (entries : List Entry) → ((k : ℕ) → k < length entries → P (at_place k entries)) → All P entries
all_at P entries each = All-from_get_or P entries (last_entry None) each

pub fit_entries : (entries : List Entry) (n : ℕ) → n + 1 ≡ length entries → ((k : ℕ) → k < n → FitsEntry (at_place k entries)) → FitsLast (at_place n entries) → FitEntries entries
fit_entries [] n e before last = absurd (omega arith)
fit_entries (x ∷ []) zero e before last = last
fit_entries (x ∷ []) (suc n) e before last = absurd (omega arith)
fit_entries (x ∷ y ∷ entries) zero e before last = absurd (omega arith)
fit_entries (x ∷ y ∷ entries) (suc n) e before last = (before 0 (omega arith), fit_entries (y ∷ entries) n (omega arith) (λ k lt. before (suc k) (omega arith)) last)

-- each entry before the last has a spelling, and the last one has
pub entry_fits : (entries : List Entry) (k : ℕ) → k + 1 < length entries → FitEntries entries → FitsEntry (at_place k entries)
entry_fits [] k lt all = absurd all
entry_fits (x ∷ []) k lt all = absurd (omega arith)
entry_fits (x ∷ y ∷ entries) zero lt all = all.0
entry_fits (x ∷ y ∷ entries) (suc k) lt all = entry_fits (y ∷ entries) k (omega arith) all.1

pub last_fits : (entries : List Entry) (n : ℕ) → n + 1 ≡ length entries → FitEntries entries → FitsLast (at_place n entries)
last_fits [] n e all = absurd all
last_fits (x ∷ []) zero e all = all
last_fits (x ∷ []) (suc n) e all = absurd (omega arith)
last_fits (x ∷ y ∷ entries) zero e all = absurd (omega arith)
last_fits (x ∷ y ∷ entries) (suc n) e all = last_fits (y ∷ entries) n (omega arith) all.1

-- entries that have a spelling are some
pub some_fit : {A : Type 0} (entries : List Entry) (i : ℕ) → FitEntries entries → length entries ≤ i → (0 < i → i < length entries) → A
some_fit [] i all past inside = absurd all
some_fit (x ∷ entries) i all past inside = let lt : i < length (x ∷ entries) = inside (omega arith) in absurd (omega arith)

-- the item of a loop is the one at its place
pub item_at : (entries : List Entry) (i : ℕ) (e : Entry) → i < length entries → e ≡ get_or entries i e → e ≡ at_place i entries
item_at entries i e lt is = is ∙ get_or_default entries i e (last_entry None) lt
