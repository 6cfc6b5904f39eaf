-- The bytes that entries take as they are written.
use Rattle.std.proofs.Common.{◌≡◌, ℕ, ◌-◌, ◌≤◌, List, [], ◌∷◌, length, drop, Ok, ap, arith}
use Rattle.std.specs.List.{concat}
use Rattle.std.proofs.lemmas.List.{length-append, length-take}
use Rattle.std.proofs.lemmas.List.Sums.{sum_by-cons}
use Rattle.record_model.specs.declared.entry.Entry.{Entry}
use Rattle.record_model.specs.Nodes.{first_entry, used_end, entry_bytes, node_entries, SpellsEntry, SpellsLast, SpellEntries, entry_length, entries_length}
use Rattle.record_model.proofs.NodeTables.{flag_spelled, holds_from_ok}

entry_no_longer : (s : List ℕ) (e : Entry) → SpellsEntry s e → entry_length e ≤ length s
unfolding entry_length
entry_no_longer s e is = omega (arith, is.key_inside, is.eights, flag_spelled s e.down is.down)

last_no_longer : (s : List ℕ) (e : Entry) → SpellsLast s e → entry_length e ≤ length s
unfolding entry_length
last_no_longer s e is = omega (arith, is.down_inside, ap length is.no_key, flag_spelled s e.down is.down)

-- each takes no more than its spelling
entries_no_longer : (spellings : List (List ℕ)) (entries : List Entry) → SpellEntries spellings entries → entries_length entries ≤ length (concat spellings)
entries_no_longer [] entries each = absurd each
entries_no_longer (s ∷ []) [] each = absurd each
entries_no_longer (s ∷ t ∷ spellings) [] each = absurd each
entries_no_longer (s ∷ []) (e ∷ []) each = omega (arith, last_no_longer s e each, length-append s [], sum_by-cons entry_length e [])
entries_no_longer (s ∷ []) (e ∷ f ∷ entries) each = absurd each
entries_no_longer (s ∷ t ∷ spellings) (e ∷ []) each = absurd each
entries_no_longer (s ∷ t ∷ spellings) (e ∷ f ∷ entries) each =
    omega (arith, entry_no_longer s e each.0, entries_no_longer (t ∷ spellings) (f ∷ entries) each.1, length-append s (concat (t ∷ spellings)), sum_by-cons entry_length e (f ∷ entries))

entry_bytes_short : (node : List ℕ) → length (entry_bytes node) ≤ used_end node - first_entry node
unfolding entry_bytes
entry_bytes_short node = omega (arith, length-take (used_end node - first_entry node) (drop (first_entry node) node))

pub written_no_longer : (node : List ℕ) (entries : List Entry) → node_entries node ≡ Ok entries → entries_length entries ≤ used_end node - first_entry node
written_no_longer node entries e =
    let t = holds_from_ok node entries e in
    omega (arith, entries_no_longer t.spellings entries t.spelled, entry_bytes_short node, ap length t.placed, length-append (concat t.spellings) t.behind)
