-- The entries of a node that is read end with a last one.
use Rattle.std.proofs.Common.{◌≡◌, ℕ, Bool, true, false, List, [], ◌∷◌, Option, Some, None, Result, Ok, Err, refl, sym, ap, ◌∙◌, subst}
use Rattle.std.specs.Prelude.{is_some, ◌==◌}
use Rattle.state_model.specs.host_base.declared.file_ref.FileRef.{FileRef}
use Rattle.state_model.specs.host_base.Answers.{◌>>=◌, needs}
use Rattle.state_model.specs.disk_model.declared.block.Block.{Block}
use Rattle.state_model.specs.disk_model.Numbers.{field}
use Rattle.state_model.specs.disk_model.Bodies.{BodyOf}
use Rattle.state_model.specs.disk_model.Content.{Content}
use Rattle.state_model.specs.record_model.declared.entry.Entry.{Entry}
use Rattle.state_model.specs.record_model.StdValues.{file_name_of}
use Rattle.state_model.specs.record_model.Values.{is_file_name}
use Rattle.state_model.specs.record_model.Nodes.{Node, no_file, node_at, root_at, SpellEntries, last_entry}
use Rattle.state_model.proofs.record_model.NodeTables.{node_from_ok, root_from_ok}
use Rattle.index_model.specs.Indexes.{Place, node_block, entries_of_node, is_index_body, node_of_body, node_of_part, node_of_block, entry_link}

-- the final entry is a last one
abbrev pub EndsLast : List Entry → Type 0
EndsLast [] = ⊥
EndsLast (e ∷ []) = e ≡ last_entry e.down
EndsLast (e ∷ f ∷ entries) = EndsLast (f ∷ entries)

last_is : (e : Entry) → no_file ≡ e.child → [] ≡ e.key → e ≡ last_entry e.down
last_is e child key =
    let f : FileRef → List ℕ → Entry = λ c k. record { child = c; key = k; down = e.down } in
    ap (λ c. f c e.key) (sym child) ∙ ap (λ k. f no_file k) (sym key)

ends_spelled : (spellings : List (List ℕ)) (entries : List Entry) → SpellEntries spellings entries → EndsLast entries
ends_spelled [] entries h = absurd h
ends_spelled (s ∷ spellings) [] h = absurd h
ends_spelled (s ∷ []) (e ∷ []) h = last_is e h.no_reference h.no_key
ends_spelled (s ∷ []) (e ∷ f ∷ entries) h = absurd h
ends_spelled (s ∷ t ∷ spellings) (e ∷ []) h = absurd h
ends_spelled (s ∷ t ∷ spellings) (e ∷ f ∷ entries) h = ends_spelled (t ∷ spellings) (f ∷ entries) h.1

pub root_ends : (value : List ℕ) (entries : List Entry) → root_at value ≡ Ok entries → EndsLast entries
root_ends value entries e = let h = root_from_ok value entries e in ends_spelled h.holds.spellings entries h.holds.spelled

needs_ok : {A : Type 0} (b : Bool) (rule : ℕ) (r : Result A ℕ) (y : A) → (needs b rule >>= λ _. r) ≡ Ok y → r ≡ Ok y
needs_ok true rule r y h = h
needs_ok false rule r y h = absurd cc

entries_end : (body : List ℕ) (r : Result Node ℕ) (entries : List Entry) → node_at body ≡ r → entries_of_node r ≡ Ok entries → EndsLast entries
entries_end body (Ok n) entries is e = let h = node_from_ok body n is in let same : n.entries ≡ entries = cc in subst EndsLast same (ends_spelled h.holds.spellings n.entries h.holds.spelled)
entries_end body (Err rule) entries is e = absurd cc

body_ends : (v : ℕ) (b : BodyOf) (entries : List Entry) → node_of_body v b ≡ Ok entries → EndsLast entries
unfolding node_of_body
body_ends v b entries e =
    entries_end b.bytes (node_at b.bytes) entries refl
    (needs_ok (field 0x10 8 b.bytes == v) 2 (entries_of_node (node_at b.bytes)) entries (needs_ok (is_index_body b) 1 (needs (field 0x10 8 b.bytes == v) 2 >>= λ _. entries_of_node (node_at b.bytes)) entries e))

part_ends : (c : Content) (v : ℕ) (o : Option Block) (entries : List Entry) → node_of_part c v o ≡ Ok entries → EndsLast entries × (is_some o ≡ true)
part_ends c v None entries e = absurd cc
part_ends c v (Some b) entries e = (body_ends v (c b) entries e, refl)

-- nodes end with a last entry, and lie in the allocation
abbrev pub Shaped : Place → (ℕ → Result (List Entry) ℕ) → Type 0
Shaped p read = (v : ℕ) (entries : List Entry) → read v ≡ Ok entries → EndsLast entries × (is_some (node_block p v) ≡ true)

pub block_ends : (c : Content) (p : Place) → Shaped p (node_of_block c p)
unfolding node_of_block
block_ends c p v entries e = part_ends c v (node_block p v) entries e

pub last_link : (down : Option ℕ) → entry_link (last_entry down) ≡ None
unfolding entry_link file_name_of is_file_name
last_link down = refl
