-- The sizes of nodes that are read, and of the root.
use Rattle.std.proofs.Common.{◌≡◌, ℕ, zero, suc, ◌+◌, ◌-◌, ◌*◌, ◌%◌, ◌<◌, ◌≤◌, Bool, true, false, ◌&&◌, List, [], ◌∷◌, length, length-append, length-drop, drop, Option, Some, None, Result, Ok, Err, refl, sym, ap, ◌∙◌, subst, arith}
use Rattle.std.specs.Prelude.{◌==◌, not, is_ok, position}
use Rattle.std.specs.List.{concat}
use Rattle.std.proofs.lemmas.Bool.{and_parts, eqb-true}
use Rattle.std.proofs.lemmas.Bool.Decides.{nat_tests}
use Rattle.std.proofs.lemmas.List.{length-take}
use Rattle.std.proofs.lemmas.List.Sums.{sum_by-cons}
use Rattle.index_tree.specs.host_base.Answers.{◌>>=◌, needs}
use Rattle.record_model.specs.utf16_name.Names.{fault_of, ok_unless, is_bad_unit}
use Rattle.record_model.specs.disk_model.declared.block.Block.{Block}
use Rattle.record_model.specs.disk_model.Bodies.{BodyOf}
use Rattle.record_model.specs.disk_model.Content.{Content}
use Rattle.record_model.specs.disk_model.Numbers.{field}
use Rattle.record_model.specs.declared.entry.Entry.{Entry as Raw}
use Rattle.record_model.specs.Nodes.{Node, node_at, root_at, child_flag, entry_length, entries_length, down_flag, first_entry, used_end, entry_bytes, SpellsDown, SpellsEntry, SpellsLast, SpellEntries, HoldsEntries, last_entry}
use Rattle.record_model.specs.Values.{is_file_name, units_of}
use Rattle.record_model.proofs.Attributes.{length-units_at}
use Rattle.record_model.proofs.FileNames.{lawful_parts}
use Rattle.record_model.proofs.NodeTables.{node_from_ok, root_from_ok}
use Rattle.index_tree.specs.index_model.Indexes.{Place, node_block, entries_of_node, is_index_body, node_of_body, node_of_part, node_of_block}
use Rattle.index_plan.specs.Growth.{fits_in}
use Rattle.index_plan.specs.Room.{IsShort, HasKeys, Sized}
use Rattle.index_plan.proofs.Halves.{fits_bytes}
use Rattle.index_change.specs.Plans.{root_room}

-- ---- keys

few_units : (at : Option ℕ) (units : List ℕ) → is_ok (ok_unless (fault_of at (length units)) units) ≡ true → (0 < length units) × (length units ≤ 255)
few_units (Some at) units e = absurd cc
few_units None units e = (grind (arith, nat_tests), grind (arith, nat_tests))

unit_count : (key : List ℕ) → length (units_of key) ≡ field 0x40 1 key
unfolding units_of
unit_count key = length-units_at 0x42 (field 0x40 1 key) key

-- a key has 0x44 to 0x240 bytes
key_bytes : (key : List ℕ) → is_file_name key ≡ true → (0 < length key) × (length key ≤ 576)
key_bytes key h =
    let l = lawful_parts key h in
    let few = few_units (position is_bad_unit (units_of key)) (units_of key) l.name in
    let count = unit_count key in
    (omega (arith, l.size), omega (arith, l.size, few.1, count))

pub short_key : (key : List ℕ) → is_file_name key ≡ true → length key ≤ 576
short_key key h = (key_bytes key h).1

-- ---- entries

flag_is : (s : List ℕ) (d : Option ℕ) → SpellsDown s d → child_flag s ≡ down_flag d
flag_is s None h = h
flag_is s (Some v) h = h.0

as_long : (e : Raw) (n flag : ℕ) → 0x10 + length e.key + 8 * flag ≤ n → n % 8 ≡ 0 → flag ≡ down_flag e.down → entry_length e ≤ n
unfolding entry_length
as_long e n flag inside eights same = omega arith

no_length : {A : Type 0} → (xs : List A) → [] ≡ xs → length xs ≡ 0
no_length xs e = sym (ap length e)

last_long : (s : List ℕ) (e : Raw) → SpellsLast s e → entry_length e ≤ length s
last_long s e h = let none = no_length e.key h.no_key in as_long e (length s) (child_flag s) (omega (arith, h.down_inside, none)) h.eights (flag_is s e.down h.down)

entry_long : (s : List ℕ) (e : Raw) → SpellsEntry s e → entry_length e ≤ length s
entry_long s e h = as_long e (length s) (child_flag s) h.key_inside h.eights (flag_is s e.down h.down)

-- the entries as they are written are no longer than as they stand
entries_long : (spellings : List (List ℕ)) (entries : List Raw) → SpellEntries spellings entries → entries_length entries ≤ length (concat spellings)
entries_long [] entries h = absurd h
entries_long (s ∷ spellings) [] h = absurd h
entries_long (s ∷ []) (e ∷ []) h = omega (arith, last_long s e h, sum_by-cons entry_length e [], length-append s [])
entries_long (s ∷ []) (e ∷ f ∷ entries) h = absurd h
entries_long (s ∷ t ∷ spellings) (e ∷ []) h = absurd h
entries_long (s ∷ t ∷ spellings) (e ∷ f ∷ entries) h =
    omega (arith, entry_long s e h.0, entries_long (t ∷ spellings) (f ∷ entries) h.1, sum_by-cons entry_length e (f ∷ entries), length-append s (concat (t ∷ spellings)))

-- one entry more at the front
keys_front : (e : Raw) (entries : List Raw) → 0 < length e.key → IsShort e → HasKeys entries → HasKeys (e ∷ entries)
keys_front e entries some short rest zero lt = (short, λ more. some)
keys_front e entries some short rest (suc i) lt = let r = rest i (omega arith) in (r.0, λ more. r.1 (omega arith))

keys_last : (e : Raw) → [] ≡ e.key → HasKeys (e ∷ [])
keys_last e none zero lt = let n = no_length e.key none in (omega (arith, n), λ more. absurd (omega arith))
keys_last e none (suc i) lt = absurd (omega arith)

has_keys : (spellings : List (List ℕ)) (entries : List Raw) → SpellEntries spellings entries → HasKeys entries
has_keys [] entries h = absurd h
has_keys (s ∷ spellings) [] h = absurd h
has_keys (s ∷ []) (e ∷ []) h = keys_last e h.no_key
has_keys (s ∷ []) (e ∷ f ∷ entries) h = absurd h
has_keys (s ∷ t ∷ spellings) (e ∷ []) h = absurd h
has_keys (s ∷ t ∷ spellings) (e ∷ f ∷ entries) h = let k = key_bytes e.key h.0.lawful in keys_front e (f ∷ entries) k.0 k.1 (has_keys (t ∷ spellings) (f ∷ entries) h.1)

-- the entries of a node lie behind its header
lie_inside : (node : List ℕ) → length (entry_bytes node) ≤ used_end node - first_entry node
unfolding entry_bytes
lie_inside node = omega (arith, length-take {A = ℕ})

entries_inside : (node : List ℕ) (entries : List Raw) → HoldsEntries node entries → entries_length entries + 0x10 ≤ length node
entries_inside node entries h =
    let long = entries_long h.spellings entries h.spelled in
    let all : length (entry_bytes node) ≡ length (concat h.spellings) + length h.behind = ap length h.placed ∙ length-append (concat h.spellings) h.behind in
    omega (arith, long, all, lie_inside node, h.first_behind, h.first_inside, h.used, h.allocated)

-- ---- nodes

node_sized : (body : List ℕ) (r : Result Node ℕ) (entries : List Raw) → length body ≡ 4096 → node_at body ≡ r → entries_of_node r ≡ Ok entries → Sized entries
node_sized body (Ok n) entries size is e =
    let h = (node_from_ok body n is).holds in
    let same : n.entries ≡ entries = cc in
    let inside = entries_inside (drop 0x18 body) n.entries h in
    subst Sized same (record { keys = has_keys h.spellings n.entries h.spelled; room = omega (arith, inside, length-drop 0x18 body, size) })
node_sized body (Err rule) entries size is e = absurd cc

needs_ok : {A : Type 0} (b : Bool) (rule : ℕ) (r : Result A ℕ) (y : A) → (needs b rule >>= λ _. r) ≡ Ok y → (b ≡ true) × (r ≡ Ok y)
needs_ok true rule r y h = (refl, h)
needs_ok false rule r y h = absurd cc

body_sized : (v : ℕ) (b : BodyOf) (entries : List Raw) → node_of_body v b ≡ Ok entries → Sized entries
unfolding node_of_body
body_sized v b entries e =
    let first = needs_ok (is_index_body b) 1 (needs (field 0x10 8 b.bytes == v) 2 >>= λ _. entries_of_node (node_at b.bytes)) entries e in
    let second = needs_ok (field 0x10 8 b.bytes == v) 2 (entries_of_node (node_at b.bytes)) entries first.1 in
    let parts = and_parts (length b.bytes == 4096 && not b.torn) _ first.0 in
    let size = and_parts (length b.bytes == 4096) (not b.torn) parts.0 in
    node_sized b.bytes (node_at b.bytes) entries (eqb-true (length b.bytes) 4096 size.0) refl second.1

part_sized : (c : Content) (v : ℕ) (o : Option Block) (entries : List Raw) → node_of_part c v o ≡ Ok entries → Sized entries
part_sized c v None entries e = absurd cc
part_sized c v (Some b) entries e = body_sized v (c b) entries e

-- the nodes that lie in a content have the size of a block
pub block_sized : (c : Content) (p : Place) (v : ℕ) (entries : List Raw) → node_of_block c p v ≡ Ok entries → Sized entries
unfolding node_of_block
block_sized c p v entries e = part_sized c v (node_block p v) entries e

-- ---- the root

-- where the root has room for fewer than so many bytes more, its record would have more than 1,024 bytes with them
pub tight_record : (used n : ℕ) (value : List ℕ) (root : List Raw) → root_at value ≡ Ok root → root_room used value < entries_length root + n → 1024 < used + n
unfolding root_room
tight_record used n value root e lt =
    let h = root_from_ok value root e in
    let inside = entries_inside (drop 0x10 value) root h.holds in
    omega (arith, inside, length-drop 0x10 value, h.size, lt)

entry_some : (e : Raw) → 0x10 ≤ entry_length e
unfolding entry_length
entry_some e = omega arith

some_long : (spellings : List (List ℕ)) (entries : List Raw) → SpellEntries spellings entries → 0x10 ≤ entries_length entries
some_long [] entries h = absurd h
some_long (s ∷ spellings) [] h = absurd h
some_long (s ∷ spellings) (e ∷ entries) h = omega (arith, entry_some e, sum_by-cons entry_length e entries)

bare_bytes : entry_length (last_entry None) ≡ 0x10
unfolding entry_length
bare_bytes = omega arith

-- a root has room for its last entry alone
pub bare_fits : (used : ℕ) (value : List ℕ) (root : List Raw) → root_at value ≡ Ok root → fits_in (root_room used value) (last_entry None ∷ []) ≡ true
unfolding root_room
bare_fits used value root e =
    let h = root_from_ok value root e in
    let inside = entries_inside (drop 0x10 value) root h.holds in
    let some = some_long h.holds.spellings root h.holds.spelled in
    (fits_bytes (root_room used value) (last_entry None ∷ [])).1 (omega (arith, bare_bytes, inside, some, length-drop 0x10 value, h.size))
