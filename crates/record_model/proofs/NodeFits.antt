-- A node that is read has a spelling.
use Rattle.std.proofs.Common.{◌≡◌, ℕ, ◌+◌, ◌-◌, ◌/◌, ◌%◌, ◌^◌, ◌<◌, ◌≤◌, List, [], ◌∷◌, ◌++◌, length, drop, Option, Some, None, Ok, sym, ap, subst, inl, inr, arith}
use Rattle.std.specs.List.{concat, AllByRecursion}
use Rattle.std.proofs.lemmas.Bool.{cases_lt}
use Rattle.std.proofs.lemmas.List.{get_or_append_left, get_or-append-add, get_or_past, append_assoc}
use Rattle.std.proofs.lemmas.List.Elements.{All-from_recursion, recursion_from_All}
use Rattle.disk_model.specs.host_base.declared.file_ref.FileRef.{FileRef}
use Rattle.disk_model.specs.Numbers.{field}
use Rattle.disk_model.specs.Bytes.{AreBytes}
use Rattle.disk_model.proofs.Fields.{field-lt, AreBytes-drop}
use Rattle.record_model.specs.declared.entry.Entry.{Entry}
use Rattle.record_model.specs.Nodes.{Node, first_entry, used_end, children_flag, entry_bytes, node_at, SpellsDown, SpellsEntry, SpellsLast, SpellEntries, down_flag, node_used, node_room, children_of, FitsDown, FitsEntry, FitsLast, FitEntries, FitsNode}
use Rattle.record_model.proofs.Pieces.{AreBytes-take}
use Rattle.record_model.proofs.NodeTables.{node_from_ok}

-- ---- bytes

front_bytes : (xs ys : List ℕ) → AreBytes (xs ++ ys) → AreBytes xs
front_bytes xs ys each i =
    elim (cases_lt i (length xs)) [
      | inl within ↦ subst (λ (x : ℕ). x < 256) (get_or_append_left xs ys 0 i within) (each i)
      | inr behind ↦ subst (λ (x : ℕ). x < 256) (sym (get_or_past xs i 0 behind)) (omega arith)
    ]

back_bytes : (xs ys : List ℕ) → AreBytes (xs ++ ys) → AreBytes ys
back_bytes xs ys each i = subst (λ (x : ℕ). x < 256) (get_or-append-add xs ys i 0) (each (length xs + i))

-- ---- entries

down_fits : (s : List ℕ) (down : Option ℕ) → AreBytes s → SpellsDown s down → FitsDown down
down_fits s None each is = tt
down_fits s (Some vcn) each is =
    let small : field (length s - 8) 8 s < 256 ^ 8 = field-lt (length s - 8) 8 s each in
    omega (arith, small, is.1)

entry_fits : (s : List ℕ) (e : Entry) → AreBytes s → SpellsEntry s e → FitsEntry e
entry_fits s e each is =
    let value = field 0x00 8 s in
    let small : value < 256 ^ 8 = field-lt 0x00 8 s each in
    let number : value % 2 ^ 48 ≡ e.child.number = ap (λ (f : FileRef). f.number) is.reference in
    let seq : value / 2 ^ 48 ≡ e.child.seq = ap (λ (f : FileRef). f.seq) is.reference in
    record {
      number = omega (arith, number);
      seq = omega (arith, seq, small);
      key = is.lawful;
      down = down_fits s e.down each is.down;
    }

last_fits : (s : List ℕ) (e : Entry) → AreBytes s → SpellsLast s e → FitsLast e
last_fits s e each is = record { no_reference = is.no_reference; no_key = is.no_key; down = down_fits s e.down each is.down }

entries_fit : (spellings : List (List ℕ)) (entries : List Entry) (behind : List ℕ) → AreBytes (concat spellings ++ behind) → SpellEntries spellings entries → FitEntries entries
entries_fit [] entries behind bytes each = absurd each
entries_fit (s ∷ []) [] behind bytes each = absurd each
entries_fit (s ∷ t ∷ spellings) [] behind bytes each = absurd each
entries_fit (s ∷ []) (e ∷ []) behind bytes each = last_fits s e (front_bytes s [] (front_bytes (s ++ []) behind bytes)) each
entries_fit (s ∷ []) (e ∷ f ∷ entries) behind bytes each = absurd each
entries_fit (s ∷ t ∷ spellings) (e ∷ []) behind bytes each = absurd each
entries_fit (s ∷ t ∷ spellings) (e ∷ f ∷ entries) behind bytes each =
    let whole = subst AreBytes (append_assoc s (concat (t ∷ spellings)) behind) bytes in
    (entry_fits s e (front_bytes s (concat (t ∷ spellings) ++ behind) whole) each.0, entries_fit (t ∷ spellings) (f ∷ entries) behind (back_bytes s (concat (t ∷ spellings) ++ behind) whole) each.1)

-- ---- the node

pub flags_fit : (flag : ℕ) (entries : List Entry) → AllByRecursion (λ e. down_flag e.down ≡ flag) entries → AllByRecursion (λ e. down_flag e.down ≡ children_of entries) entries
flags_fit flag [] all = tt
flags_fit flag (e ∷ entries) all = subst (λ (k : ℕ). AllByRecursion (λ x. down_flag x.down ≡ k) (e ∷ entries)) (sym all.0) all

field_small : (at n : ℕ) (body : List ℕ) (value : ℕ) → AreBytes body → field at n body ≡ value → value < 256 ^ n
field_small at n body value each e = subst (λ (x : ℕ). x < 256 ^ n) e (field-lt at n body each)

bytes_of_entries : (node : List ℕ) → AreBytes node → AreBytes (entry_bytes node)
unfolding entry_bytes
bytes_of_entries node each = AreBytes-take (used_end node - first_entry node) (drop (first_entry node) node) (AreBytes-drop (first_entry node) node each)

pub read_node_fits : (body : List ℕ) (n : Node) → AreBytes body → node_at body ≡ Ok n → node_used n.entries ≤ node_room → FitsNode n
read_node_fits body n each e room =
    let t = node_from_ok body n e in
    let node = drop 0x18 body in
    let bytes = bytes_of_entries node (AreBytes-drop 0x18 body each) in
    record {
      vcn = field_small 0x10 8 body n.vcn each t.vcn;
      lsn = field_small 0x08 8 body n.lsn each t.lsn;
      entries = entries_fit t.holds.spellings n.entries t.holds.behind (subst AreBytes t.holds.placed bytes) t.holds.spelled;
      flags = All-from_recursion (λ (e : Entry). down_flag e.down ≡ children_of n.entries) n.entries (flags_fit (children_flag node) n.entries (recursion_from_All (λ (e : Entry). down_flag e.down ≡ children_flag node) n.entries t.holds.flags));
      used = room;
    }
