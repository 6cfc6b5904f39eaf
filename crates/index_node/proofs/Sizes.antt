-- The bytes that entries take.
use Rattle.std.proofs.Common.{◌≡◌, ℕ, suc, ◌+◌, ◌^◌, ◌<◌, ◌≤◌, Bool, true, List, [], ◌∷◌, ◌++◌, length, take, drop, set, get_or, Option, Some, None, Ok, refl, sym, ap, ◌∙◌, arith}
use Rattle.std.specs.Prelude.{insert, remove}
use Rattle.std.proofs.lemmas.List.{take-take, get_or-take, set_split, drop_all}
use Rattle.std.proofs.lemmas.List.Sums.{sum_by_more, sum_by_more_le, sum_by-insert, sum_by-remove, sum_by-take-drop, sum_by_push}
use Rattle.std.proofs.lemmas.Bool.{le-leb}
use Rattle.disk_model.specs.host_base.Answers.{◌>>=◌, needs}
use Rattle.disk_model.specs.Numbers.{field}
use Rattle.disk_model.specs.Bytes.{AreBytes}
use Rattle.disk_model.proofs.Fields.{field-lt}
use Rattle.record_model.specs.declared.entry.Entry.{Entry}
use Rattle.record_model.specs.Values.{is_file_name}
use Rattle.record_model.specs.Nodes.{Node, down_flag, entry_length, entries_length, node_used, last_entry}
use Rattle.record_model.proofs.FileNames.{lawful_parts}
use Rattle.index_node.specs.Edits.{with_entries, inserted, down_at, left_entries}

-- a key that is a file-name value has at most 0x240 bytes
pub key_bounded : (key : List ℕ) → is_file_name key ≡ true → AreBytes key → length key ≤ 576
key_bounded key h each =
    let small : field 0x40 1 key < 256 ^ 1 = field-lt 0x40 1 key each in
    omega (arith, (lawful_parts key h).size, small)

pub key_below : (e : Entry) → length e.key < entry_length e
unfolding entry_length
key_below e = omega arith

pub entry_small : (e : Entry) → length e.key ≤ 576 → entry_length e ≤ 1000
unfolding entry_length
entry_small e small =
    let flag = one (e.down) in
    omega (arith, flag)
  where
    one : (down : Option ℕ) → down_flag down ≤ 1
    one None = omega arith
    one (Some vcn) = omega arith

-- the entry at a place is part of the sum
pub sum_more : (entries : List Entry) (i : ℕ) (d : Entry) → i < length entries → entries_length (take (i + 1) entries) ≡ entries_length (take i entries) + entry_length (get_or entries i d)
sum_more entries i d lt = sum_by_more entry_length entries i d lt

pub sum_inside : (entries : List Entry) (i : ℕ) (d : Entry) → i < length entries → entries_length (take i entries) + entry_length (get_or entries i d) ≤ entries_length entries
sum_inside entries i d lt = sum_by_more_le entry_length entries i d lt

pub ruleset sums = (sum_more, sum_inside, key_below)

used_is : (entries : List Entry) → node_used entries ≡ 0x28 + entries_length entries
unfolding node_used
used_is entries = refl

pub used_inserted : (entries : List Entry) (at : ℕ) (e : Entry) → node_used (insert entries at e) ≡ node_used entries + entry_length e
used_inserted entries at e = omega (arith, used_is entries, used_is (insert entries at e), sum_by-insert entry_length entries at e)

pub used_removed : (entries : List Entry) (at : ℕ) → at < length entries → node_used (remove entries at) ≤ node_used entries
used_removed entries at lt = omega (arith, used_is entries, used_is (remove entries at), sum_by-remove entry_length entries at (last_entry None) lt)

pub used_right : (entries : List Entry) (at : ℕ) → node_used (drop (at + 1) entries) ≤ node_used entries
used_right entries at = omega (arith, used_is entries, used_is (drop (at + 1) entries), sum_by-take-drop entry_length entries (at + 1))

last_shorter : (e : Entry) → entry_length (last_entry e.down) ≤ entry_length e
unfolding entry_length
last_shorter e = omega arith

pub used_left : (entries : List Entry) (at : ℕ) → at < length entries → node_used (left_entries entries at) ≤ node_used entries
used_left entries at lt =
    let e = get_or entries at (last_entry None) in
    omega (arith, used_is entries, used_is (left_entries entries at), sum_by_push entry_length (take at entries) (last_entry (down_at entries at)), sum_by_more_le entry_length entries at (last_entry None) lt, last_shorter e)

-- the front up to an entry is enough to cut at it
pub left_of_front : (entries : List Entry) (at : ℕ) → left_entries (take (at + 1) entries) at ≡ left_entries entries at
left_of_front entries at =
    ap (λ (xs : List Entry). xs ++ last_entry (down_at (take (at + 1) entries) at) ∷ []) (take-take at (at + 1) entries (omega arith))
    ∙ ap (λ (e : Entry). take at entries ++ last_entry e.down ∷ []) (get_or-take (at + 1) entries at (last_entry None) (omega arith))

-- the final entry made the last one
pub ended_at : (entries : List Entry) (at : ℕ) (down : Option ℕ) → length entries ≡ at + 1 → down ≡ down_at entries at → set entries at (last_entry down) ≡ left_entries entries at
ended_at entries at down long same =
    set_split entries at (last_entry down) (omega arith)
    ∙ ap (λ (rest : List Entry). take at entries ++ last_entry down ∷ rest) (drop_all (suc at) entries (omega arith))
    ∙ ap (λ (d : Option ℕ). take at entries ++ last_entry d ∷ []) same

-- each half of a node takes no more than the node
pub left_bounded : (entries front left : List Entry) (at : ℕ) → node_used entries ≤ 8192 → at + 1 < length entries → front ≡ take (at + 1) entries → left ≡ left_entries front at → node_used left ≤ 8192
left_bounded entries front left at bounded lt f l =
    let same : left ≡ left_entries entries at = l ∙ ap (λ (xs : List Entry). left_entries xs at) f ∙ left_of_front entries at in
    omega (arith, ap node_used same, used_left entries at (omega arith))

pub right_bounded : (entries right : List Entry) (at : ℕ) → node_used entries ≤ 8192 → right ≡ drop (at + 1) entries → node_used right ≤ 8192
right_bounded entries right at bounded r = omega (arith, ap node_used r, used_right entries at)

pub removed_bounded : (entries rest : List Entry) (at : ℕ) → node_used entries ≤ 8192 → at + 1 < length entries → rest ≡ remove entries at → node_used rest ≤ 8192
removed_bounded entries rest at bounded lt r = omega (arith, ap node_used r, used_removed entries at (omega arith))

-- a copy that was put in, where it has room
pub inserted_ok : (n : Node) (at : ℕ) (e copy : Entry) (now : List Entry) → node_used n.entries + entry_length e ≤ 4072 → copy ≡ e → now ≡ insert n.entries at copy → inserted n at e ≡ Ok (with_entries n now)
inserted_ok n at e copy now fits same is =
    let used = node_used (insert n.entries at e) in
    ap (λ (b : Bool). needs b used >>= λ _. Ok (with_entries n (insert n.entries at e))) (le-leb used 4072 (omega (arith, used_inserted n.entries at e)))
    ∙ ap (λ (xs : List Entry). Ok (with_entries n xs)) (ap (insert n.entries at) (sym same) ∙ sym is)

pub inserted_bounded : (entries now : List Entry) (at : ℕ) (e copy : Entry) → node_used entries + entry_length e ≤ 4072 → copy ≡ e → now ≡ insert entries at copy → node_used now ≤ 8192
inserted_bounded entries now at e copy fits same is = omega (arith, ap node_used (is ∙ ap (insert entries at) same), used_inserted entries at e)
