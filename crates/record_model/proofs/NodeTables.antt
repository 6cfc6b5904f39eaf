-- A node's bytes: what the table says is what is read, and what is read is in the table.
use Rattle.std.proofs.Common.{◌≡◌, ◌⊎◌, ℕ, ◌+◌, ◌-◌, ◌%◌, ◌≤◌, Bool, true, false, leb, eqb, List, [], ◌∷◌, length, map, drop, Option, Some, None, Result, Ok, refl, sym, ap, ◌∙◌, subst, inl, inr, arith}
use Rattle.std.specs.Prelude.{◌&&◌, ◌==◌, if◌then◌else◌}
use Rattle.std.specs.List.{list_all, concat, AllByRecursion}
use Rattle.std.proofs.lemmas.Bool.{le-leb, leb-true, eq-eqb, eqb-true, and_from, and_parts}
use Rattle.std.proofs.lemmas.List.{length-append, length-take-le, length-drop}
use Rattle.std.proofs.lemmas.List.Elements.{All-from_recursion, recursion_from_All}
use Rattle.disk_model.specs.host_base.declared.file_ref.FileRef.{FileRef}
use Rattle.disk_model.specs.host_base.FileRefs.{unpacked}
use Rattle.disk_model.specs.host_base.Answers.{◌>>=◌, needs}
use Rattle.disk_model.specs.declared.block.BlockKind.TheVariants.{Index}
use Rattle.disk_model.specs.Numbers.{field}
use Rattle.disk_model.specs.Bytes.{part}
use Rattle.disk_model.specs.Content.{is_signed}
use Rattle.record_model.specs.declared.entry.Entry.{Entry}
use Rattle.record_model.specs.Values.{is_file_name}
use Rattle.record_model.specs.Records.{Pieces}
use Rattle.record_model.specs.Nodes.{Node, first_entry, used_end, allocated_end, children_flag, has_node_header, entry_bytes, child_flag, is_last, no_file, down_of, entry_of, cut_entries, most_entries, has_flag, node_entries, node_at, has_root_header, root_at, SpellsDown, SpellsEntry, SpellsLast, SpellEntries, down_flag, HoldsEntries, IsNode, IsRoot}
use Rattle.record_model.specs.NodeLaws.{BeginsRoot}
use Rattle.record_model.proofs.Answering.{steps_from_ok, needs_from_ok}
use Rattle.record_model.proofs.Pieces.{cut_into}
use Rattle.record_model.proofs.NodePieces.{IsEntryBytes, front_key, key_from_last, key_from_front, AreEntries, entries_from_ok, entries_joined, entries_long}

-- ---- children

flag_cases : (s : List ℕ) → (child_flag s ≡ 1) ⊎ (child_flag s ≡ 0)
flag_cases s = either (field 0x0C 2 s)
  where
    either : (n : ℕ) → (n % 2 ≡ 1) ⊎ (n % 2 ≡ 0)
    either n = by_test (n % 2 == 1) refl
      where
        by_test : (b : Bool) → eqb (n % 2) 1 ≡ b → (n % 2 ≡ 1) ⊎ (n % 2 ≡ 0)
        by_test true e = inl (eqb-true _ _ e)
        by_test false e = inr (grind arith)

down_read : (s : List ℕ) (down : Option ℕ) → SpellsDown s down → down_of s ≡ down
unfolding down_of
down_read s (Some vcn) is = ap (λ (b : Bool). if b then Some (field (length s - 8) 8 s) else None) (eq-eqb (child_flag s) 1 is.0) ∙ ap (λ (n : ℕ). Some n) is.1
down_read s None is = ap (λ (n : ℕ). if n == 1 then Some (field (length s - 8) 8 s) else None) is

down_spelled : (s : List ℕ) → SpellsDown s (down_of s)
unfolding down_of
down_spelled s =
    elim (flag_cases s) [
      | inl one ↦ subst (SpellsDown s) (sym (ap (λ (b : Bool). if b then Some (field (length s - 8) 8 s) else None) (eq-eqb (child_flag s) 1 one))) (one, refl)
      | inr none ↦ subst (SpellsDown s) (sym (ap (λ (n : ℕ). if n == 1 then Some (field (length s - 8) 8 s) else None) none)) none
    ]

pub flag_spelled : (s : List ℕ) (down : Option ℕ) → SpellsDown s down → down_flag down ≡ child_flag s
flag_spelled s (Some vcn) is = sym is.0
flag_spelled s None is = sym is

-- ---- one entry

abbrev make_entry : FileRef → List ℕ → Option ℕ → Entry
make_entry child key down = record { child = child; key = key; down = down }

-- an entry by whether it is the last
abbrev entry_by : List ℕ → Bool → Entry
entry_by s last = record { child = if last then no_file else unpacked (field 0x00 8 s); key = if last then [] else part 0x10 (field 0x0A 2 s) s; down = down_of s }

entry_is : (s : List ℕ) (last : Bool) → is_last s ≡ last → entry_of s ≡ entry_by s last
unfolding entry_of
entry_is s last e = ap (entry_by s) e

entry_read : (s : List ℕ) (e : Entry) → SpellsEntry s e → entry_of s ≡ e
entry_read s e is =
    entry_is s false is.before_last
    ∙ ap (λ (f : FileRef). make_entry f (part 0x10 (field 0x0A 2 s) s) (down_of s)) is.reference
    ∙ ap (λ (k : List ℕ). make_entry e.child k (down_of s)) (ap (λ (n : ℕ). part 0x10 n s) is.key_length ∙ is.key)
    ∙ ap (make_entry e.child e.key) (down_read s e.down is.down)

last_read : (s : List ℕ) (e : Entry) → SpellsLast s e → entry_of s ≡ e
last_read s e is =
    entry_is s true is.last
    ∙ ap (λ (f : FileRef). make_entry f [] (down_of s)) is.no_reference
    ∙ ap (λ (k : List ℕ). make_entry e.child k (down_of s)) is.no_key
    ∙ ap (make_entry e.child e.key) (down_read s e.down is.down)

own_from_entry_table : (s : List ℕ) (e : Entry) → SpellsEntry s e → IsEntryBytes s
own_from_entry_table s e is = record {
  long = omega (arith, is.key_inside);
  own_length = is.own_length;
  eights = is.eights;
  key = key_from_front s (record { inside = omega (arith, is.key_inside, is.key_length, is.own_length); lawful = ap is_file_name (ap (λ (n : ℕ). part 0x10 n s) is.key_length ∙ is.key) ∙ is.lawful });
}

own_from_last_table : (s : List ℕ) (e : Entry) → SpellsLast s e → IsEntryBytes s
own_from_last_table s e is = record { long = is.down_inside; own_length = is.own_length; eights = is.eights; key = key_from_last s is.last }

part_length : (k : ℕ) (s : List ℕ) → 0x10 + k ≤ length s → length (part 0x10 k s) ≡ k
part_length k s inside = length-take-le k (drop 0x10 s) (omega (arith, length-drop 0x10 s))

entry_spelled : (s : List ℕ) → IsEntryBytes s → is_last s ≡ false → SpellsEntry s (entry_of s)
entry_spelled s own last =
    let f = front_key s last own.key in
    let k = field 0x0A 2 s in
    let size : length (part 0x10 k s) ≡ k = part_length k s (omega (arith, f.inside, own.own_length)) in
    subst (SpellsEntry s) (sym (entry_is s false last)) (record {
      reference = refl;
      own_length = own.own_length;
      eights = own.eights;
      key_length = sym size;
      key_inside = omega (arith, f.inside, own.own_length, size);
      key = ap (λ (n : ℕ). part 0x10 n s) size;
      lawful = f.lawful;
      before_last = last;
      down = down_spelled s;
    })

last_spelled : (s : List ℕ) → IsEntryBytes s → is_last s ≡ true → SpellsLast s (entry_of s)
last_spelled s own last =
    subst (SpellsLast s) (sym (entry_is s true last)) (record {
      no_reference = refl;
      own_length = own.own_length;
      eights = own.eights;
      down_inside = own.long;
      no_key = refl;
      last = last;
      down = down_spelled s;
    })

-- ---- all entries

pub are_from_table : (spellings : List (List ℕ)) (entries : List Entry) → SpellEntries spellings entries → AreEntries spellings
are_from_table [] entries each = absurd each
are_from_table (s ∷ []) [] each = absurd each
are_from_table (s ∷ t ∷ spellings) [] each = absurd each
are_from_table (s ∷ []) (e ∷ []) each = (own_from_last_table s e each, each.last)
are_from_table (s ∷ []) (e ∷ f ∷ entries) each = absurd each
are_from_table (s ∷ t ∷ spellings) (e ∷ []) each = absurd each
are_from_table (s ∷ t ∷ spellings) (e ∷ f ∷ entries) each = (own_from_entry_table s e each.0, each.0.before_last, are_from_table (t ∷ spellings) (f ∷ entries) each.1)

pub read_from_table : (spellings : List (List ℕ)) (entries : List Entry) → SpellEntries spellings entries → map entry_of spellings ≡ entries
read_from_table [] entries each = absurd each
read_from_table (s ∷ []) [] each = absurd each
read_from_table (s ∷ t ∷ spellings) [] each = absurd each
read_from_table (s ∷ []) (e ∷ []) each = ap (λ (x : Entry). x ∷ []) (last_read s e each)
read_from_table (s ∷ []) (e ∷ f ∷ entries) each = absurd each
read_from_table (s ∷ t ∷ spellings) (e ∷ []) each = absurd each
read_from_table (s ∷ t ∷ spellings) (e ∷ f ∷ entries) each =
    ap (λ (x : Entry). x ∷ map entry_of (t ∷ spellings)) (entry_read s e each.0) ∙ ap (λ (xs : List Entry). e ∷ xs) (read_from_table (t ∷ spellings) (f ∷ entries) each.1)

pub table_from_pieces : (pieces : List (List ℕ)) → AreEntries pieces → SpellEntries pieces (map entry_of pieces)
table_from_pieces [] each = absurd each
table_from_pieces (s ∷ []) each = last_spelled s each.0 each.1
table_from_pieces (s ∷ t ∷ pieces) each = (entry_spelled s each.0 each.1, table_from_pieces (t ∷ pieces) each.2)

-- ---- flags

flag_of_read : (s : List ℕ) → down_flag (entry_of s).down ≡ child_flag s
unfolding entry_of
flag_of_read s = flag_spelled s (down_of s) (down_spelled s)

flags_from_test : (flag : ℕ) (pieces : List (List ℕ)) → list_all (has_flag flag) pieces ≡ true → AllByRecursion (λ e. down_flag e.down ≡ flag) (map entry_of pieces)
flags_from_test flag [] e = tt
flags_from_test flag (s ∷ pieces) e =
    let parts = and_parts (has_flag flag s) (list_all (has_flag flag) pieces) e in
    (flag_of_read s ∙ eqb-true _ _ parts.0, flags_from_test flag pieces parts.1)

test_from_flags : (flag : ℕ) (pieces : List (List ℕ)) → AllByRecursion (λ e. down_flag e.down ≡ flag) (map entry_of pieces) → list_all (has_flag flag) pieces ≡ true
test_from_flags flag [] all = refl
test_from_flags flag (s ∷ pieces) all = and_from (has_flag flag s) (list_all (has_flag flag) pieces) (eq-eqb _ _ (sym (flag_of_read s) ∙ all.0)) (test_from_flags flag pieces all.1)

-- ---- a node's bytes

pub record HasHeader (node : List ℕ) : Type 0 where
  pub first_behind : 0x10 ≤ first_entry node
  pub first_eights : first_entry node % 8 ≡ 0
  pub first_inside : first_entry node ≤ used_end node
  pub used : used_end node ≤ allocated_end node
  pub allocated : allocated_end node ≤ length node

pub header_parts : (node : List ℕ) → has_node_header node ≡ true → HasHeader node
unfolding has_node_header
header_parts node h =
    let a = leb 0x10 (first_entry node) in
    let b = eqb (first_entry node % 8) 0 in
    let c = leb (first_entry node) (used_end node) in
    let d = leb (used_end node) (allocated_end node) in
    let p = and_parts (a && b && c && d) (leb (allocated_end node) (length node)) h in
    let q = and_parts (a && b && c) d p.0 in
    let r = and_parts (a && b) c q.0 in
    let t = and_parts a b r.0 in
    record { first_behind = leb-true _ _ t.0; first_eights = eqb-true _ _ t.1; first_inside = leb-true _ _ r.1; used = leb-true _ _ q.1; allocated = leb-true _ _ p.1 }

header_from_parts : (node : List ℕ) → HasHeader node → has_node_header node ≡ true
unfolding has_node_header
header_from_parts node h =
    and_from _ _ (and_from _ _ (and_from _ _ (and_from _ _ (le-leb _ _ h.first_behind) (eq-eqb _ _ h.first_eights)) (le-leb _ _ h.first_inside)) (le-leb _ _ h.used)) (le-leb _ _ h.allocated)

abbrev pub flags_tested : List ℕ → Pieces → Result (List Entry) ℕ
flags_tested node p = needs p.ended 5 >>= λ _. needs (list_all (has_flag (children_flag node)) p.pieces) 6 >>= λ _. Ok (map entry_of p.pieces)

abbrev cut_of : List ℕ → Result Pieces ℕ
cut_of node = cut_entries (most_entries (entry_bytes node)) (entry_bytes node)

abbrev answer : List Entry → Result (List Entry) ℕ
answer entries = Ok entries

same_entries : (entries others : List Entry) → answer entries ≡ answer others → entries ≡ others
same_entries entries others e = cc

pub holds_from_ok : (node : List ℕ) (entries : List Entry) → node_entries node ≡ Ok entries → HoldsEntries node entries
unfolding node_entries
holds_from_ok node entries e =
    let header = needs_from_ok (has_node_header node) 3 (λ _. cut_of node >>= flags_tested node) entries e in
    let h = header_parts node header.0 in
    let read = steps_from_ok (cut_of node) (flags_tested node) entries header.1 in
    let pieces = read.0.pieces in
    let ended = needs_from_ok read.0.ended 5 (λ _. needs (list_all (has_flag (children_flag node)) pieces) 6 >>= λ _. Ok (map entry_of pieces)) entries read.2 in
    let flags = needs_from_ok (list_all (has_flag (children_flag node)) pieces) 6 (λ _. Ok (map entry_of pieces)) entries ended.1 in
    let same : map entry_of pieces ≡ entries = same_entries (map entry_of pieces) entries flags.1 in
    let are = entries_from_ok (most_entries (entry_bytes node)) (entry_bytes node) pieces (read.1 ∙ ap (λ (b : Bool). Ok (cut_into pieces b)) ended.0) in
    record {
      first_behind = h.first_behind;
      first_eights = h.first_eights;
      first_inside = h.first_inside;
      used = h.used;
      allocated = h.allocated;
      spellings = pieces;
      behind = are.behind;
      placed = are.placed;
      spelled = subst (SpellEntries pieces) same (table_from_pieces pieces are.each);
      flags = All-from_recursion (λ (e : Entry). down_flag e.down ≡ children_flag node) entries (subst (AllByRecursion (λ (e : Entry). down_flag e.down ≡ children_flag node)) same (flags_from_test (children_flag node) pieces flags.0));
    }

pub ok_from_holds : (node : List ℕ) (entries : List Entry) → HoldsEntries node entries → node_entries node ≡ Ok entries
unfolding node_entries
ok_from_holds node entries t =
    let are = are_from_table t.spellings entries t.spelled in
    let same = read_from_table t.spellings entries t.spelled in
    let size = ap length t.placed ∙ length-append (concat t.spellings) t.behind in
    let few : length t.spellings ≤ most_entries (entry_bytes node) = omega (arith, entries_long t.spellings are, size) in
    let cut : cut_of node ≡ Ok (cut_into t.spellings true) = ap (cut_entries (most_entries (entry_bytes node))) t.placed ∙ entries_joined (most_entries (entry_bytes node)) t.spellings t.behind are few in
    let flags = test_from_flags (children_flag node) t.spellings (subst (AllByRecursion (λ (e : Entry). down_flag e.down ≡ children_flag node)) (sym same) (recursion_from_All (λ (e : Entry). down_flag e.down ≡ children_flag node) entries t.flags)) in
    ap (λ (b : Bool). needs b 3 >>= λ _. cut_of node >>= flags_tested node) (header_from_parts node (record { first_behind = t.first_behind; first_eights = t.first_eights; first_inside = t.first_inside; used = t.used; allocated = t.allocated }))
    ∙ ap (λ (c : Result Pieces ℕ). c >>= flags_tested node) cut
    ∙ ap (λ (b : Bool). needs b 6 >>= λ _. Ok (map entry_of t.spellings)) flags
    ∙ ap (λ (x : List Entry). Ok x) same

-- ---- blocks and roots

abbrev pub make_node : List ℕ → List Entry → Node
make_node body entries = record { vcn = field 0x10 8 body; lsn = field 0x08 8 body; entries = entries }

abbrev node_answer : Node → Result Node ℕ
node_answer n = Ok n

same_node : (n m : Node) → node_answer n ≡ node_answer m → n ≡ m
same_node n m e = cc

pub node_from_ok : (body : List ℕ) (n : Node) → node_at body ≡ Ok n → IsNode body n
unfolding node_at
node_from_ok body n e =
    let signed = needs_from_ok (is_signed Index body) 1 (λ _. node_entries (drop 0x18 body) >>= λ entries. Ok (make_node body entries)) n e in
    let read = steps_from_ok (node_entries (drop 0x18 body)) (λ (entries : List Entry). Ok (make_node body entries)) n signed.1 in
    let same = same_node (make_node body read.0) n read.2 in
    record {
      signature = signed.0;
      vcn = ap (λ (m : Node). m.vcn) same;
      lsn = ap (λ (m : Node). m.lsn) same;
      holds = subst (HoldsEntries (drop 0x18 body)) (ap (λ (m : Node). m.entries) same) (holds_from_ok (drop 0x18 body) read.0 read.1);
    }

pub ok_from_node : (body : List ℕ) (n : Node) → IsNode body n → node_at body ≡ Ok n
unfolding node_at
ok_from_node body n t =
    ap (λ (b : Bool). needs b 1 >>= λ _. node_entries (drop 0x18 body) >>= λ entries. Ok (make (field 0x10 8 body) (field 0x08 8 body) entries)) t.signature
    ∙ ap (λ (r : Result (List Entry) ℕ). r >>= λ entries. Ok (make (field 0x10 8 body) (field 0x08 8 body) entries)) (ok_from_holds (drop 0x18 body) n.entries t.holds)
    ∙ ap (λ (vcn : ℕ). Ok (make vcn (field 0x08 8 body) n.entries)) t.vcn
    ∙ ap (λ (lsn : ℕ). Ok (make n.vcn lsn n.entries)) t.lsn
  where
    make : ℕ → ℕ → List Entry → Node
    make vcn lsn entries = record { vcn = vcn; lsn = lsn; entries = entries }

pub one_node : (body : List ℕ) (n m : Node) → IsNode body n → IsNode body m → n ≡ m
one_node body n m t u = same_node n m (sym (ok_from_node body n t) ∙ ok_from_node body m u)

pub root_parts : (value : List ℕ) → has_root_header value ≡ true → BeginsRoot value
unfolding has_root_header
root_parts value h =
    let a = leb 0x10 (length value) in
    let b = eqb (field 0x00 4 value) 0x30 in
    let c = eqb (field 0x04 4 value) 1 in
    let p = and_parts (a && b && c) (eqb (field 0x08 4 value) 4096) h in
    let q = and_parts (a && b) c p.0 in
    let r = and_parts a b q.0 in
    (leb-true _ _ r.0, eqb-true _ _ r.1, eqb-true _ _ q.1, eqb-true _ _ p.1)

pub root_from_parts : (value : List ℕ) → BeginsRoot value → has_root_header value ≡ true
unfolding has_root_header
root_from_parts value begins = and_from _ _ (and_from _ _ (and_from _ _ (le-leb _ _ begins.0) (eq-eqb _ _ begins.1)) (eq-eqb _ _ begins.2)) (eq-eqb _ _ begins.3)

pub root_from_ok : (value : List ℕ) (entries : List Entry) → root_at value ≡ Ok entries → IsRoot value entries
unfolding root_at
root_from_ok value entries e =
    let header = needs_from_ok (has_root_header value) 3 (λ _. node_entries (drop 0x10 value)) entries e in
    let begins = root_parts value header.0 in
    record {
      size = begins.0;
      kind = begins.1;
      collation = begins.2;
      block_bytes = begins.3;
      holds = holds_from_ok (drop 0x10 value) entries header.1;
    }

pub ok_from_root : (value : List ℕ) (entries : List Entry) → IsRoot value entries → root_at value ≡ Ok entries
unfolding root_at
ok_from_root value entries t =
    let header = root_from_parts value (t.size, t.kind, t.collation, t.block_bytes) in
    ap (λ (b : Bool). needs b 3 >>= λ _. node_entries (drop 0x10 value)) header ∙ ok_from_holds (drop 0x10 value) entries t.holds

pub one_root : (value : List ℕ) (entries others : List Entry) → IsRoot value entries → IsRoot value others → entries ≡ others
one_root value entries others t u = same_entries entries others (sym (ok_from_root value entries t) ∙ ok_from_root value others u)
