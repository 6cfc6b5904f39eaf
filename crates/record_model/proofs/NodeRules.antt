-- A refusal of a node's entries is the least rule that is broken.
use Rattle.std.proofs.Common.{◌≡◌, ◌⊎◌, ℕ, zero, suc, ◌*◌, ◌<◌, ◌≤◌, Bool, true, false, ltb, List, [], ◌∷◌, ◌++◌, length, map, take, drop, Result, Ok, Err, refl, sym, ap, ◌∙◌, subst, inl, inr, arith}
use Rattle.std.specs.List.{list_all, concat, AllByRecursion}
use Rattle.std.proofs.lemmas.Bool.{lt-ltb, le-ltb, ltb-true, ltb-false}
use Rattle.std.proofs.lemmas.List.{length-append, append_assoc, append-nil, take-append-drop, take_all}
use Rattle.disk_model.specs.host_base.Answers.{◌>>=◌, needs}
use Rattle.disk_model.specs.declared.block.BlockKind.TheVariants.{Index}
use Rattle.disk_model.specs.Numbers.{field}
use Rattle.disk_model.specs.Content.{is_signed}
use Rattle.record_model.specs.declared.entry.Entry.{Entry}
use Rattle.record_model.specs.Records.{Pieces, with_piece}
use Rattle.record_model.specs.Nodes.{Node, children_flag, has_node_header, entry_bytes, is_last, has_entry, entry_of, cut_entries, most_entries, has_flag, node_entries, node_at, has_root_header, root_at}
use Rattle.record_model.specs.NodeLaws.{IsInner, EntriesBefore, BeginsWithLast, IsTooShort, HasEntryFault, BeginsRoot, LeastBrokenRule, wrong_header, wrong_entry, no_last_entry, wrong_flag}
use Rattle.record_model.proofs.Pieces.{cut_into}
use Rattle.record_model.proofs.NodePieces.{IsEntryBytes, own_from_entry, entry_from_own, own_bytes_front, bytes_behind_front, cut_last, cut_short, cut_entries_next, cut_entry_front}
use Rattle.record_model.proofs.NodeTables.{make_node, flags_tested, root_parts, root_from_parts}

-- ---- an entry's own bytes

own_from_inner : (s : List ℕ) → IsInner s → IsEntryBytes s
own_from_inner s is =
    let whole : take (field 0x08 2 s) s ≡ s = ap (λ (n : ℕ). take n s) is.own_length ∙ take_all (length s) s (omega arith) in
    subst IsEntryBytes whole (own_from_entry s is.lawful).1

inner_from_own : (s : List ℕ) → IsEntryBytes s → is_last s ≡ false → IsInner s
inner_from_own s own before = record { lawful = ap has_entry (sym (append-nil s)) ∙ entry_from_own s [] own; own_length = own.own_length; before_last = before }

inner_long : (pieces : List (List ℕ)) → AllByRecursion IsInner pieces → 0x10 * length pieces ≤ length (concat pieces)
inner_long [] each = omega arith
inner_long (s ∷ pieces) each = omega (arith, length-append s (concat pieces), (own_from_inner s each.0).long, inner_long pieces each.1)

-- ---- the walk

data Walked (bytes : List ℕ) : Result Pieces ℕ → Type 0 where
  ended : (pieces : List (List ℕ)) (rest : List ℕ) → EntriesBefore rest pieces bytes → BeginsWithLast rest → Walked bytes (Ok (cut_into (pieces ++ take (field 0x08 2 rest) rest ∷ []) true))
  stopped : (pieces : List (List ℕ)) (rest : List ℕ) → EntriesBefore rest pieces bytes → IsTooShort rest → Walked bytes (Ok (cut_into pieces false))
  refused : (pieces : List (List ℕ)) (rest : List ℕ) → EntriesBefore rest pieces bytes → HasEntryFault rest → Walked bytes (Err 4)

stand_more : (s bytes rest : List ℕ) (pieces : List (List ℕ)) → IsInner s → EntriesBefore rest pieces bytes → EntriesBefore rest (s ∷ pieces) (s ++ bytes)
stand_more s bytes rest pieces is stand = record { placed = ap (λ (x : List ℕ). s ++ x) stand.placed ∙ sym (append_assoc s (concat pieces) rest); each = (is, stand.each) }

walked_more : (s bytes : List ℕ) (read : Result Pieces ℕ) → IsInner s → Walked bytes read → Walked (s ++ bytes) (with_piece s read)
walked_more s bytes read is (ended pieces rest stand last) = ended (s ∷ pieces) rest (stand_more s bytes rest pieces is stand) last
walked_more s bytes read is (stopped pieces rest stand short) = stopped (s ∷ pieces) rest (stand_more s bytes rest pieces is stand) short
walked_more s bytes read is (refused pieces rest stand fault) = refused (s ∷ pieces) rest (stand_more s bytes rest pieces is stand) fault

nothing_before : (bytes : List ℕ) → EntriesBefore bytes [] bytes
nothing_before bytes = record { placed = refl; each = tt }

-- what is known of the walk behind an entry
abbrev WalksRest : ℕ → Type 0
WalksRest most = (bytes : List ℕ) → length bytes < 0x10 * most → Walked bytes (cut_entries most bytes)

walk_last : (most : ℕ) (bytes : List ℕ) (last : Bool) → WalksRest most → length bytes < 0x10 * suc most → 0x10 ≤ length bytes → has_entry bytes ≡ true → is_last bytes ≡ last → Walked bytes (cut_last most bytes last)
walk_last most bytes true more few long lawful e = ended [] bytes (nothing_before bytes) (long, lawful, e)
walk_last most bytes false more few long lawful e =
    let n = field 0x08 2 bytes in
    let own = own_from_entry bytes lawful in
    let whole : take n bytes ++ drop n bytes ≡ bytes = take-append-drop n bytes in
    let rest = more (drop n bytes) (omega (arith, own.1.long, length-append (take n bytes) (drop n bytes), ap length whole)) in
    subst (λ (x : List ℕ). Walked x (with_piece (take n bytes) (cut_entries most (drop n bytes)))) whole (walked_more (take n bytes) (drop n bytes) (cut_entries most (drop n bytes)) (inner_from_own (take n bytes) own.1 (own.2 ∙ e)) rest)

walk_entry : (most : ℕ) (bytes : List ℕ) (lawful : Bool) → WalksRest most → length bytes < 0x10 * suc most → 0x10 ≤ length bytes → has_entry bytes ≡ lawful → Walked bytes (needs lawful 4 >>= λ _. cut_last most bytes (is_last bytes))
walk_entry most bytes true more few long e = walk_last most bytes (is_last bytes) more few long e refl
walk_entry most bytes false more few long e = refused [] bytes (nothing_before bytes) (long, e)

walk_short : (most : ℕ) (bytes : List ℕ) (short : Bool) → WalksRest most → length bytes < 0x10 * suc most → ltb (length bytes) 0x10 ≡ short → Walked bytes (cut_short most bytes short)
walk_short most bytes true more few e = stopped [] bytes (nothing_before bytes) (ltb-true _ _ e)
walk_short most bytes false more few e = walk_entry most bytes (has_entry bytes) more few (ltb-false _ _ e) refl

walked : (most : ℕ) (bytes : List ℕ) → length bytes < 0x10 * most → Walked bytes (cut_entries most bytes)
walked zero bytes few = absurd (omega arith)
walked (suc most) bytes few = subst (Walked bytes) (sym (cut_entries_next most bytes)) (walk_short most bytes (ltb (length bytes) 0x10) (walked most) few refl)

-- ---- a walk is cut as it stands

with_pieces : List (List ℕ) → Result Pieces ℕ → Result Pieces ℕ
with_pieces [] read = read
with_pieces (s ∷ pieces) read = with_piece s (with_pieces pieces read)

cut_before : (most : ℕ) (pieces : List (List ℕ)) (rest : List ℕ) (read : Result Pieces ℕ) → AllByRecursion IsInner pieces → ((k : ℕ) → cut_entries (suc k) rest ≡ read) → length pieces < most → cut_entries most (concat pieces ++ rest) ≡ with_pieces pieces read
unfolding with_pieces
cut_before zero pieces rest read each at_rest lt = absurd (omega arith)
cut_before (suc most) [] rest read each at_rest lt = at_rest most
cut_before (suc most) (s ∷ pieces) rest read each at_rest lt =
    let tail = concat pieces ++ rest in
    let own = own_from_inner s each.0 in
    ap (cut_entries (suc most)) (append_assoc s (concat pieces) rest)
    ∙ cut_entry_front most s tail false own each.0.before_last
    ∙ ap (λ (x : List ℕ). with_piece x (cut_entries most (drop (field 0x08 2 (s ++ tail)) (s ++ tail)))) (own_bytes_front s tail own)
    ∙ ap (λ (x : List ℕ). with_piece s (cut_entries most x)) (bytes_behind_front s tail own)
    ∙ ap (with_piece s) (cut_before most pieces rest read each.1 at_rest (omega arith))

ended_here : (rest : List ℕ) → BeginsWithLast rest → (k : ℕ) → cut_entries (suc k) rest ≡ Ok (cut_into (take (field 0x08 2 rest) rest ∷ []) true)
ended_here rest last k =
    cut_entries_next k rest
    ∙ ap (cut_short k rest) (le-ltb _ _ last.0)
    ∙ ap (λ (b : Bool). needs b 4 >>= λ _. cut_last k rest (is_last rest)) last.1
    ∙ ap (cut_last k rest) last.2

stopped_here : (rest : List ℕ) → IsTooShort rest → (k : ℕ) → cut_entries (suc k) rest ≡ Ok (cut_into [] false)
stopped_here rest short k = cut_entries_next k rest ∙ ap (cut_short k rest) (lt-ltb _ _ short)

refused_here : (rest : List ℕ) → HasEntryFault rest → (k : ℕ) → cut_entries (suc k) rest ≡ Err 4
refused_here rest fault k = cut_entries_next k rest ∙ ap (cut_short k rest) (le-ltb _ _ fault.0) ∙ ap (λ (b : Bool). needs b 4 >>= λ _. cut_last k rest (is_last rest)) fault.1

with_pieces_ok : (pieces more : List (List ℕ)) (final : Bool) → with_pieces pieces (Ok (cut_into more final)) ≡ Ok (cut_into (pieces ++ more) final)
unfolding with_pieces
with_pieces_ok [] more final = refl
with_pieces_ok (s ∷ pieces) more final = ap (with_piece s) (with_pieces_ok pieces more final)

with_pieces_err : (pieces : List (List ℕ)) (rule : ℕ) → with_pieces pieces (Err rule) ≡ Err rule
unfolding with_pieces
with_pieces_err [] rule = refl
with_pieces_err (s ∷ pieces) rule = ap (with_piece s) (with_pieces_err pieces rule)

abbrev cut_of : List ℕ → Result Pieces ℕ
cut_of bytes = cut_entries (most_entries bytes) bytes

cut_stands : (bytes : List ℕ) (pieces : List (List ℕ)) (rest : List ℕ) (read : Result Pieces ℕ) → EntriesBefore rest pieces bytes → ((k : ℕ) → cut_entries (suc k) rest ≡ read) → cut_of bytes ≡ with_pieces pieces read
cut_stands bytes pieces rest read stand here =
    let few : length pieces < most_entries bytes = omega (arith, inner_long pieces stand.each, ap length stand.placed, length-append (concat pieces) rest) in
    ap (cut_entries (most_entries bytes)) stand.placed ∙ cut_before (most_entries bytes) pieces rest read stand.each here few

-- ---- from what is broken to the refusal

behind_header : (node : List ℕ) (read : Result Pieces ℕ) → has_node_header node ≡ true → cut_of (entry_bytes node) ≡ read → node_entries node ≡ (read >>= flags_tested node)
unfolding node_entries
behind_header node read header e =
    ap (λ (b : Bool). needs b 3 >>= λ _. cut_of (entry_bytes node) >>= flags_tested node) header ∙ ap (λ (r : Result Pieces ℕ). r >>= flags_tested node) e

header_refused : (node : List ℕ) → has_node_header node ≡ false → node_entries node ≡ Err 3
unfolding node_entries
header_refused node e = ap (λ (b : Bool). needs b 3 >>= λ _. cut_of (entry_bytes node) >>= flags_tested node) e

pub err_from_least : (node : List ℕ) (rule : ℕ) → LeastBrokenRule node rule → node_entries node ≡ Err rule
err_from_least node rule (wrong_header e) = header_refused node e
err_from_least node rule (wrong_entry header pieces rest stand fault) = behind_header node (Err 4) header (cut_stands (entry_bytes node) pieces rest (Err 4) stand (refused_here rest fault) ∙ with_pieces_err pieces 4)
err_from_least node rule (no_last_entry header pieces rest stand short) =
    behind_header node (Ok (cut_into (pieces ++ []) false)) header (cut_stands (entry_bytes node) pieces rest (Ok (cut_into [] false)) stand (stopped_here rest short) ∙ with_pieces_ok pieces [] false)
err_from_least node rule (wrong_flag header pieces rest stand last e) =
    let own = take (field 0x08 2 rest) rest in
    behind_header node (Ok (cut_into (pieces ++ own ∷ []) true)) header (cut_stands (entry_bytes node) pieces rest (Ok (cut_into (own ∷ []) true)) stand (ended_here rest last) ∙ with_pieces_ok pieces (own ∷ []) true)
    ∙ ap (λ (b : Bool). needs b 6 >>= λ _. Ok (map entry_of (pieces ++ own ∷ []))) e

-- ---- from the refusal to what is broken

needs_from_err : {B F : Type 0} (test : Bool) (refusal : F) (next : Unit {0} → Result B F) (rule : F) → (needs test refusal >>= next) ≡ Err rule → ((test ≡ false) × (refusal ≡ rule)) ⊎ ((test ≡ true) × (next tt ≡ Err rule))
needs_from_err true refusal next rule e = inr (refl, e)
needs_from_err false refusal next rule e = inl (refl, cc)

abbrev accepted : List Entry → Result (List Entry) ℕ
accepted entries = Ok entries

accepted_never : (entries : List Entry) (rule : ℕ) → accepted entries ≡ Err rule → ⊥
accepted_never entries rule e = cc

abbrev refusal_of : ℕ → Result (List Entry) ℕ
refusal_of rule = Err rule

same_rule : (rule other : ℕ) → refusal_of rule ≡ refusal_of other → rule ≡ other
same_rule rule other e = cc

least_behind_walk : (node : List ℕ) (read : Result Pieces ℕ) (rule : ℕ) → has_node_header node ≡ true → Walked (entry_bytes node) read → (read >>= flags_tested node) ≡ Err rule → LeastBrokenRule node rule
least_behind_walk node read rule header (ended pieces rest stand last) e =
    let all = pieces ++ take (field 0x08 2 rest) rest ∷ [] in
    elim (needs_from_err (list_all (has_flag (children_flag node)) all) 6 (λ _. accepted (map entry_of all)) rule e) [
      | inl flag ↦ subst (LeastBrokenRule node) flag.1 (wrong_flag header pieces rest stand last flag.0)
      | inr fine ↦ absurd (accepted_never (map entry_of all) rule fine.1)
    ]
least_behind_walk node read rule header (stopped pieces rest stand short) e = subst (LeastBrokenRule node) (same_rule 5 rule e) (no_last_entry header pieces rest stand short)
least_behind_walk node read rule header (refused pieces rest stand fault) e = subst (LeastBrokenRule node) (same_rule 4 rule e) (wrong_entry header pieces rest stand fault)

pub least_from_err : (node : List ℕ) (rule : ℕ) → node_entries node ≡ Err rule → LeastBrokenRule node rule
unfolding node_entries
least_from_err node rule e =
    elim (needs_from_err (has_node_header node) 3 (λ _. cut_of (entry_bytes node) >>= flags_tested node) rule e) [
      | inl header ↦ subst (LeastBrokenRule node) header.1 (wrong_header header.0)
      | inr header ↦ least_behind_walk node (cut_of (entry_bytes node)) rule header.0 (walked (most_entries (entry_bytes node)) (entry_bytes node) (omega arith)) header.1
    ]

-- ---- blocks

abbrev blocked : List ℕ → Result (List Entry) ℕ → Result Node ℕ
blocked body read = read >>= λ entries. Ok (make_node body entries)

pub signature_refused : (body : List ℕ) → is_signed Index body ≡ false → node_at body ≡ Err 1
unfolding node_at
signature_refused body e = ap (λ (b : Bool). needs b 1 >>= λ _. blocked body (node_entries (drop 0x18 body))) e

behind_signature : (body : List ℕ) → is_signed Index body ≡ true → node_at body ≡ blocked body (node_entries (drop 0x18 body))
unfolding node_at
behind_signature body e = ap (λ (b : Bool). needs b 1 >>= λ _. blocked body (node_entries (drop 0x18 body))) e

err_behind : (body : List ℕ) (read : Result (List Entry) ℕ) (rule : ℕ) → blocked body read ≡ Err rule → read ≡ Err rule
err_behind body (Ok entries) rule e = absurd (never (make_node body entries) rule e)
  where
    answer : Node → Result Node ℕ
    answer n = Ok n

    never : (n : Node) (rule : ℕ) → answer n ≡ Err rule → ⊥
    never n rule e = cc
err_behind body (Err f) rule e = cc

pub body_least : (body : List ℕ) (rule : ℕ) → is_signed Index body ≡ true → node_at body ≡ Err rule → LeastBrokenRule (drop 0x18 body) rule
body_least body rule signed e = least_from_err (drop 0x18 body) rule (err_behind body (node_entries (drop 0x18 body)) rule (sym (behind_signature body signed) ∙ e))

pub body_err : (body : List ℕ) (rule : ℕ) → is_signed Index body ≡ true → LeastBrokenRule (drop 0x18 body) rule → node_at body ≡ Err rule
body_err body rule signed least = behind_signature body signed ∙ ap (blocked body) (err_from_least (drop 0x18 body) rule least)

-- ---- index roots

root_by : (value : List ℕ) (test : Bool) → has_root_header value ≡ test → root_at value ≡ (needs test 3 >>= λ _. node_entries (drop 0x10 value))
unfolding root_at
root_by value test e = ap (λ (b : Bool). needs b 3 >>= λ _. node_entries (drop 0x10 value)) e

refused_by : (value : List ℕ) (test : Bool) → has_root_header value ≡ test → (BeginsRoot value → ⊥) → root_at value ≡ Err 3
refused_by value true e other = absurd (other (root_parts value e))
refused_by value false e other = root_by value false e

pub root_refused : (value : List ℕ) → (BeginsRoot value → ⊥) → root_at value ≡ Err 3
root_refused value other = refused_by value (has_root_header value) refl other

behind_begin : (value : List ℕ) → BeginsRoot value → root_at value ≡ node_entries (drop 0x10 value)
behind_begin value begins = root_by value true (root_from_parts value begins)

pub root_least : (value : List ℕ) (rule : ℕ) → BeginsRoot value → root_at value ≡ Err rule → LeastBrokenRule (drop 0x10 value) rule
root_least value rule begins e = least_from_err (drop 0x10 value) rule (sym (behind_begin value begins) ∙ e)

pub root_err : (value : List ℕ) (rule : ℕ) → BeginsRoot value → LeastBrokenRule (drop 0x10 value) rule → root_at value ≡ Err rule
root_err value rule begins least = behind_begin value begins ∙ err_from_least (drop 0x10 value) rule least
