-- A record's body: what the table says is what is read, and what is read is in the table.
use Rattle.std.proofs.Common.{◌≡◌, ℕ, ◌+◌, ◌-◌, ◌%◌, ◌<◌, ◌≤◌, Bool, true, leb, ltb, eqb, List, [], ◌∷◌, ◌++◌, length, map, drop, Result, Ok, refl, sym, ap, ◌∙◌, subst, arith}
use Rattle.std.specs.Prelude.{IsTrue}
use Rattle.std.specs.List.{list_all, concat, AllByRecursion}
use Rattle.std.proofs.lemmas.Bool.{le-leb, leb-true, lt-ltb, ltb-true, eq-eqb, eqb-true, and_from, and_parts}
use Rattle.std.proofs.lemmas.List.{length-append, length-take, length-drop}
use Rattle.std.proofs.lemmas.List.Elements.{All-from_recursion, recursion_from_All}
use Rattle.disk_model.specs.host_base.Answers.{◌>>=◌, needs}
use Rattle.disk_model.specs.Numbers.{field, spell}
use Rattle.disk_model.specs.Bytes.{AreBytes}
use Rattle.disk_model.proofs.Fields.{length-spell, AreBytes-drop}
use Rattle.record_model.specs.declared.record.RecHead.{RecHead}
use Rattle.record_model.specs.declared.attribute.Attr.{Attr}
use Rattle.record_model.specs.Attributes.{is_inside, head_of, attr_of}
use Rattle.record_model.specs.Values.{has_lawful_value}
use Rattle.record_model.specs.Records.{Record, Pieces, first_at, used_bytes, allocated_bytes, has_first, has_size, attribute_bytes, cut, most_attributes, types_rise, rec_head_of, record_at, SpellEach, TypesRise, IsFileRecord}
use Rattle.record_model.proofs.Answering.{steps_from_ok, needs_from_ok}
use Rattle.record_model.proofs.Attributes.{own_from_table, attr_from_table, inside_from_table, table_from_read}
use Rattle.record_model.proofs.Pieces.{IsPiece, cut_into, cut_from_ok, cut_joined, pieces_long, AreBytes-take}

-- ---- the attributes' bytes

pub AreBytes-attribute_bytes : (body : List ℕ) → AreBytes body → AreBytes (attribute_bytes body)
unfolding attribute_bytes
AreBytes-attribute_bytes body each = AreBytes-take (used_bytes body - first_at body) (drop (first_at body) body) (AreBytes-drop (first_at body) body each)

length-drop_le : (n : ℕ) (bytes : List ℕ) → length (drop n bytes) ≤ length bytes
length-drop_le n bytes = omega (arith, length-drop n bytes)

pub attribute_bytes_short : (body : List ℕ) → length (attribute_bytes body) ≤ length body
unfolding attribute_bytes
attribute_bytes_short body = omega (arith, length-take (used_bytes body - first_at body) (drop (first_at body) body), length-drop_le (first_at body) body)

-- ---- from the table

-- the spellings of a table are pieces
pub pieces_from_table : (spellings : List (List ℕ)) (attrs : List Attr) → SpellEach spellings attrs → AllByRecursion (λ a. a.head.kind < 0xFFFFFFFF) attrs → AllByRecursion IsPiece spellings
pieces_from_table [] [] each kinds = tt
pieces_from_table [] (a ∷ attrs) each kinds = absurd each
pieces_from_table (s ∷ spellings) [] each kinds = absurd each
pieces_from_table (s ∷ spellings) (a ∷ attrs) each kinds =
    (record { own = own_from_table s a each.0; kind = subst (λ (x : ℕ). x < 0xFFFFFFFF) (sym each.0.kind) kinds.0 }, pieces_from_table spellings attrs each.1 kinds.1)

pub attrs_from_table : (spellings : List (List ℕ)) (attrs : List Attr) → SpellEach spellings attrs → map attr_of spellings ≡ attrs
attrs_from_table [] [] each = refl
attrs_from_table [] (a ∷ attrs) each = absurd each
attrs_from_table (s ∷ spellings) [] each = absurd each
attrs_from_table (s ∷ spellings) (a ∷ attrs) each =
    ap (λ (x : Attr). x ∷ map attr_of spellings) (attr_from_table s a each.0) ∙ ap (λ (xs : List Attr). a ∷ xs) (attrs_from_table spellings attrs each.1)

pub inside_from_tables : (spellings : List (List ℕ)) (attrs : List Attr) → SpellEach spellings attrs → list_all is_inside spellings ≡ true
inside_from_tables [] [] each = refl
inside_from_tables [] (a ∷ attrs) each = absurd each
inside_from_tables (s ∷ spellings) [] each = absurd each
inside_from_tables (s ∷ spellings) (a ∷ attrs) each = and_from _ _ (inside_from_table s a each.0) (inside_from_tables spellings attrs each.1)

-- ---- types

kind_read : (s : List ℕ) → (attr_of s).head.kind ≡ field 0x00 4 s
unfolding attr_of head_of
kind_read s = refl

pub rise_from_test : (pieces : List (List ℕ)) → types_rise pieces ≡ true → TypesRise (map attr_of pieces)
rise_from_test [] e = tt
rise_from_test (p ∷ []) e = tt
rise_from_test (p ∷ q ∷ pieces) e =
    let parts = and_parts (leb (field 0 4 p) (field 0 4 q)) (types_rise (q ∷ pieces)) e in
    let le : field 0 4 p ≤ field 0 4 q = leb-true _ _ parts.0 in
    (omega (arith, kind_read p, kind_read q), rise_from_test (q ∷ pieces) parts.1)

pub test_from_rise : (pieces : List (List ℕ)) → TypesRise (map attr_of pieces) → types_rise pieces ≡ true
test_from_rise [] rise = refl
test_from_rise (p ∷ []) rise = refl
test_from_rise (p ∷ q ∷ pieces) rise =
    and_from (leb (field 0 4 p) (field 0 4 q)) (types_rise (q ∷ pieces)) (le-leb _ _ (omega (arith, kind_read p, kind_read q, rise.0))) (test_from_rise (q ∷ pieces) rise.1)

-- ---- values

lawful_from_all : (attrs : List Attr) → AllByRecursion (λ a. IsTrue (has_lawful_value a)) attrs → list_all has_lawful_value attrs ≡ true
lawful_from_all [] all = refl
lawful_from_all (a ∷ attrs) all = and_from (has_lawful_value a) (list_all has_lawful_value attrs) all.0 (lawful_from_all attrs all.1)

all_from_lawful : (attrs : List Attr) → list_all has_lawful_value attrs ≡ true → AllByRecursion (λ a. IsTrue (has_lawful_value a)) attrs
all_from_lawful [] e = tt
all_from_lawful (a ∷ attrs) e = let parts = and_parts (has_lawful_value a) (list_all has_lawful_value attrs) e in (parts.0, all_from_lawful attrs parts.1)

-- ---- from the reader

-- pieces with their names and values inside are spellings of what is read
pub each_from_pieces : (pieces : List (List ℕ)) → AllByRecursion IsPiece pieces → list_all is_inside pieces ≡ true → SpellEach pieces (map attr_of pieces)
each_from_pieces [] each inside = tt
each_from_pieces (s ∷ pieces) each inside =
    let parts = and_parts (is_inside s) (list_all is_inside pieces) inside in
    (table_from_read s each.0.own parts.0, each_from_pieces pieces each.1 parts.1)

kinds_from_pieces : (pieces : List (List ℕ)) → AllByRecursion IsPiece pieces → AllByRecursion (λ a. a.head.kind < 0xFFFFFFFF) (map attr_of pieces)
kinds_from_pieces [] each = tt
kinds_from_pieces (s ∷ pieces) each = (omega (arith, kind_read s, each.0.kind), kinds_from_pieces pieces each.1)

-- the tests behind the cut, and the record
abbrev pub tested : List ℕ → Pieces → Result Record ℕ
tested body p =
    needs (types_rise p.pieces) 4
    >>= λ _. needs p.ended 5
    >>= λ _. needs (list_all is_inside p.pieces) 6
    >>= λ _. needs (list_all has_lawful_value (map attr_of p.pieces)) 8
    >>= λ _. Ok (record { head = rec_head_of body; attrs = map attr_of p.pieces })

abbrev answer : Record → Result Record ℕ
answer r = Ok r

same_record : (q r : Record) → answer q ≡ answer r → q ≡ r
same_record q r e = cc

-- what was tested and passed
pub record Passed (body : List ℕ) (r : Record) : Type 0 where
  pub first : has_first body ≡ true
  pub size : has_size body ≡ true
  pub pieces : List (List ℕ)
  pub are_cut : cut most_attributes (attribute_bytes body) ≡ Ok (cut_into pieces true)
  pub rise : types_rise pieces ≡ true
  pub inside : list_all is_inside pieces ≡ true
  pub lawful : list_all has_lawful_value (map attr_of pieces) ≡ true
  pub head : rec_head_of body ≡ r.head
  pub attrs : map attr_of pieces ≡ r.attrs

pub passed_from_ok : (body : List ℕ) (r : Record) → record_at body ≡ Ok r → Passed body r
unfolding record_at
passed_from_ok body r e =
    let first = needs_from_ok (has_first body) 1 (λ _. needs (has_size body) 2 >>= λ _. cut most_attributes (attribute_bytes body) >>= λ p. tested body p) r e in
    let size = needs_from_ok (has_size body) 2 (λ _. cut most_attributes (attribute_bytes body) >>= λ p. tested body p) r first.1 in
    let read = steps_from_ok (cut most_attributes (attribute_bytes body)) (tested body) r size.1 in
    let pieces = read.0.pieces in
    let made = answer (record { head = rec_head_of body; attrs = map attr_of pieces }) in
    let rise = needs_from_ok (types_rise pieces) 4 (λ _. needs read.0.ended 5 >>= λ _. needs (list_all is_inside pieces) 6 >>= λ _. needs (list_all has_lawful_value (map attr_of pieces)) 8 >>= λ _. made) r read.2 in
    let ended = needs_from_ok read.0.ended 5 (λ _. needs (list_all is_inside pieces) 6 >>= λ _. needs (list_all has_lawful_value (map attr_of pieces)) 8 >>= λ _. made) r rise.1 in
    let inside = needs_from_ok (list_all is_inside pieces) 6 (λ _. needs (list_all has_lawful_value (map attr_of pieces)) 8 >>= λ _. made) r ended.1 in
    let lawful = needs_from_ok (list_all has_lawful_value (map attr_of pieces)) 8 (λ _. made) r inside.1 in
    let same = same_record (record { head = rec_head_of body; attrs = map attr_of pieces }) r lawful.1 in
    record {
      first = first.0;
      size = size.0;
      pieces = pieces;
      are_cut = read.1 ∙ ap (λ (b : Bool). Ok (cut_into pieces b)) ended.0;
      rise = rise.0;
      inside = inside.0;
      lawful = lawful.0;
      head = ap (λ (q : Record). q.head) same;
      attrs = ap (λ (q : Record). q.attrs) same;
    }

pub ok_from_passed : (body : List ℕ) (r : Record) → Passed body r → record_at body ≡ Ok r
unfolding record_at
ok_from_passed body r p =
    let lawful = ap (λ (b : Bool). needs b 8 >>= λ _. Ok (make (rec_head_of body) (map attr_of p.pieces))) p.lawful in
    let inside = ap (λ (b : Bool). needs b 6 >>= λ _. needs (list_all has_lawful_value (map attr_of p.pieces)) 8 >>= λ _. Ok (make (rec_head_of body) (map attr_of p.pieces))) p.inside in
    let rise = ap (λ (b : Bool). needs b 4 >>= λ _. needs (list_all is_inside p.pieces) 6 >>= λ _. needs (list_all has_lawful_value (map attr_of p.pieces)) 8 >>= λ _. Ok (make (rec_head_of body) (map attr_of p.pieces))) p.rise in
    ap (λ (b : Bool). needs b 1 >>= λ _. needs (has_size body) 2 >>= λ _. cut most_attributes (attribute_bytes body) >>= tested body) p.first
    ∙ ap (λ (b : Bool). needs b 2 >>= λ _. cut most_attributes (attribute_bytes body) >>= tested body) p.size
    ∙ ap (λ (c : Result Pieces ℕ). c >>= tested body) p.are_cut
    ∙ rise ∙ inside ∙ lawful
    ∙ ap (λ (h : RecHead). Ok (make h (map attr_of p.pieces))) p.head
    ∙ ap (λ (attrs : List Attr). Ok (make r.head attrs)) p.attrs
  where
    make : RecHead → List Attr → Record
    make head attrs = record { head = head; attrs = attrs }

-- ---- the two directions

pub table_is_read : (body : List ℕ) (r : Record) → length body ≡ 1024 → IsFileRecord body r → record_at body ≡ Ok r
unfolding has_first has_size
table_is_read body r long t =
    let kinds = recursion_from_All (λ (a : Attr). a.head.kind < 0xFFFFFFFF) r.attrs t.kinds in
    let pieces = pieces_from_table t.spellings r.attrs t.spelled kinds in
    let attrs = attrs_from_table t.spellings r.attrs t.spelled in
    let size : length (attribute_bytes body) ≡ length (concat t.spellings) + (4 + length t.behind) = ap length t.placed ∙ length-append (concat t.spellings) (spell 4 0xFFFFFFFF ++ t.behind) ∙ ap (λ (x : ℕ). length (concat t.spellings) + x) (length-append (spell 4 0xFFFFFFFF) t.behind ∙ ap (λ (x : ℕ). x + length t.behind) (length-spell 4 0xFFFFFFFF)) in
    let few : length t.spellings < 43 = omega (arith, pieces_long t.spellings pieces, attribute_bytes_short body) in
    ok_from_passed body r (record {
      first = and_from _ _ (eq-eqb _ _ t.first) (lt-ltb _ _ t.first_inside);
      size = and_from _ _ (le-leb _ _ t.used) (eq-eqb _ _ t.allocated);
      pieces = t.spellings;
      are_cut = ap (cut 43) t.placed ∙ cut_joined 43 t.spellings t.behind pieces few;
      rise = test_from_rise t.spellings (subst TypesRise (sym attrs) t.rise);
      inside = inside_from_tables t.spellings r.attrs t.spelled;
      lawful = ap (list_all has_lawful_value) attrs ∙ lawful_from_all r.attrs (recursion_from_All (λ (a : Attr). IsTrue (has_lawful_value a)) r.attrs t.lawful);
      head = t.head;
      attrs = attrs;
    })

pub read_is_table : (body : List ℕ) (r : Record) → AreBytes body → record_at body ≡ Ok r → IsFileRecord body r
unfolding has_first has_size
read_is_table body r each e =
    let p = passed_from_ok body r e in
    let first = and_parts (eqb (first_at body % 8) 0) (ltb (first_at body) (used_bytes body)) p.first in
    let size = and_parts (leb (used_bytes body) (allocated_bytes body)) (eqb (allocated_bytes body) 1024) p.size in
    let are = cut_from_ok 43 (attribute_bytes body) p.pieces (AreBytes-attribute_bytes body each) p.are_cut in
    record {
      first = eqb-true _ _ first.0;
      first_inside = ltb-true _ _ first.1;
      used = leb-true _ _ size.0;
      allocated = eqb-true _ _ size.1;
      head = p.head;
      spellings = p.pieces;
      behind = are.behind;
      placed = are.placed;
      spelled = subst (SpellEach p.pieces) p.attrs (each_from_pieces p.pieces are.each p.inside);
      kinds = All-from_recursion (λ (a : Attr). a.head.kind < 0xFFFFFFFF) r.attrs (subst (AllByRecursion (λ (a : Attr). a.head.kind < 0xFFFFFFFF)) p.attrs (kinds_from_pieces p.pieces are.each));
      rise = subst TypesRise p.attrs (rise_from_test p.pieces p.rise);
      lawful = All-from_recursion (λ (a : Attr). IsTrue (has_lawful_value a)) r.attrs (all_from_lawful r.attrs (ap (list_all has_lawful_value) (sym p.attrs) ∙ p.lawful));
    }

pub one_record : (body : List ℕ) (r q : Record) → length body ≡ 1024 → IsFileRecord body r → IsFileRecord body q → r ≡ q
one_record body r q long t u = same_record r q (sym (table_is_read body r long t) ∙ table_is_read body q long u)
