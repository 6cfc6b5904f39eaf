-- The attributes of a record that a body has are made of its bytes.
use Rattle.std.proofs.Common.{◌≡◌, ℕ, zero, suc, ◌+◌, ◌-◌, ◌≤◌, Bool, true, false, eqb, leb, ltb, List, [], ◌∷◌, length, take, drop, Result, Ok, sym, ap, subst, ◌∙◌, arith}
use Rattle.std.specs.Prelude.{map}
use Rattle.std.specs.List.{list_all}
use Rattle.std.proofs.lemmas.Bool.{and_parts, leb-true, eqb-true}
use Rattle.std.proofs.lemmas.List.{length-take, length-drop}
use Rattle.host_base.specs.Answers.{◌>>=◌, needs}
use Rattle.disk_model.specs.Numbers.{field}
use Rattle.record_model.specs.Attributes.{has_length, is_inside, attr_of}
use Rattle.record_model.specs.Records.{Record, Pieces, used_bytes, first_at, allocated_bytes, has_first, has_size, attribute_bytes, is_end_mark, with_piece, cut, most_attributes, types_rise, rec_head_of, shaped_at, has_lawful_values}
use Rattle.record_model.proofs.Answering.{steps_from_ok, needs_from_ok}
use Rattle.record_model.proofs.Pieces.{cut_into, cut_at_mark, cut_at_end}
use Rattle.state_model.specs.Loads.{has_all_pairs, whole_record}

-- ---- the bytes that are cut into attributes

abbrev pub bytes_in : List (List ℕ) → ℕ
bytes_in [] = 0
bytes_in (s ∷ pieces) = length s + bytes_in pieces

abbrev AreFew : ℕ → List (List ℕ) → Type 0
AreFew size pieces = bytes_in pieces ≤ size

-- what is known of what is cut behind the first piece
abbrev CutsFew : ℕ → Type 0
CutsFew most = (bytes : List ℕ) (p : Pieces) → cut most bytes ≡ Ok p → AreFew (length bytes) p.pieces

abbrev Cuts : Result Pieces ℕ → Pieces → Type 0
Cuts read p = read ≡ Ok p

none_cut : (ended : Bool) (size : ℕ) (p : Pieces) → Cuts (Ok (cut_into [] ended)) p → AreFew size p.pieces
none_cut ended size p is = (let same : cut_into [] ended ≡ p = cc in subst (λ (x : Pieces). AreFew size x.pieces) same (omega arith))

marked_few : (most : ℕ) (bytes : List ℕ) (p : Pieces) (marked : Bool) → CutsFew most → cut_at_mark most bytes marked ≡ Ok p → AreFew (length bytes) p.pieces
marked_few most bytes p true more is = none_cut true (length bytes) p is
marked_few most bytes p false more is =
    let n = field 0x04 4 bytes in
    let fits = needs_from_ok (has_length bytes) 3 (λ _. with_piece (take n bytes) (cut most (drop n bytes))) p is in
    let read = steps_from_ok (cut most (drop n bytes)) (λ (q : Pieces). Ok (cut_into (take n bytes ∷ q.pieces) q.ended)) p fits.1 in
    let later = more (drop n bytes) read.0 read.1 in
    let same : cut_into (take n bytes ∷ read.0.pieces) read.0.ended ≡ p = (let e = read.2 in cc) in
    subst (λ (x : Pieces). AreFew (length bytes) x.pieces) same (omega (arith, later, length-take n bytes, length-drop n bytes))

ended_few : (most : ℕ) (bytes : List ℕ) (p : Pieces) (short : Bool) → CutsFew most → cut_at_end most bytes short ≡ Ok p → AreFew (length bytes) p.pieces
ended_few most bytes p true more is = none_cut false (length bytes) p is
ended_few most bytes p false more is = marked_few most bytes p (is_end_mark bytes) more is

cut_few : (most : ℕ) (bytes : List ℕ) (p : Pieces) → cut most bytes ≡ Ok p → AreFew (length bytes) p.pieces
unfolding cut
cut_few zero bytes p is = none_cut false (length bytes) p is
cut_few (suc most) bytes p is = ended_few most bytes p (ltb (length bytes) 4) (cut_few most) is

-- ---- a record

-- the record is made of these pieces of a body
pub record IsMadeOf (body : List ℕ) (r : Record) : Type 0 where
  pub pieces : List (List ℕ)
  pub attrs : r.attrs ≡ map attr_of pieces
  pub bytes : bytes_in pieces ≤ 1024

-- the tests behind the cut, and the record
abbrev tested : List ℕ → Pieces → Result Record ℕ
tested body p = needs (types_rise p.pieces) 4 >>= λ _. needs p.ended 5 >>= λ _. needs (list_all is_inside p.pieces) 6 >>= λ _. Ok (record { head = rec_head_of body; attrs = map attr_of p.pieces })

attrs_of : (body : List ℕ) (p : Pieces) (r : Record) → tested body p ≡ Ok r → r.attrs ≡ map attr_of p.pieces
attrs_of body p r is =
    let rise = needs_from_ok (types_rise p.pieces) 4 (λ _. needs p.ended 5 >>= λ _. needs (list_all is_inside p.pieces) 6 >>= λ _. Ok (record { head = rec_head_of body; attrs = map attr_of p.pieces })) r is in
    let ended = needs_from_ok p.ended 5 (λ _. needs (list_all is_inside p.pieces) 6 >>= λ _. Ok (record { head = rec_head_of body; attrs = map attr_of p.pieces })) r rise.1 in
    let inside = needs_from_ok (list_all is_inside p.pieces) 6 (λ _. Ok (record { head = rec_head_of body; attrs = map attr_of p.pieces })) r ended.1 in
    let same : record_of body p ≡ r = (let e = inside.1 in cc) in
    ap (λ (x : Record). x.attrs) (sym same)
  where
    record_of : List ℕ → Pieces → Record
    record_of b q = record { head = rec_head_of b; attrs = map attr_of q.pieces }

-- a body has at most 1,024 bytes of attributes
short_bytes : (body : List ℕ) → has_size body ≡ true → length (attribute_bytes body) ≤ 1024
unfolding has_size attribute_bytes
short_bytes body is =
    let parts = and_parts (leb (used_bytes body) (allocated_bytes body)) (eqb (allocated_bytes body) 1024) is in
    let used = leb-true (used_bytes body) (allocated_bytes body) parts.0 in
    let allocated = eqb-true (allocated_bytes body) 1024 parts.1 in
    omega (arith, used, allocated, length-take (used_bytes body - first_at body) (drop (first_at body) body))

made_of : (body : List ℕ) (r : Record) → shaped_at body ≡ Ok r → IsMadeOf body r
unfolding shaped_at
made_of body r is =
    let first = needs_from_ok (has_first body) 1 (λ _. needs (has_size body) 2 >>= λ _. cut most_attributes (attribute_bytes body) >>= λ p. tested body p) r is in
    let size = needs_from_ok (has_size body) 2 (λ _. cut most_attributes (attribute_bytes body) >>= λ p. tested body p) r first.1 in
    let read = steps_from_ok (cut most_attributes (attribute_bytes body)) (tested body) r size.1 in
    let few = cut_few most_attributes (attribute_bytes body) read.0 read.1 in
    record { pieces = read.0.pieces; attrs = attrs_of body read.0 r read.2; bytes = omega (arith, few, short_bytes body size.0) }

pub whole_made_of : (body : List ℕ) (r : Record) → whole_record body ≡ Ok r → IsMadeOf body r
unfolding whole_record
whole_made_of body r is =
    let shaped = steps_from_ok (shaped_at body) (λ q. needs (has_all_pairs q) 7 >>= λ _. needs (has_lawful_values q) 8 >>= λ _. Ok q) r is in
    let pairs = needs_from_ok (has_all_pairs shaped.0) 7 (λ _. needs (has_lawful_values shaped.0) 8 >>= λ _. Ok shaped.0) r shaped.2 in
    let lawful = needs_from_ok (has_lawful_values shaped.0) 8 (λ _. Ok shaped.0) r pairs.1 in
    let same : shaped.0 ≡ r = (let e = lawful.1 in cc) in
    made_of body r (shaped.1 ∙ ap (λ (x : Record). Ok x) same)
