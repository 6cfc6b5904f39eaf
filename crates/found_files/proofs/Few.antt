-- The record of a body has few attributes and few runs.
use Rattle.std.proofs.Common.{◌≡◌, ℕ, zero, suc, ◌+◌, ◌*◌, ◌-◌, ◌≤◌, Bool, true, false, cond, eqb, leb, ltb, List, [], ◌∷◌, ◌++◌, length, take, drop, Some, Result, Ok, Err, refl, sym, ap, subst, ◌∙◌, inl, inr, arith}
use Rattle.std.specs.Prelude.{map, filter}
use Rattle.std.specs.List.{sum_by, list_all}
use Rattle.std.proofs.lemmas.Bool.{cases_Bool, and_parts, leb-true, eqb-true}
use Rattle.std.proofs.lemmas.List.{length-append, length-take, length-drop, length-map}
use Rattle.std.proofs.lemmas.List.Concat.{length-flat_map}
use Rattle.std.proofs.lemmas.List.Sums.{sum_by-cons}
use Rattle.host_base.specs.Answers.{◌>>=◌, needs}
use Rattle.disk_model.specs.Numbers.{field}
use Rattle.record_model.specs.declared.attribute.Attr.{Attr}
use Rattle.record_model.specs.declared.attribute.OwnForm.TheVariants.{Resident, Mapped}
use Rattle.record_model.specs.declared.attribute.Sizes.{Sizes}
use Rattle.record_model.specs.declared.runs.PairsFault.{PairsFault}
use Rattle.record_model.specs.declared.runs.Run.{Run}
use Rattle.record_model.specs.Attributes.{has_length, is_inside, is_mapped, sizes_of, form_of, attr_of}
use Rattle.record_model.specs.Pairs.{runs_of, SpellsRuns}
use Rattle.record_model.specs.Records.{Record, Pieces, used_bytes, first_at, allocated_bytes, has_first, has_size, attribute_bytes, is_end_mark, with_piece, cut, most_attributes, types_rise, rec_head_of, shaped_at, has_lawful_values}
use Rattle.record_model.proofs.Answering.{steps_from_ok, needs_from_ok}
use Rattle.record_model.proofs.PairsBack.{read_spelled}
use Rattle.record_model.proofs.Pieces.{cut_into, cut_at_mark, cut_at_end}
use Rattle.state_model.specs.declared.stream.Extents.{Extents}
use Rattle.state_model.specs.declared.stream.Stream.TheVariants.{Placed}
use Rattle.state_model.specs.Loads.{has_all_pairs, whole_record}
use Rattle.state_model.specs.Streams.{is_attribute_of, attributes_of, runs_or, form_runs, attribute_runs, stream_of}
use Rattle.stream_laws.proofs.Sharing.{attributes_sum}
use Rattle.written_made.proofs.plan_growth.Placed.{runs_of_attributes}

-- ---- the bytes that are cut into attributes

abbrev bytes_in : List (List ℕ) → ℕ
bytes_in [] = 0
bytes_in (s ∷ pieces) = length s + bytes_in pieces

record AreFew (most size : ℕ) (pieces : List (List ℕ)) : Type 0 where
  count : length pieces ≤ most
  bytes : bytes_in pieces ≤ size

-- what is known of what is cut behind the first piece
abbrev CutsFew : ℕ → Type 0
CutsFew most = (bytes : List ℕ) (p : Pieces) → cut most bytes ≡ Ok p → AreFew most (length bytes) p.pieces

abbrev Cuts : Result Pieces ℕ → Pieces → Type 0
Cuts read p = read ≡ Ok p

none_cut : (ended : Bool) (most size : ℕ) (p : Pieces) → Cuts (Ok (cut_into [] ended)) p → AreFew most size p.pieces
none_cut ended most size p is = (let same : cut_into [] ended ≡ p = cc in subst (λ (x : Pieces). AreFew most size x.pieces) same (record { count = omega arith; bytes = omega arith }))

marked_few : (most : ℕ) (bytes : List ℕ) (p : Pieces) (marked : Bool) → CutsFew most → cut_at_mark most bytes marked ≡ Ok p → AreFew (suc most) (length bytes) p.pieces
marked_few most bytes p true more is = none_cut true (suc most) (length bytes) p is
marked_few most bytes p false more is =
    let n = field 0x04 4 bytes in
    let fits = needs_from_ok (has_length bytes) 3 (λ _. with_piece (take n bytes) (cut most (drop n bytes))) p is in
    let read = steps_from_ok (cut most (drop n bytes)) (λ (q : Pieces). Ok (cut_into (take n bytes ∷ q.pieces) q.ended)) p fits.1 in
    let later = more (drop n bytes) read.0 read.1 in
    let same : cut_into (take n bytes ∷ read.0.pieces) read.0.ended ≡ p = (let e = read.2 in cc) in
    subst (λ (x : Pieces). AreFew (suc most) (length bytes) x.pieces) same (record { count = omega (arith, later.count); bytes = omega (arith, later.bytes, length-take n bytes, length-drop n bytes) })

ended_few : (most : ℕ) (bytes : List ℕ) (p : Pieces) (short : Bool) → CutsFew most → cut_at_end most bytes short ≡ Ok p → AreFew (suc most) (length bytes) p.pieces
ended_few most bytes p true more is = none_cut false (suc most) (length bytes) p is
ended_few most bytes p false more is = marked_few most bytes p (is_end_mark bytes) more is

cut_few : (most : ℕ) (bytes : List ℕ) (p : Pieces) → cut most bytes ≡ Ok p → AreFew most (length bytes) p.pieces
unfolding cut
cut_few zero bytes p is = none_cut false 0 (length bytes) p is
cut_few (suc most) bytes p is = ended_few most bytes p (ltb (length bytes) 4) (cut_few most) is

-- ---- runs

-- each run takes two bytes at least
spelled_twice : (before : ℕ) (runs : List Run) (bytes : List ℕ) → SpellsRuns before runs bytes → 2 * length runs ≤ length bytes
spelled_twice before [] bytes is = omega arith
spelled_twice before (r ∷ runs) bytes (rest, (pair, later)) =
    let size = ap length pair.whole in
    let one = length-append pair.len (pair.delta ++ rest) in
    let two = length-append pair.delta rest in
    omega (arith, size, one, two, pair.len_some, spelled_twice _ runs rest later)

read_twice : (first : ℕ) (pairs : List ℕ) (result : Result (List Run) PairsFault) → runs_of first pairs ≡ result → 2 * length (runs_or result) ≤ length pairs
read_twice first pairs (Ok runs) is = spelled_twice 0 runs pairs (read_spelled first runs pairs is).1
read_twice first pairs (Err fault) is = omega arith

form_twice : (mapped : Bool) (sizes : Sizes) (s value : List ℕ) (at indexed : ℕ) → 2 * length (form_runs (cond mapped (Mapped sizes (drop at s)) (Resident value indexed))) ≤ length s
form_twice true sizes s value at indexed = omega (arith, read_twice sizes.first (drop at s) (runs_of sizes.first (drop at s)) refl, length-drop at s)
form_twice false sizes s value at indexed = omega arith

piece_twice : (s : List ℕ) → 2 * length (attribute_runs (attr_of s)) ≤ length s
unfolding attribute_runs attr_of form_of
piece_twice s = form_twice (is_mapped s) (sizes_of s) s _ (field 0x20 2 s) _

-- how many runs an attribute has
abbrev run_count : Attr → ℕ
run_count a = length (attribute_runs a)

all_twice : (pieces : List (List ℕ)) → 2 * sum_by run_count (map attr_of pieces) ≤ bytes_in pieces
all_twice [] = omega arith
all_twice (s ∷ pieces) = omega (arith, sum_by-cons run_count (attr_of s) (map attr_of pieces), piece_twice s, all_twice pieces)

some_of_all : (p : Attr → Bool) (attrs : List Attr) → sum_by run_count (filter p attrs) ≤ sum_by run_count attrs
some_of_all p [] = omega arith
some_of_all p (a ∷ attrs) = elim (cases_Bool (p a)) [
  | inl own ↦ rw own (omega (arith, sum_by-cons run_count a (filter p attrs), sum_by-cons run_count a attrs, some_of_all p attrs))
  | inr other ↦ rw other (omega (arith, sum_by-cons run_count a attrs, some_of_all p attrs))
]

-- ---- a record

-- the record is made of these pieces of a body
pub record IsMadeOf (body : List ℕ) (r : Record) : Type 0 where
  pub pieces : List (List ℕ)
  pub attrs : r.attrs ≡ map attr_of pieces
  pub count : length pieces ≤ 43
  pub bytes : bytes_in pieces ≤ 1024

-- the tests behind the cut, and the record
abbrev tested : List ℕ → Pieces → Result Record ℕ
tested body p = needs (types_rise p.pieces) 4 >>= λ _. needs p.ended 5 >>= λ _. needs (list_all is_inside p.pieces) 6 >>= λ _. Ok (record { head = rec_head_of body; attrs = map attr_of p.pieces })

attrs_of : (body : List ℕ) (p : Pieces) (r : Record) → tested body p ≡ Ok r → r.attrs ≡ map attr_of p.pieces
attrs_of body p r is =
    let rise = needs_from_ok (types_rise p.pieces) 4 (λ _. needs p.ended 5 >>= λ _. needs (list_all is_inside p.pieces) 6 >>= λ _. Ok (record { head = rec_head_of body; attrs = map attr_of p.pieces })) r is in
    let ended = needs_from_ok p.ended 5 (λ _. needs (list_all is_inside p.pieces) 6 >>= λ _. Ok (record { head = rec_head_of body; attrs = map attr_of p.pieces })) r rise.1 in
    let inside = needs_from_ok (list_all is_inside p.pieces) 6 (λ _. Ok (record { head = rec_head_of body; attrs = map attr_of p.pieces })) r ended.1 in
    let same : record_of body p ≡ r = (let e = inside.1 in cc) in
    ap (λ (x : Record). x.attrs) (sym same)
  where
    record_of : List ℕ → Pieces → Record
    record_of b q = record { head = rec_head_of b; attrs = map attr_of q.pieces }

-- a body has at most 1,024 bytes of attributes
short_bytes : (body : List ℕ) → has_size body ≡ true → length (attribute_bytes body) ≤ 1024
unfolding has_size attribute_bytes
short_bytes body is =
    let parts = and_parts (leb (used_bytes body) (allocated_bytes body)) (eqb (allocated_bytes body) 1024) is in
    let used = leb-true (used_bytes body) (allocated_bytes body) parts.0 in
    let allocated = eqb-true (allocated_bytes body) 1024 parts.1 in
    omega (arith, used, allocated, length-take (used_bytes body - first_at body) (drop (first_at body) body))

made_of : (body : List ℕ) (r : Record) → shaped_at body ≡ Ok r → IsMadeOf body r
unfolding shaped_at
made_of body r is =
    let first = needs_from_ok (has_first body) 1 (λ _. needs (has_size body) 2 >>= λ _. cut most_attributes (attribute_bytes body) >>= λ p. tested body p) r is in
    let size = needs_from_ok (has_size body) 2 (λ _. cut most_attributes (attribute_bytes body) >>= λ p. tested body p) r first.1 in
    let read = steps_from_ok (cut most_attributes (attribute_bytes body)) (tested body) r size.1 in
    let few = cut_few most_attributes (attribute_bytes body) read.0 read.1 in
    record { pieces = read.0.pieces; attrs = attrs_of body read.0 r read.2; count = few.count; bytes = omega (arith, few.bytes, short_bytes body size.0) }

pub whole_made_of : (body : List ℕ) (r : Record) → whole_record body ≡ Ok r → IsMadeOf body r
unfolding whole_record
whole_made_of body r is =
    let shaped = steps_from_ok (shaped_at body) (λ q. needs (has_all_pairs q) 7 >>= λ _. needs (has_lawful_values q) 8 >>= λ _. Ok q) r is in
    let pairs = needs_from_ok (has_all_pairs shaped.0) 7 (λ _. needs (has_lawful_values shaped.0) 8 >>= λ _. Ok shaped.0) r shaped.2 in
    let lawful = needs_from_ok (has_lawful_values shaped.0) 8 (λ _. Ok shaped.0) r pairs.1 in
    let same : shaped.0 ≡ r = (let e = lawful.1 in cc) in
    made_of body r (shaped.1 ∙ ap (λ (x : Record). Ok x) same)

pub few_attrs : (body : List ℕ) (r : Record) → IsMadeOf body r → length r.attrs ≤ 43
few_attrs body r k = omega (arith, ap length k.attrs, length-map k.pieces attr_of, k.count)

pub few_runs : (body : List ℕ) (r : Record) (kind : ℕ) (name : List ℕ) (e : Extents) → IsMadeOf body r → stream_of kind name r.attrs ≡ Some (Placed e) → length e.runs ≤ 512
unfolding stream_of
few_runs body r kind name e k is =
    let runs = ap length (runs_of_attributes (attributes_of kind name r.attrs) e is) in
    let count = length-flat_map attribute_runs (attributes_of kind name r.attrs) in
    let own = attributes_sum run_count kind name r.attrs in
    let some = some_of_all (is_attribute_of kind name) r.attrs in
    let all = ap (sum_by run_count) k.attrs in
    omega (arith, runs, count, own, some, all, all_twice k.pieces, k.bytes)
