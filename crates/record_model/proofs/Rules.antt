-- A refusal is the least rule that is broken.
use Rattle.std.proofs.Common.{◌≡◌, ◌≢◌, ◌⊎◌, ℕ, zero, suc, ◌*◌, ◌<◌, ◌≤◌, Bool, true, false, ltb, List, [], ◌∷◌, ◌++◌, length, map, take, drop, Result, Ok, Err, refl, sym, ap, ◌∙◌, subst, inl, inr, arith}
use Rattle.std.specs.List.{list_all, concat, AllByRecursion}
use Rattle.std.proofs.lemmas.Bool.{lt-ltb, le-ltb, ltb-true, ltb-false, eqb-false, ne_eqb}
use Rattle.std.proofs.lemmas.List.{length-append, append_assoc, append-nil, take-append-drop, length-take-le, take_all}
use Rattle.disk_model.specs.host_base.Answers.{◌>>=◌, needs}
use Rattle.disk_model.specs.Numbers.{field}
use Rattle.disk_model.proofs.Fields.{field-take}
use Rattle.record_model.specs.Attributes.{header_length, has_length, is_inside, attr_of}
use Rattle.record_model.specs.Values.{has_lawful_value}
use Rattle.record_model.specs.Records.{Record, Pieces, has_first, has_size, attribute_bytes, is_end_mark, with_piece, cut, most_attributes, types_rise, rec_head_of, record_at}
use Rattle.record_model.specs.RecordLaws.{IsOwn, StandBefore, BeginsWithMark, IsShort, HasFault, HasHeader, LeastBroken, first_outside, wrong_size, wrong_length, types_fall, no_end_mark, part_outside, unlawful_value}
use Rattle.record_model.proofs.Attributes.{HasOwnLength, own_from_length, length_from_own, header_low}
use Rattle.record_model.proofs.Pieces.{cut_into, cut_at_mark, cut_at_end, cut_next, cut_front}
use Rattle.record_model.proofs.Records.{attribute_bytes_short, tested}

-- ---- an attribute's own bytes

own_from_is : (s : List ℕ) → IsOwn s → HasOwnLength s
own_from_is s is =
    let whole : take (field 0x04 4 s) s ≡ s = ap (λ (n : ℕ). take n s) is.own_length ∙ take_all (length s) s (omega arith) in
    subst HasOwnLength whole (own_from_length s is.length_holds).1

is_from_own : (s : List ℕ) → HasOwnLength s → is_end_mark s ≡ false → IsOwn s
is_from_own s own other = record {
  length_holds = ap has_length (sym (append-nil s)) ∙ length_from_own s [] own;
  own_length = own.own_length;
  other = other;
}

type_from_is : (s : List ℕ) → IsOwn s → field 0 4 s ≢ 0xFFFFFFFF
unfolding is_end_mark
type_from_is s is = eqb-false _ _ is.other

own_long : (pieces : List (List ℕ)) → AllByRecursion IsOwn pieces → 0x18 * length pieces ≤ length (concat pieces)
own_long [] each = omega arith
own_long (s ∷ pieces) each =
    let own = own_from_is s each.0 in
    let low : 0x18 ≤ header_length s = header_low s in
    omega (arith, length-append s (concat pieces), own_long pieces each.1, own.header)

-- ---- the walk

-- how the walk ends: at the end mark or not
abbrev StopsAt : Bool → List ℕ → Type 0
StopsAt true rest = BeginsWithMark rest
StopsAt false rest = IsShort rest

data Walked (bytes : List ℕ) : Result Pieces ℕ → Type 0 where
  stopped : (pieces : List (List ℕ)) (ended : Bool) (rest : List ℕ) → StandBefore rest pieces bytes → StopsAt ended rest → Walked bytes (Ok (cut_into pieces ended))
  refused : (pieces : List (List ℕ)) (rest : List ℕ) → StandBefore rest pieces bytes → HasFault rest → Walked bytes (Err 3)

stand_more : (s bytes rest : List ℕ) (pieces : List (List ℕ)) → IsOwn s → StandBefore rest pieces bytes → StandBefore rest (s ∷ pieces) (s ++ bytes)
stand_more s bytes rest pieces is stand = record { placed = ap (λ (x : List ℕ). s ++ x) stand.placed ∙ sym (append_assoc s (concat pieces) rest); each = (is, stand.each) }

walked_more : (s bytes : List ℕ) (read : Result Pieces ℕ) → IsOwn s → Walked bytes read → Walked (s ++ bytes) (with_piece s read)
walked_more s bytes read is (stopped pieces ended rest stand stops) = stopped (s ∷ pieces) ended rest (stand_more s bytes rest pieces is stand) stops
walked_more s bytes read is (refused pieces rest stand fault) = refused (s ∷ pieces) rest (stand_more s bytes rest pieces is stand) fault

nothing_before : (bytes : List ℕ) → StandBefore bytes [] bytes
nothing_before bytes = record { placed = refl; each = tt }

-- what is known of the walk behind an attribute
abbrev WalksRest : ℕ → Type 0
WalksRest most = (bytes : List ℕ) → length bytes < 0x18 * most → Walked bytes (cut most bytes)

walk_piece : (most : ℕ) (bytes : List ℕ) (holds : Bool) → WalksRest most → length bytes < 0x18 * suc most → 4 ≤ length bytes → is_end_mark bytes ≡ false → has_length bytes ≡ holds → Walked bytes (needs holds 3 >>= λ _. with_piece (take (field 0x04 4 bytes) bytes) (cut most (drop (field 0x04 4 bytes) bytes)))
unfolding is_end_mark
walk_piece most bytes false more short long other e = refused [] bytes (nothing_before bytes) (long, other, e)
walk_piece most bytes true more short long other e =
    let n = field 0x04 4 bytes in
    let own = own_from_length bytes e in
    let low : 0x18 ≤ header_length (take n bytes) = header_low (take n bytes) in
    let whole : take n bytes ++ drop n bytes ≡ bytes = take-append-drop n bytes in
    let size = length-append (take n bytes) (drop n bytes) in
    let kind : field 0 4 (take n bytes) ≡ field 0 4 bytes = field-take 0 4 n bytes (omega (arith, length-take-le n bytes own.0, own.1.header)) in
    let is = is_from_own (take n bytes) own.1 (ne_eqb _ _ (λ mark. eqb-false _ _ other (sym kind ∙ mark))) in
    let rest = more (drop n bytes) (omega (arith, own.1.header, ap length whole)) in
    subst (λ (x : List ℕ). Walked x (with_piece (take n bytes) (cut most (drop n bytes)))) whole (walked_more (take n bytes) (drop n bytes) (cut most (drop n bytes)) is rest)

walk_mark : (most : ℕ) (bytes : List ℕ) (marked : Bool) → WalksRest most → length bytes < 0x18 * suc most → 4 ≤ length bytes → is_end_mark bytes ≡ marked → Walked bytes (cut_at_mark most bytes marked)
walk_mark most bytes true more short long e = stopped [] true bytes (nothing_before bytes) (long, e)
walk_mark most bytes false more short long e = walk_piece most bytes (has_length bytes) more short long e refl

walk_end : (most : ℕ) (bytes : List ℕ) (few : Bool) → WalksRest most → length bytes < 0x18 * suc most → ltb (length bytes) 4 ≡ few → Walked bytes (cut_at_end most bytes few)
walk_end most bytes true more short e = stopped [] false bytes (nothing_before bytes) (ltb-true _ _ e)
walk_end most bytes false more short e = walk_mark most bytes (is_end_mark bytes) more short (ltb-false _ _ e) refl

walked : (most : ℕ) (bytes : List ℕ) → length bytes < 0x18 * most → Walked bytes (cut most bytes)
walked zero bytes short = absurd (omega arith)
walked (suc most) bytes short = subst (Walked bytes) (sym (cut_next most bytes)) (walk_end most bytes (ltb (length bytes) 4) (walked most) short refl)

with_pieces : List (List ℕ) → Result Pieces ℕ → Result Pieces ℕ
with_pieces [] read = read
with_pieces (s ∷ pieces) read = with_piece s (with_pieces pieces read)

-- a walk is cut as it stands
cut_before : (most : ℕ) (pieces : List (List ℕ)) (rest : List ℕ) (read : Result Pieces ℕ) → AllByRecursion IsOwn pieces → ((k : ℕ) → cut (suc k) rest ≡ read) → length pieces < most → cut most (concat pieces ++ rest) ≡ with_pieces pieces read
unfolding with_pieces
cut_before zero pieces rest read each at_rest lt = absurd (omega arith)
cut_before (suc most) [] rest read each at_rest lt = at_rest most
cut_before (suc most) (s ∷ pieces) rest read each at_rest lt =
    ap (cut (suc most)) (append_assoc s (concat pieces) rest)
    ∙ cut_front most s (concat pieces ++ rest) (own_from_is s each.0) (type_from_is s each.0)
    ∙ ap (with_piece s) (cut_before most pieces rest read each.1 at_rest (omega arith))

stopped_here : (ended : Bool) (rest : List ℕ) → StopsAt ended rest → (k : ℕ) → cut (suc k) rest ≡ Ok (cut_into [] ended)
stopped_here true rest stops k = cut_next k rest ∙ ap (λ (b : Bool). cut_at_end k rest b) (le-ltb _ _ stops.0) ∙ ap (λ (b : Bool). cut_at_mark k rest b) stops.1
stopped_here false rest stops k = cut_next k rest ∙ ap (λ (b : Bool). cut_at_end k rest b) (lt-ltb _ _ stops)

refused_here : (rest : List ℕ) → HasFault rest → (k : ℕ) → cut (suc k) rest ≡ Err 3
refused_here rest fault k =
    cut_next k rest
    ∙ ap (λ (b : Bool). cut_at_end k rest b) (le-ltb _ _ fault.0)
    ∙ ap (λ (b : Bool). cut_at_mark k rest b) fault.1
    ∙ ap (λ (b : Bool). needs b 3 >>= λ _. with_piece (take (field 0x04 4 rest) rest) (cut k (drop (field 0x04 4 rest) rest))) fault.2

with_pieces_ok : (pieces : List (List ℕ)) (ended : Bool) → with_pieces pieces (Ok (cut_into [] ended)) ≡ Ok (cut_into pieces ended)
unfolding with_pieces
with_pieces_ok [] ended = refl
with_pieces_ok (s ∷ pieces) ended = ap (with_piece s) (with_pieces_ok pieces ended)

with_pieces_err : (pieces : List (List ℕ)) (rule : ℕ) → with_pieces pieces (Err rule) ≡ Err rule
unfolding with_pieces
with_pieces_err [] rule = refl
with_pieces_err (s ∷ pieces) rule = ap (with_piece s) (with_pieces_err pieces rule)

module _ (body : List ℕ) (long : length body ≡ 1024) (pieces : List (List ℕ)) (rest : List ℕ) (stand : StandBefore rest pieces (attribute_bytes body)) where
  few : length pieces < 43
  few = omega (arith, own_long pieces stand.each, ap length stand.placed, length-append (concat pieces) rest, attribute_bytes_short body)

  cut_of_stop : (ended : Bool) → StopsAt ended rest → cut most_attributes (attribute_bytes body) ≡ Ok (cut_into pieces ended)
  cut_of_stop ended stops = ap (cut 43) stand.placed ∙ cut_before 43 pieces rest (Ok (cut_into [] ended)) stand.each (stopped_here ended rest stops) few ∙ with_pieces_ok pieces ended

  cut_of_fault : HasFault rest → cut most_attributes (attribute_bytes body) ≡ Err 3
  cut_of_fault fault = ap (cut 43) stand.placed ∙ cut_before 43 pieces rest (Err 3) stand.each (refused_here rest fault) few ∙ with_pieces_err pieces 3

-- ---- from what is broken to the refusal

first_refused : (body : List ℕ) → has_first body ≡ false → record_at body ≡ Err 1
unfolding record_at
first_refused body e = ap (λ (b : Bool). needs b 1 >>= λ _. needs (has_size body) 2 >>= λ _. cut most_attributes (attribute_bytes body) >>= tested body) e

size_refused : (body : List ℕ) → has_first body ≡ true → has_size body ≡ false → record_at body ≡ Err 2
unfolding record_at
size_refused body first e =
    ap (λ (b : Bool). needs b 1 >>= λ _. needs (has_size body) 2 >>= λ _. cut most_attributes (attribute_bytes body) >>= tested body) first
    ∙ ap (λ (b : Bool). needs b 2 >>= λ _. cut most_attributes (attribute_bytes body) >>= tested body) e

behind_header : (body : List ℕ) (read : Result Pieces ℕ) → HasHeader body → cut most_attributes (attribute_bytes body) ≡ read → record_at body ≡ (read >>= tested body)
unfolding record_at
behind_header body read header e =
    ap (λ (b : Bool). needs b 1 >>= λ _. needs (has_size body) 2 >>= λ _. cut most_attributes (attribute_bytes body) >>= tested body) header.0
    ∙ ap (λ (b : Bool). needs b 2 >>= λ _. cut most_attributes (attribute_bytes body) >>= tested body) header.1
    ∙ ap (λ (r : Result Pieces ℕ). r >>= tested body) e

-- the tests behind the cut, by their outcomes
tests : List ℕ → List (List ℕ) → Bool → Bool → Bool → Bool → Result Record ℕ
tests body pieces rise ended inside lawful = needs rise 4 >>= λ _. needs ended 5 >>= λ _. needs inside 6 >>= λ _. needs lawful 8 >>= λ _. Ok (record { head = rec_head_of body; attrs = map attr_of pieces })

tested_is : (body : List ℕ) (pieces : List (List ℕ)) (ended : Bool) → tested body (cut_into pieces ended) ≡ tests body pieces (types_rise pieces) ended (list_all is_inside pieces) (list_all has_lawful_value (map attr_of pieces))
unfolding tests
tested_is body pieces ended = refl

fall_refused : (body : List ℕ) (pieces : List (List ℕ)) (ended : Bool) → types_rise pieces ≡ false → tested body (cut_into pieces ended) ≡ Err 4
unfolding tests
fall_refused body pieces ended e = ap (λ (b : Bool). tests body pieces b ended (list_all is_inside pieces) (list_all has_lawful_value (map attr_of pieces))) e

mark_refused : (body : List ℕ) (pieces : List (List ℕ)) → types_rise pieces ≡ true → tested body (cut_into pieces false) ≡ Err 5
unfolding tests
mark_refused body pieces rise = ap (λ (b : Bool). tests body pieces b false (list_all is_inside pieces) (list_all has_lawful_value (map attr_of pieces))) rise

part_refused : (body : List ℕ) (pieces : List (List ℕ)) → types_rise pieces ≡ true → list_all is_inside pieces ≡ false → tested body (cut_into pieces true) ≡ Err 6
unfolding tests
part_refused body pieces rise e =
    ap (λ (b : Bool). tests body pieces b true (list_all is_inside pieces) (list_all has_lawful_value (map attr_of pieces))) rise
    ∙ ap (λ (b : Bool). tests body pieces true true b (list_all has_lawful_value (map attr_of pieces))) e

value_refused : (body : List ℕ) (pieces : List (List ℕ)) → types_rise pieces ≡ true → list_all is_inside pieces ≡ true → list_all has_lawful_value (map attr_of pieces) ≡ false → tested body (cut_into pieces true) ≡ Err 8
unfolding tests
value_refused body pieces rise inside e =
    ap (λ (b : Bool). tests body pieces b true (list_all is_inside pieces) (list_all has_lawful_value (map attr_of pieces))) rise
    ∙ ap (λ (b : Bool). tests body pieces true true b (list_all has_lawful_value (map attr_of pieces))) inside
    ∙ ap (λ (b : Bool). tests body pieces true true true b) e

pub err_from_least : (body : List ℕ) (rule : ℕ) → length body ≡ 1024 → LeastBroken body rule → record_at body ≡ Err rule
err_from_least body rule long (first_outside e) = first_refused body e
err_from_least body rule long (wrong_size first e) = size_refused body first e
err_from_least body rule long (wrong_length header pieces rest stand fault) = behind_header body (Err 3) header (cut_of_fault body long pieces rest stand fault)
err_from_least body rule long (types_fall header pieces rest stand (inl mark) e) = behind_header body (Ok (cut_into pieces true)) header (cut_of_stop body long pieces rest stand true mark) ∙ fall_refused body pieces true e
err_from_least body rule long (types_fall header pieces rest stand (inr short) e) = behind_header body (Ok (cut_into pieces false)) header (cut_of_stop body long pieces rest stand false short) ∙ fall_refused body pieces false e
err_from_least body rule long (no_end_mark header pieces rest stand short rise) = behind_header body (Ok (cut_into pieces false)) header (cut_of_stop body long pieces rest stand false short) ∙ mark_refused body pieces rise
err_from_least body rule long (part_outside header pieces rest stand mark rise e) = behind_header body (Ok (cut_into pieces true)) header (cut_of_stop body long pieces rest stand true mark) ∙ part_refused body pieces rise e
err_from_least body rule long (unlawful_value header pieces rest stand mark rise inside e) = behind_header body (Ok (cut_into pieces true)) header (cut_of_stop body long pieces rest stand true mark) ∙ value_refused body pieces rise inside e

-- ---- from the refusal to what is broken

-- a test that was not passed, or a later refusal
needs_from_err : {B F : Type 0} (test : Bool) (refusal : F) (next : Unit {0} → Result B F) (rule : F) → (needs test refusal >>= next) ≡ Err rule → ((test ≡ false) × (refusal ≡ rule)) ⊎ ((test ≡ true) × (next tt ≡ Err rule))
needs_from_err true refusal next rule e = inr (refl, e)
needs_from_err false refusal next rule e = inl (refl, cc)

short_from_stop : (ended : Bool) (rest : List ℕ) → ended ≡ false → StopsAt ended rest → IsShort rest
short_from_stop true rest e stops = absurd cc
short_from_stop false rest e stops = stops

mark_from_stop : (ended : Bool) (rest : List ℕ) → ended ≡ true → StopsAt ended rest → BeginsWithMark rest
mark_from_stop true rest e stops = stops
mark_from_stop false rest e stops = absurd cc

either_stop : (ended : Bool) (rest : List ℕ) → StopsAt ended rest → BeginsWithMark rest ⊎ IsShort rest
either_stop true rest stops = inl stops
either_stop false rest stops = inr stops

abbrev accepted : Record → Result Record ℕ
accepted r = Ok r

accepted_never : (r : Record) (rule : ℕ) → accepted r ≡ Err rule → ⊥
accepted_never r rule e = cc

least_behind_cut : (body : List ℕ) (pieces : List (List ℕ)) (ended : Bool) (rest : List ℕ) (rule : ℕ) → HasHeader body → StandBefore rest pieces (attribute_bytes body) → StopsAt ended rest → tested body (cut_into pieces ended) ≡ Err rule → LeastBroken body rule
least_behind_cut body pieces ended rest rule header stand stops e =
    let made = accepted (record { head = rec_head_of body; attrs = map attr_of pieces }) in
    elim (needs_from_err (types_rise pieces) 4 (λ _. needs ended 5 >>= λ _. needs (list_all is_inside pieces) 6 >>= λ _. needs (list_all has_lawful_value (map attr_of pieces)) 8 >>= λ _. made) rule e) [
      | inl fall ↦ subst (LeastBroken body) fall.1 (types_fall header pieces rest stand (either_stop ended rest stops) fall.0)
      | inr rise ↦ elim (needs_from_err ended 5 (λ _. needs (list_all is_inside pieces) 6 >>= λ _. needs (list_all has_lawful_value (map attr_of pieces)) 8 >>= λ _. made) rule rise.1) [
        | inl none ↦ subst (LeastBroken body) none.1 (no_end_mark header pieces rest stand (short_from_stop ended rest none.0 stops) rise.0)
        | inr mark ↦ elim (needs_from_err (list_all is_inside pieces) 6 (λ _. needs (list_all has_lawful_value (map attr_of pieces)) 8 >>= λ _. made) rule mark.1) [
          | inl outside ↦ subst (LeastBroken body) outside.1 (part_outside header pieces rest stand (mark_from_stop ended rest mark.0 stops) rise.0 outside.0)
          | inr inside ↦ elim (needs_from_err (list_all has_lawful_value (map attr_of pieces)) 8 (λ _. made) rule inside.1) [
            | inl unlawful ↦ subst (LeastBroken body) unlawful.1 (unlawful_value header pieces rest stand (mark_from_stop ended rest mark.0 stops) rise.0 inside.0 unlawful.0)
            | inr lawful ↦ absurd (accepted_never (record { head = rec_head_of body; attrs = map attr_of pieces }) rule lawful.1)
          ]
        ]
      ]
    ]

least_behind_walk : (body : List ℕ) (read : Result Pieces ℕ) (rule : ℕ) → HasHeader body → Walked (attribute_bytes body) read → (read >>= tested body) ≡ Err rule → LeastBroken body rule
least_behind_walk body read rule header (stopped pieces ended rest stand stops) e = least_behind_cut body pieces ended rest rule header stand stops e
least_behind_walk body read rule header (refused pieces rest stand fault) e = subst (LeastBroken body) (same e) (wrong_length header pieces rest stand fault)
  where
    refusal : ℕ → Result Record ℕ
    refusal n = Err n

    same : refusal 3 ≡ refusal rule → 3 ≡ rule
    same f = cc

pub least_from_err : (body : List ℕ) (rule : ℕ) → length body ≡ 1024 → record_at body ≡ Err rule → LeastBroken body rule
unfolding record_at
least_from_err body rule long e =
    elim (needs_from_err (has_first body) 1 (λ _. needs (has_size body) 2 >>= λ _. cut most_attributes (attribute_bytes body) >>= tested body) rule e) [
      | inl first ↦ subst (LeastBroken body) first.1 (first_outside first.0)
      | inr first ↦ elim (needs_from_err (has_size body) 2 (λ _. cut most_attributes (attribute_bytes body) >>= tested body) rule first.1) [
        | inl size ↦ subst (LeastBroken body) size.1 (wrong_size first.0 size.0)
        | inr size ↦ least_behind_walk body (cut 43 (attribute_bytes body)) rule (first.0, size.0) (walked 43 (attribute_bytes body) (omega (arith, attribute_bytes_short body))) size.1
      ]
    ]
