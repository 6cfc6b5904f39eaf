-- What was found so far, and what the bytes that are left come to.
use Rattle.std.proofs.Common.{◌≡◌, ◌≢◌, ℕ, suc, ◌+◌, ◌-◌, ◌<◌, ◌≤◌, Bool, true, false, ◌&&◌, nat_le, nat_lt, List, [], ◌∷◌, ◌++◌, length, map, take, drop, Result, Ok, Err, refl, sym, ap, ◌∙◌, append_assoc, arith, if◌then◌else◌}
use Rattle.std.proofs.lemmas.List.{append-nil, length-take-le}
use Rattle.std.proofs.lemmas.Bool.Decides.{nat_tests}
use Rattle.std.specs.List.{list_all}
use Rattle.state_model.specs.host_base.Answers.{◌>>=◌, needs, Explains}
use Rattle.record_model.specs.disk_model.Numbers.{field}
use Rattle.record_model.proofs.disk_model.Fields.{field-take}
use Rattle.record_model.specs.declared.attribute.Attr.{Attr}
use Rattle.record_model.specs.Attributes.{has_length, is_inside, head_of, attr_of}
use Rattle.record_model.specs.Values.{has_lawful_value}
use Rattle.record_model.specs.Records.{Pieces, with_piece, is_end_mark, cut, most_attributes, types_rise}
use Rattle.record_model.proofs.Answering.{needs_from_ok}
use Rattle.record_model.proofs.Attributes.{own_from_length, header_low}
use Rattle.attr_codec.specs.Reading.{own_bytes, attr_at}
use Rattle.file_record.specs.declared.fault.RecFault.{RecFault}
use Rattle.file_record.specs.declared.fault.RecFault.TheVariants.{Rule, Memory}
use Rattle.file_record.specs.declared.walk.Attributes.{Attributes}
use Rattle.file_record.specs.declared.walk.Found.{Found}
use Rattle.file_record.specs.Faults.{rec_cause}
use Rattle.file_record.specs.Walks.{length_at, nothing_found, with_attr, with_outside, with_found, verdict_of, attributes_of, attributes_at}

-- the rules from 4 on, in their order
abbrev pub chain : Bool → Bool → Bool → Bool → List Attr → Result Attributes ℕ
chain rises ended inside lawful attrs =
    needs rises 4 >>= λ _. needs ended 5 >>= λ _. needs inside 6 >>= λ _. Ok (record { attrs = attrs; lawful = lawful })

-- types don't fall, from this one on
abbrev rises_from : ℕ → List (List ℕ) → Bool
rises_from least [] = true
rises_from least (p ∷ pieces) = nat_le least (field 0 4 p) && rises_from (field 0 4 p) pieces

rises_after : (p : List ℕ) (pieces : List (List ℕ)) → types_rise (p ∷ pieces) ≡ rises_from (field 0 4 p) pieces
rises_after p [] = refl
rises_after p (q ∷ pieces) = ap (λ (b : Bool). nat_le (field 0 4 p) (field 0 4 q) && b) (rises_after q pieces)

zero_le : (n : ℕ) → nat_le 0 n ≡ true
zero_le n = grind (arith, nat_tests)

rises_from_none : (pieces : List (List ℕ)) → types_rise pieces ≡ rises_from 0 pieces
rises_from_none [] = refl
rises_from_none (p ∷ pieces) = rises_after p pieces ∙ ap (λ (b : Bool). b && rises_from (field 0 4 p) pieces) (sym (zero_le (field 0 4 p)))

-- what was found, and the pieces that follow
abbrev pub judged : Found → Pieces → Result Attributes ℕ
judged f p =
    chain (f.rises && rises_from f.least p.pieces) p.ended (f.inside && list_all is_inside p.pieces)
    (f.lawful && list_all has_lawful_value (map attr_of p.pieces)) (f.attrs ++ map attr_of p.pieces)

and_assoc : (a b c : Bool) → ((a && b) && c) ≡ (a && (b && c))
and_assoc true b c = refl
and_assoc false b c = refl

and_true : (a : Bool) → (a && true) ≡ a
and_true true = refl
and_true false = refl

inside_more : (r x rs e i is l z ls : Bool) (xs : List Attr) (a : Attr) (ys : List Attr)
    → chain ((r && x) && rs) e (i && is) ((l && z) && ls) ((xs ++ a ∷ []) ++ ys) ≡ chain (r && (x && rs)) e (i && is) (l && (z && ls)) (xs ++ (a ∷ ys))
inside_more r x rs e i is l z ls xs a ys = rw (and_assoc r x rs, and_assoc l z ls, append_assoc xs (a ∷ []) ys) refl

outside : (r e l m i : Bool) (xs ys : List Attr) → chain r e false l xs ≡ chain r e (i && false) m ys
outside true true l m true xs ys = refl
outside true true l m false xs ys = refl
outside true false l m i xs ys = refl
outside false e l m i xs ys = refl

outside_more : (r x rs e i l z ls : Bool) (xs : List Attr) (a : Attr) (ys : List Attr)
    → chain ((r && x) && rs) e false (l && ls) (xs ++ ys) ≡ chain (r && (x && rs)) e (i && false) (l && (z && ls)) (xs ++ (a ∷ ys))
outside_more r x rs e i l z ls xs a ys = rw (and_assoc r x rs) (outside (r && (x && rs)) e (l && ls) (l && (z && ls)) i (xs ++ ys) (xs ++ (a ∷ ys)))

more_by : (y : Bool) (f : Found) (a : Attr) (p : Pieces) → judged (if y then with_attr f a else with_outside f a.head.kind) p
    ≡ chain (f.rises && (nat_le f.least a.head.kind && rises_from a.head.kind p.pieces)) p.ended (f.inside && (y && list_all is_inside p.pieces))
    (f.lawful && (has_lawful_value a && list_all has_lawful_value (map attr_of p.pieces))) (f.attrs ++ (a ∷ map attr_of p.pieces))
more_by true f a p =
    inside_more f.rises (nat_le f.least a.head.kind) (rises_from a.head.kind p.pieces) p.ended f.inside (list_all is_inside p.pieces)
    f.lawful (has_lawful_value a) (list_all has_lawful_value (map attr_of p.pieces)) f.attrs a (map attr_of p.pieces)
more_by false f a p =
    outside_more f.rises (nat_le f.least a.head.kind) (rises_from a.head.kind p.pieces) p.ended f.inside
    f.lawful (has_lawful_value a) (list_all has_lawful_value (map attr_of p.pieces)) f.attrs a (map attr_of p.pieces)

judged_more : (f : Found) (piece : List ℕ) (p : Pieces) → judged (with_found f piece) p ≡ judged f (record { pieces = piece ∷ p.pieces; ended = p.ended })
unfolding with_found attr_of head_of
judged_more f piece p = more_by (is_inside piece) f (attr_of piece) p

judged_last : (f : Found) (ended : Bool) → judged f (record { pieces = []; ended = ended }) ≡ verdict_of f ended
judged_last f ended = rw (and_true f.rises, and_true f.inside, and_true f.lawful, append-nil f.attrs) refl

judged_first : (p : Pieces) → judged nothing_found p ≡ attributes_of p
judged_first p = rw (← rises_from_none p.pieces) refl

-- one step of the cut
abbrev cut_by : Bool → Bool → Bool → Result Pieces ℕ → Result Pieces ℕ
cut_by short mark lawful later =
    elim short [
      | true ↦ Ok (record { pieces = []; ended = false })
      | false ↦ elim mark [
        | true ↦ Ok (record { pieces = []; ended = true })
        | false ↦ needs lawful 3 >>= λ _. later
      ]
    ]

cut_step : (most : ℕ) (bytes : List ℕ) → cut (suc most) bytes ≡ cut_by (nat_lt (length bytes) 4) (is_end_mark bytes) (has_length bytes) (with_piece (take (field 0x04 4 bytes) bytes) (cut most (drop (field 0x04 4 bytes) bytes)))
unfolding cut
cut_step most bytes = refl

cut_on : (s m l : Bool) (later : Result Pieces ℕ) → s ≡ false → m ≡ false → l ≡ true → cut_by s m l later ≡ later
cut_on true m l later p q r = absurd cc
cut_on false true l later p q r = absurd cc
cut_on false false true later p q r = refl
cut_on false false false later p q r = absurd cc

cut_short : (s m l : Bool) (later : Result Pieces ℕ) → s ≡ true → cut_by s m l later ≡ Ok (record { pieces = []; ended = false })
cut_short true m l later p = refl
cut_short false m l later p = absurd cc

cut_mark : (s m l : Bool) (later : Result Pieces ℕ) → s ≡ false → m ≡ true → cut_by s m l later ≡ Ok (record { pieces = []; ended = true })
cut_mark true m l later p q = absurd cc
cut_mark false true l later p q = refl
cut_mark false false l later p q = absurd cc

cut_bad : (s m l : Bool) (later : Result Pieces ℕ) → s ≡ false → m ≡ false → l ≡ false → cut_by s m l later ≡ Err 3
cut_bad true m l later p q r = absurd cc
cut_bad false true l later p q r = absurd cc
cut_bad false false true later p q r = absurd cc
cut_bad false false false later p q r = refl

is_short : (rest : List ℕ) → length rest < 4 → nat_lt (length rest) 4 ≡ true
is_short rest lt = grind (arith, nat_tests)

is_long : (rest : List ℕ) → 4 ≤ length rest → nat_lt (length rest) 4 ≡ false
is_long rest le = grind (arith, nat_tests)

-- the length of the attribute at the front
length_parts : (rest : List ℕ) (n : ℕ) → length_at rest ≡ Ok n → (has_length rest ≡ true) × (field 0x04 4 rest ≡ n)
unfolding length_at
length_parts rest n e =
    let p = needs_from_ok (has_length rest) 3 (λ _. Ok (field 0x04 4 rest)) n e in
    let same : field 0x04 4 rest ≡ n = cc (p.1) in
    (p.0, same)

refused_length : (b : Bool) (n rule : ℕ) → (needs b 3 >>= λ _. Ok n) ≡ Err rule → (b ≡ false) × (rule ≡ 3)
refused_length true n rule e = absurd cc
refused_length false n rule e = (refl, cc)

pub length_inside : (rest : List ℕ) (n : ℕ) → length_at rest ≡ Ok n → n ≤ length rest
length_inside rest n e = let p = length_parts rest n e in omega (arith, (own_from_length rest p.0).0, p.1)

-- what a read of the attribute at the front says
length_ok : (bytes : List ℕ) (n : ℕ) → has_length bytes ≡ true → n ≡ field 0x04 4 bytes → length_at bytes ≡ Ok n
unfolding length_at
length_ok bytes n h same = rw h (ap Ok (sym same))

read_parts : (bytes : List ℕ) (a : Attr) → attr_at bytes ≡ Ok a → (has_length bytes ≡ true) × (is_inside (own_bytes bytes) ≡ true) × (attr_of (own_bytes bytes) ≡ a)
unfolding attr_at
read_parts bytes a e =
    let p = needs_from_ok (has_length bytes) 3 (λ _. needs (is_inside (own_bytes bytes)) 6 >>= λ _. Ok (attr_of (own_bytes bytes))) a e in
    let q = needs_from_ok (is_inside (own_bytes bytes)) 6 (λ _. Ok (attr_of (own_bytes bytes))) a p.1 in
    let same : attr_of (own_bytes bytes) ≡ a = cc (q.1) in
    (p.0, q.0, same)

refused_by : (l i : Bool) (a : Attr) (rule : ℕ) → (needs l 3 >>= λ _. needs i 6 >>= λ _. Ok a) ≡ Err rule → rule ≢ 3 → (l ≡ true) × (i ≡ false)
refused_by true true a rule e other = absurd cc
refused_by true false a rule e other = (refl, refl)
refused_by false i a rule e other = absurd (other (cc e))

outside_parts : (bytes : List ℕ) (rule : ℕ) → attr_at bytes ≡ Err rule → rule ≢ 3 → (has_length bytes ≡ true) × (is_inside (own_bytes bytes) ≡ false)
unfolding attr_at
outside_parts bytes rule e other = refused_by (has_length bytes) (is_inside (own_bytes bytes)) (attr_of (own_bytes bytes)) rule e other

is_three : (n : ℕ) → n ≡ 6 → n ≢ 3
is_three n six three = omega (arith, six, three)

length_by : (l i : Bool) (a : Attr) (n six : ℕ) → six ≡ 6 → (needs {F = ℕ} l 3 >>= λ _. needs {F = ℕ} i six >>= λ _. Ok a) ≡ Err 3 → (needs {F = ℕ} l 3 >>= λ _. Ok n) ≡ Err 3
length_by true true a n six is e = absurd cc
length_by true false a n six is e = absurd (is_three six is cc)
length_by false i a n six is e = refl

pub breaks_length : (bytes : List ℕ) → attr_at bytes ≡ Err 3 → length_at bytes ≡ Err 3
unfolding attr_at length_at
breaks_length bytes e = length_by (has_length bytes) (is_inside (own_bytes bytes)) (attr_of (own_bytes bytes)) (field 0x04 4 bytes) 6 refl e

pub length_read : (bytes : List ℕ) (a : Attr) (n : ℕ) → attr_at bytes ≡ Ok a → n ≡ field 0x04 4 bytes → length_at bytes ≡ Ok n
length_read bytes a n e same = length_ok bytes n (read_parts bytes a e).0 same

pub found_read : (f : Found) (bytes : List ℕ) (a : Attr) → attr_at bytes ≡ Ok a → with_found f (own_bytes bytes) ≡ with_attr f a
unfolding with_found
found_read f bytes a e = let p = read_parts bytes a e in rw (p.1, p.2) refl

pub length_outside : (bytes : List ℕ) (rule n : ℕ) → attr_at bytes ≡ Err rule → rule ≢ 3 → n ≡ field 0x04 4 bytes → length_at bytes ≡ Ok n
length_outside bytes rule n e other same = length_ok bytes n (outside_parts bytes rule e other).0 same

long_enough : (bytes : List ℕ) → has_length bytes ≡ true → 0x18 ≤ field 0x04 4 bytes
long_enough bytes h =
    let n : ℕ = field 0x04 4 bytes in
    let own = own_from_length bytes h in
    omega (arith, own.0, own.1.header, header_low (take n bytes), length-take-le n bytes own.0)

pub found_outside : (f : Found) (bytes : List ℕ) (rule kind : ℕ) → attr_at bytes ≡ Err rule → rule ≢ 3 → kind ≡ field 0x00 4 bytes → with_found f (own_bytes bytes) ≡ with_outside f kind
unfolding with_found
found_outside f bytes rule kind e other same =
    let p = outside_parts bytes rule e other in
    let n : ℕ = field 0x04 4 bytes in
    let front : field 0x00 4 (take n bytes) ≡ kind = field-take 0x00 4 n bytes (omega (arith, long_enough bytes p.0)) ∙ sym same in
    rw p.1 (ap (with_outside f) front)

pub outside_long : (bytes : List ℕ) (rule : ℕ) → attr_at bytes ≡ Err rule → rule ≢ 3 → 8 ≤ length bytes
outside_long bytes rule e other =
    let p = outside_parts bytes rule e other in
    omega (arith, long_enough bytes p.0, (own_from_length bytes p.0).0)

-- what stands at the front
pub ruleset front = (breaks_length, length_read, found_read, length_outside, found_outside, outside_long)

later_piece : (f : Found) (piece : List ℕ) (read : Result Pieces ℕ) → (with_piece piece read >>= judged f) ≡ (read >>= judged (with_found f piece))
later_piece f piece (Ok p) = sym (judged_more f piece p)
later_piece f piece (Err e) = refl

-- what the walk comes to, with so many attributes at most
abbrev pub still : ℕ → List ℕ → Found → Result Attributes ℕ
still most rest f = cut most rest >>= judged f

one_step : (count i : ℕ) (rest : List ℕ) (f : Found) → i < count → still (count - i) rest f ≡ still (suc (count - (i + 1))) rest f
one_step count i rest f lt = ap (λ (n : ℕ). still n rest f) (omega arith)

bound_same : (r s : Result Pieces ℕ) (f : Found) → r ≡ s → (r >>= judged f) ≡ (s >>= judged f)
bound_same r s f e = ap (λ (t : Result Pieces ℕ). t >>= judged f) e

pub goes_on : (count i : ℕ) (rest : List ℕ) (f : Found) (n : ℕ) → i < count → 4 ≤ length rest → is_end_mark rest ≡ false → length_at rest ≡ Ok n → still (count - i) rest f ≡ still (count - (i + 1)) (drop n rest) (with_found f (own_bytes rest))
goes_on count i rest f n lt long mark read =
    let m : ℕ = count - (i + 1) in
    let own : ℕ = field 0x04 4 rest in
    let p = length_parts rest n read in
    one_step count i rest f lt
    ∙ bound_same _ _ f (cut_step m rest ∙ cut_on _ _ _ (with_piece (take own rest) (cut m (drop own rest))) (is_long rest long) mark p.0)
    ∙ later_piece f (take own rest) (cut m (drop own rest))
    ∙ ap (λ (k : ℕ). still m (drop k rest) (with_found f (take own rest))) p.1

pub ends_at_mark : (count i : ℕ) (rest : List ℕ) (f : Found) → i < count → 4 ≤ length rest → is_end_mark rest ≡ true → still (count - i) rest f ≡ verdict_of f true
ends_at_mark count i rest f lt long mark =
    one_step count i rest f lt ∙ bound_same _ _ f (cut_step (count - (i + 1)) rest ∙ cut_mark (nat_lt (length rest) 4) (is_end_mark rest) (has_length rest) _ (is_long rest long) mark) ∙ judged_last f true

pub ends_short : (count i : ℕ) (rest : List ℕ) (f : Found) → i < count → length rest < 4 → still (count - i) rest f ≡ verdict_of f false
ends_short count i rest f lt short =
    one_step count i rest f lt ∙ bound_same _ _ f (cut_step (count - (i + 1)) rest ∙ cut_short (nat_lt (length rest) 4) (is_end_mark rest) (has_length rest) _ (is_short rest short)) ∙ judged_last f false

ends_bad : (count i : ℕ) (rest : List ℕ) (f : Found) (rule : ℕ) → i < count → 4 ≤ length rest → is_end_mark rest ≡ false → length_at rest ≡ Err rule → still (count - i) rest f ≡ Err rule
unfolding length_at
ends_bad count i rest f rule lt long mark read =
    let p = refused_length (has_length rest) (field 0x04 4 rest) rule read in
    one_step count i rest f lt ∙ bound_same _ _ f (cut_step (count - (i + 1)) rest ∙ cut_bad (nat_lt (length rest) 4) (is_end_mark rest) (has_length rest) _ (is_long rest long) mark p.0) ∙ ap Err (sym p.1)

-- an error of the attribute at the front is the walk's
pub ends_refused : (e : RecFault) (count i : ℕ) (rest : List ℕ) (f : Found) → i < count → 4 ≤ length rest → is_end_mark rest ≡ false → Explains (rec_cause e) (length_at rest) → Explains (rec_cause e) (still (count - i) rest f)
ends_refused (Rule rule) count i rest f lt long mark read = ends_bad count i rest f rule lt long mark read
ends_refused Memory count i rest f lt long mark read = tt

pub ends_full : (count i : ℕ) (rest : List ℕ) (f : Found) → count ≤ i → still (count - i) rest f ≡ verdict_of f false
unfolding cut
ends_full count i rest f le =
    let none : count - i ≡ 0 = omega arith in
    let one : still (count - i) rest f ≡ still 0 rest f = ap (λ (n : ℕ). still n rest f) none in
    one ∙ judged_last f false

starts_at : (r : Result Pieces ℕ) → (r >>= judged nothing_found) ≡ (r >>= attributes_of)
starts_at (Ok p) = judged_first p
starts_at (Err e) = refl

pub starts : (bytes : List ℕ) → still (most_attributes - 0) bytes nothing_found ≡ attributes_at bytes
unfolding attributes_at
starts bytes = starts_at (cut most_attributes bytes)
