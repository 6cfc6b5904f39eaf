-- A record by its header and the walk over its attributes.
use Rattle.std.proofs.Common.{◌≡◌, ℕ, ◌<◌, ◌≤◌, ◌%◌, ◌==◌, Bool, true, false, ◌&&◌, nat_le, nat_lt, List, map, Result, Ok, Err, refl, sym, ap, ◌∙◌, arith}
use Rattle.std.proofs.lemmas.Bool.Decides.{nat_tests}
use Rattle.std.specs.List.{list_all}
use Rattle.state_model.specs.host_base.Answers.{◌>>=◌, needs, Explains}
use Rattle.record_model.specs.declared.attribute.Attr.{Attr}
use Rattle.record_model.specs.declared.record.RecHead.{RecHead}
use Rattle.record_model.specs.Attributes.{is_inside, attr_of}
use Rattle.record_model.specs.Values.{has_lawful_value}
use Rattle.record_model.specs.Records.{Record, Pieces, cut, most_attributes, types_rise, has_first, has_size, first_at, used_bytes, allocated_bytes, attribute_bytes, rec_head_of, record_at, shaped_at, has_lawful_values}
use Rattle.record_model.proofs.Shapes.{is_shaped}
use Rattle.file_record.specs.declared.walk.Attributes.{Attributes}
use Rattle.file_record.specs.declared.fault.RecFault.{RecFault}
use Rattle.file_record.specs.declared.fault.RecFault.TheVariants.{Rule, Memory}
use Rattle.file_record.specs.Faults.{rec_cause}
use Rattle.file_record.specs.Walks.{attributes_of, attributes_at}
use Rattle.file_record.proofs.Walking.{chain}

abbrev pub headed : RecHead → Result Attributes ℕ → Result Record ℕ
headed head read = read >>= λ a. Ok (record { head = head; attrs = a.attrs })

headed_chain : (r e i l : Bool) (head : RecHead) (attrs : List Attr)
    → headed head (chain r e i l attrs) ≡ (needs r 4 >>= λ _. needs e 5 >>= λ _. needs i 6 >>= λ _. Ok (record { head = head; attrs = attrs }))
headed_chain false e i l head attrs = refl
headed_chain true false i l head attrs = refl
headed_chain true true false l head attrs = refl
headed_chain true true true l head attrs = refl

headed_cut : (head : RecHead) (read : Result Pieces ℕ)
    → headed head (read >>= attributes_of) ≡ (read >>= λ p. needs (types_rise p.pieces) 4 >>= λ _. needs p.ended 5 >>= λ _. needs (list_all is_inside p.pieces) 6 >>= λ _. Ok (record { head = head; attrs = map attr_of p.pieces }))
headed_cut head (Ok p) = headed_chain (types_rise p.pieces) p.ended (list_all is_inside p.pieces) (list_all has_lawful_value (map attr_of p.pieces)) head (map attr_of p.pieces)
headed_cut head (Err e) = refl

-- the record of a body whose first two rules hold
with_rules : (first size : Bool) (rest : Result Record ℕ) → first ≡ true → size ≡ true → (needs first 1 >>= λ _. needs size 2 >>= λ _. rest) ≡ rest
with_rules true true rest f s = refl
with_rules true false rest f s = cc
with_rules false size rest f s = cc

pub read_on : (body : List ℕ) → has_first body ≡ true → has_size body ≡ true → shaped_at body ≡ headed (rec_head_of body) (attributes_at (attribute_bytes body))
unfolding shaped_at attributes_at
read_on body first size = with_rules (has_first body) (has_size body) _ first size ∙ sym (headed_cut (rec_head_of body) (cut most_attributes (attribute_bytes body)))

pub breaks_first : (body : List ℕ) → has_first body ≡ false → shaped_at body ≡ Err 1
unfolding shaped_at
breaks_first body first = rw first refl

pub breaks_size : (body : List ℕ) → has_first body ≡ true → has_size body ≡ false → shaped_at body ≡ Err 2
unfolding shaped_at
breaks_size body first size = rw (first, size) refl

pub reads : (body : List ℕ) (a : Attributes) → has_first body ≡ true → has_size body ≡ true → attributes_at (attribute_bytes body) ≡ Ok a → shaped_at body ≡ Ok (record { head = rec_head_of body; attrs = a.attrs })
reads body a first size read = read_on body first size ∙ ap (headed (rec_head_of body)) read

refuses : (body : List ℕ) (rule : ℕ) → has_first body ≡ true → has_size body ≡ true → attributes_at (attribute_bytes body) ≡ Err rule → shaped_at body ≡ Err rule
refuses body rule first size read = read_on body first size ∙ ap (headed (rec_head_of body)) read

-- an error of the attributes is the error of the record
pub refused_on : (e : RecFault) (body : List ℕ) → has_first body ≡ true → has_size body ≡ true → Explains (rec_cause e) (attributes_at (attribute_bytes body)) → Explains (rec_cause e) (shaped_at body)
refused_on (Rule rule) body first size h = refuses body rule first size h
refused_on Memory body first size h = tt

-- a walk tells whether the values are lawful
told_by : (r e i l : Bool) (attrs : List Attr) (a : Attributes) → l ≡ list_all has_lawful_value attrs → chain r e i l attrs ≡ Ok a → a.lawful ≡ list_all has_lawful_value a.attrs
told_by true true true l attrs a same is = cc
told_by true true false l attrs a same is = absurd cc
told_by true false i l attrs a same is = absurd cc
told_by false e i l attrs a same is = absurd cc

told_in : (read : Result Pieces ℕ) (a : Attributes) → (read >>= attributes_of) ≡ Ok a → a.lawful ≡ list_all has_lawful_value a.attrs
told_in (Ok p) a is = told_by (types_rise p.pieces) p.ended (list_all is_inside p.pieces) (list_all has_lawful_value (map attr_of p.pieces)) (map attr_of p.pieces) a refl is
told_in (Err e) a is = absurd cc

pub told : (bytes : List ℕ) (a : Attributes) → attributes_at bytes ≡ Ok a → a.lawful ≡ list_all has_lawful_value a.attrs
unfolding attributes_at
told bytes a is = told_in (cut most_attributes bytes) a is

pub told_values : (bytes : List ℕ) (head : RecHead) (a : Attributes) → attributes_at bytes ≡ Ok a → a.lawful ≡ has_lawful_values (record { head = head; attrs = a.attrs })
unfolding has_lawful_values
told_values bytes head a is = told bytes a is

-- a record by its shape
pub by_shape_ok : (body : List ℕ) (r : Record) → shaped_at body ≡ Ok r → has_lawful_values r ≡ true → record_at body ≡ Ok r
by_shape_ok body r is lawful = is_shaped body ∙ rw (is, lawful) refl

pub by_shape_unlawful : (body : List ℕ) (r : Record) → shaped_at body ≡ Ok r → has_lawful_values r ≡ false → record_at body ≡ Err 8
by_shape_unlawful body r is lawful = is_shaped body ∙ rw (is, lawful) refl

refused_shape : (body : List ℕ) (rule : ℕ) → shaped_at body ≡ Err rule → record_at body ≡ Err rule
refused_shape body rule is = is_shaped body ∙ rw is refl

pub by_shape_refused : (e : RecFault) (body : List ℕ) → Explains (rec_cause e) (shaped_at body) → Explains (rec_cause e) (record_at body)
by_shape_refused (Rule rule) body h = refused_shape body rule h
by_shape_refused Memory body h = tt

-- the bytes of the attributes lie in the body
less_of : (a b : ℕ) → (a % 8 == 0 && nat_lt a b) ≡ true → a < b
less_of a b h = grind (arith, nat_tests)

pub first_inside : (body : List ℕ) → has_first body ≡ true → first_at body < used_bytes body
unfolding has_first
first_inside body h = less_of (first_at body) (used_bytes body) h

within_of : (a b : ℕ) → (nat_le a b && b == 1024) ≡ true → a ≤ 1024
within_of a b h = grind (arith, nat_tests)

pub used_inside : (body : List ℕ) → has_size body ≡ true → used_bytes body ≤ 1024
unfolding has_size
used_inside body h = within_of (used_bytes body) (allocated_bytes body) h

-- where the attributes lie
pub ruleset bounds = (first_inside, used_inside)

-- what the rules of the header, and then those of the attributes, answer
pub ruleset answers = (breaks_first, breaks_size, reads, refused_on, told_values)

-- what the shape and the values answer
pub ruleset by_shape = (by_shape_ok, by_shape_unlawful, by_shape_refused)
