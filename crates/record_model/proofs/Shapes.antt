-- A record is its shape with lawful values.
use Rattle.std.proofs.Common.{◌≡◌, ℕ, Bool, true, false, List, map, Result, Ok, Err, refl}
use Rattle.std.specs.List.{list_all}
use Rattle.disk_model.specs.host_base.Answers.{◌>>=◌, needs}
use Rattle.record_model.specs.declared.record.RecHead.{RecHead}
use Rattle.record_model.specs.declared.attribute.Attr.{Attr}
use Rattle.record_model.specs.Attributes.{is_inside, attr_of}
use Rattle.record_model.specs.Values.{has_lawful_value}
use Rattle.record_model.specs.Records.{Record, Pieces, has_first, has_size, cut, most_attributes, attribute_bytes, types_rise, rec_head_of, record_at, shaped_at, has_lawful_values}

abbrev lawful : Record → Result Record ℕ
lawful r = needs (list_all has_lawful_value r.attrs) 8 >>= λ _. Ok r

-- the rules of the attributes' order, end and places, and then what goes on
abbrev shape : Bool → Bool → Bool → Result Record ℕ → Result Record ℕ
shape rises ended inside next = needs rises 4 >>= λ _. needs ended 5 >>= λ _. needs inside 6 >>= λ _. next

by_shape : (r : Record) (rises ended inside : Bool) → shape rises ended inside (lawful r) ≡ (shape rises ended inside (Ok r) >>= lawful)
by_shape r true true true = refl
by_shape r true true false = refl
by_shape r true false inside = refl
by_shape r false ended inside = refl

abbrev record_in : RecHead → Pieces → Record
record_in head p = record { head = head; attrs = map attr_of p.pieces }

abbrev judged : (Record → Result Record ℕ) → RecHead → Pieces → Result Record ℕ
judged next head p = shape (types_rise p.pieces) p.ended (list_all is_inside p.pieces) (next (record_in head p))

by_pieces : (head : RecHead) (read : Result Pieces ℕ) → (read >>= judged lawful head) ≡ ((read >>= judged (λ r. Ok r) head) >>= lawful)
by_pieces head (Ok p) = by_shape (record_in head p) (types_rise p.pieces) p.ended (list_all is_inside p.pieces)
by_pieces head (Err rule) = refl

abbrev whole : Bool → Bool → Result Record ℕ → Result Record ℕ
whole first size next = needs first 1 >>= λ _. needs size 2 >>= λ _. next

by_header : (head : RecHead) (first size : Bool) (read : Result Pieces ℕ) → whole first size (read >>= judged lawful head) ≡ (whole first size (read >>= judged (λ r. Ok r) head) >>= lawful)
by_header head true true read = by_pieces head read
by_header head true false read = refl
by_header head false size read = refl

pub is_shaped : (body : List ℕ) → record_at body ≡ (shaped_at body >>= λ r. needs (has_lawful_values r) 8 >>= λ _. Ok r)
unfolding record_at shaped_at has_lawful_values
is_shaped body = by_header (rec_head_of body) (has_first body) (has_size body) (cut most_attributes (attribute_bytes body))
