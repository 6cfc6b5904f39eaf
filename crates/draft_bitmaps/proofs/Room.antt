-- The room of a record in which a value has other bytes.
use Rattle.std.proofs.Common.{◌≡◌, ℕ, ◌+◌, Bool, true, false, cond, List, [], ◌∷◌, length, refl, sym, ap, ◌∙◌}
use Rattle.std.specs.Prelude.{map, nat_le}
use Rattle.host_base.specs.Answers.{needs}
use Rattle.record_model.specs.declared.attribute.Attr.{Attr}
use Rattle.record_model.specs.Attributes.{spelling}
use Rattle.record_model.specs.Records.{Record, spelled_bytes}
use Rattle.draft_resized.specs.record_writer.Edits.{whole_length}
use Rattle.draft_resized.specs.record_writer.Normal.{normal}
use Rattle.draft_resized.proofs.record_writer.Measures.{length-spelling}
use Rattle.draft_resized.specs.state_model.Streams.{is_attribute_of, attributes_of}
use Rattle.record_values.specs.record_streams.Placing.{with_stream, without_stream}
use Rattle.record_values.specs.Values.{valued_attr, valued_first, valued_record}
use Rattle.draft_resized.specs.draft_records.Records.{written_bytes, fits_room}

attr_long : (v w : List ℕ) (a : Attr) → length v ≡ length w → length (spelling (normal (valued_attr v a))) ≡ length (spelling (normal (valued_attr w a)))
attr_long v w a same =
    length-spelling (normal (valued_attr v a))
    ∙ ap (λ (n : ℕ). whole_length 0x18 (length a.name) n) same
    ∙ sym (length-spelling (normal (valued_attr w a)))

by_test : (t : Bool) (x y a : Attr) (xs ys rest : List Attr) → length (spelling (normal x)) ≡ length (spelling (normal y)) → spelled_bytes (map normal xs) ≡ spelled_bytes (map normal ys)
    → spelled_bytes (map normal (cond t (x ∷ rest) (a ∷ xs))) ≡ spelled_bytes (map normal (cond t (y ∷ rest) (a ∷ ys)))
by_test true x y a xs ys rest head tail = ap (λ (n : ℕ). n + spelled_bytes (map normal rest)) head
by_test false x y a xs ys rest head tail = ap (λ (n : ℕ). length (spelling (normal a)) + n) tail

all_long : (kind : ℕ) (name : List ℕ) (x y : Attr) (attrs : List Attr) → length (spelling (normal x)) ≡ length (spelling (normal y)) → spelled_bytes (map normal (with_stream kind name x attrs)) ≡ spelled_bytes (map normal (with_stream kind name y attrs))
all_long kind name x y [] same = refl
all_long kind name x y (a ∷ attrs) same =
    by_test (is_attribute_of kind name a) x y a (with_stream kind name x attrs) (with_stream kind name y attrs) (without_stream kind name attrs) same (all_long kind name x y attrs same)

first_long : (kind : ℕ) (name v w : List ℕ) (r : Record) (attributes : List Attr) → length v ≡ length w → written_bytes (valued_first kind name v r attributes) ≡ written_bytes (valued_first kind name w r attributes)
first_long kind name v w r [] same = refl
first_long kind name v w r (a ∷ others) same = ap (λ (n : ℕ). 0x38 + n + 8) (all_long kind name (valued_attr v a) (valued_attr w a) r.attrs (attr_long v w a same))

-- it hangs on the length of the value alone
pub same_room : (kind : ℕ) (name v w : List ℕ) (r : Record) → length v ≡ length w → fits_room (valued_record kind name v r) ≡ fits_room (valued_record kind name w r)
same_room kind name v w r same = ap (λ (n : ℕ). needs (nat_le n 1024) n) (first_long kind name v w r (attributes_of kind name r.attrs) same)
