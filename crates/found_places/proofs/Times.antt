-- A record with its times uses as many bytes as before.
use Rattle.std.proofs.Common.{◌≡◌, ℕ, ◌+◌, Bool, true, false, cond, List, [], ◌∷◌, length, refl, sym, ap, ◌∙◌, arith}
use Rattle.std.specs.Prelude.{insert}
use Rattle.disk_model.specs.Numbers.{spell}
use Rattle.disk_model.specs.Bytes.{written}
use Rattle.disk_model.proofs.Frames.{length-written}
use Rattle.record_model.specs.declared.attribute.Attr.{Attr}
use Rattle.record_model.specs.declared.attribute.OwnForm.{OwnForm}
use Rattle.record_model.specs.declared.attribute.OwnForm.TheVariants.{Resident, Mapped}
use Rattle.record_model.specs.Attributes.{spelling}
use Rattle.record_model.specs.Constants.{standard_information}
use Rattle.record_model.specs.Records.{Record, spelled_bytes, used_of}
use Rattle.record_model.specs.Values.{is_standard_information}
use Rattle.record_writer.specs.Edits.{form_length}
use Rattle.record_writer.proofs.Measures.{length-spelling}
use Rattle.state_model.specs.Files.{has_type}
use Rattle.made_trees.specs.plan_model.Informed.{is_info}
use Rattle.draft_records.specs.Records.{written_record, written_bytes}
use Rattle.made_trees.specs.record_times.Times.{timed_value, timed_form, timed_attr, timed_attrs, place_of_type, new_id, with_next_id, new_info, timed_record}
use Rattle.used_laws.proofs.Lengths.{written_used}

-- ---- a record as it is written

pub written_again : (r : Record) → written_bytes (written_record r) ≡ written_bytes r
written_again r = written_used (written_record r)

-- ---- a record with its times

value_size : (stamp : ℕ) (value : List ℕ) (t : Bool) → length (cond t (written 0x10 (spell 8 stamp) (written 0x08 (spell 8 stamp) value)) value) ≡ length value
value_size stamp value true = length-written 0x10 (spell 8 stamp) (written 0x08 (spell 8 stamp) value) ∙ length-written 0x08 (spell 8 stamp) value
value_size stamp value false = refl

timed_size : (stamp : ℕ) (value : List ℕ) → length (timed_value stamp value) ≡ length value
unfolding timed_value
timed_size stamp value = value_size stamp value (is_standard_information value)

form_same : (stamp name : ℕ) (form : OwnForm) → form_length name (timed_form stamp form) ≡ form_length name form
form_same stamp name (Resident value indexed) = (let same = timed_size stamp value in omega arith)
form_same stamp name (Mapped fields pairs) = refl

attr_same : (stamp : ℕ) (a : Attr) → length (spelling (timed_attr stamp a)) ≡ length (spelling a)
attr_same stamp a = length-spelling (timed_attr stamp a) ∙ form_same stamp (length a.name) a.form ∙ sym (length-spelling a)

bytes_by : (stamp : ℕ) (a : Attr) (attrs : List Attr) (t : Bool) → spelled_bytes (timed_attrs stamp attrs) ≡ spelled_bytes attrs → spelled_bytes (cond t (timed_attr stamp a ∷ attrs) (a ∷ timed_attrs stamp attrs)) ≡ spelled_bytes (a ∷ attrs)
bytes_by stamp a attrs true rest = ap (λ (n : ℕ). n + spelled_bytes attrs) (attr_same stamp a)
bytes_by stamp a attrs false rest = ap (λ (n : ℕ). length (spelling a) + n) rest

bytes_same : (stamp : ℕ) (attrs : List Attr) → spelled_bytes (timed_attrs stamp attrs) ≡ spelled_bytes attrs
bytes_same stamp [] = refl
bytes_same stamp (a ∷ attrs) = bytes_by stamp a attrs (is_info a) (bytes_same stamp attrs)

own_times : (stamp : ℕ) (r : Record) → has_type standard_information r ≡ true → (timed_record stamp r).attrs ≡ timed_attrs stamp r.attrs
own_times stamp r info =
    ap (λ (t : Bool). (cond {A = Record} t (record { head = r.head; attrs = timed_attrs stamp r.attrs }) (record { head = with_next_id r.head; attrs = insert r.attrs (place_of_type standard_information r.attrs) (new_info (new_id r) stamp) })).attrs) info

pub timed_bytes : (stamp : ℕ) (r : Record) → has_type standard_information r ≡ true → written_bytes (timed_record stamp r) ≡ written_bytes r
timed_bytes stamp r info = written_used (timed_record stamp r) ∙ ap used_of (own_times stamp r info) ∙ ap (λ (n : ℕ). 0x38 + n + 8) (bytes_same stamp r.attrs) ∙ sym (written_used r)
