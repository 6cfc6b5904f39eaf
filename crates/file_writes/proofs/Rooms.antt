-- Records that have as much room as another, and standard information as it has.
use Rattle.std.proofs.Common.{◌≡◌, ℕ, ◌+◌, Bool, true, false, cond, ◌||◌, eqb, List, [], ◌∷◌, length, map, refl, sym, ap, ◌∙◌, inl, inr, arith}
use Rattle.std.specs.Prelude.{filter, insert, not}
use Rattle.std.specs.List.{list_any}
use Rattle.std.proofs.lemmas.Bool.{cases_Bool}
use Rattle.disk_model.specs.Numbers.{spell}
use Rattle.disk_model.specs.Bytes.{written}
use Rattle.disk_model.proofs.Frames.{length-written}
use Rattle.record_model.specs.declared.attribute.Attr.{Attr}
use Rattle.record_model.specs.declared.attribute.OwnForm.{OwnForm}
use Rattle.record_model.specs.declared.attribute.OwnForm.TheVariants.{Resident, Mapped}
use Rattle.record_model.specs.Attributes.{spelling}
use Rattle.record_model.specs.Constants.{standard_information, data_type}
use Rattle.record_model.specs.Records.{Record, spelled_bytes, used_of}
use Rattle.record_model.specs.Values.{is_standard_information}
use Rattle.file_puts.specs.record_writer.Edits.{form_length}
use Rattle.file_puts.specs.record_writer.Normal.{normal}
use Rattle.file_puts.proofs.record_writer.Measures.{length-spelling}
use Rattle.state_model.specs.declared.stream.Extents.{Extents}
use Rattle.state_model.specs.Files.{has_type}
use Rattle.state_model.specs.Streams.{is_attribute_of, sorted_into, attributes_of}
use Rattle.file_puts.specs.plan_model.Informed.{is_info}
use Rattle.file_puts.specs.record_streams.Placing.{placed_attr, without_stream, with_stream, placed_first, placed_record}
use Rattle.file_puts.proofs.record_streams.Kept.{with_none, with_one}
use Rattle.file_puts.proofs.record_streams.Streams.{attribute_kind, placed_is, first_passes, some_by, own_with, placed_one}
use Rattle.file_puts.specs.record_values.Values.{valued_attr, valued_first, valued_record}
use Rattle.file_puts.specs.draft_records.Records.{written_record, written_bytes}
use Rattle.file_puts.specs.record_times.Times.{timed_value, timed_form, timed_attr, timed_attrs, place_of_type, new_id, with_next_id, new_info, timed_record}
use Rattle.file_puts.proofs.used_laws.Lengths.{normal_length, written_used, filter_yes, filter_no}
use Rattle.file_puts.proofs.used_laws.Staying.{sizes}

-- ---- a record as it is written

pub written_again : (r : Record) → written_bytes (written_record r) ≡ written_bytes r
written_again r = written_used (written_record r)

-- ---- a record with its times

value_size : (stamp : ℕ) (value : List ℕ) (t : Bool) → length (cond t (written 0x10 (spell 8 stamp) (written 0x08 (spell 8 stamp) value)) value) ≡ length value
value_size stamp value true = length-written 0x10 (spell 8 stamp) (written 0x08 (spell 8 stamp) value) ∙ length-written 0x08 (spell 8 stamp) value
value_size stamp value false = refl

timed_size : (stamp : ℕ) (value : List ℕ) → length (timed_value stamp value) ≡ length value
unfolding timed_value
timed_size stamp value = value_size stamp value (is_standard_information value)

form_same : (stamp name : ℕ) (form : OwnForm) → form_length name (timed_form stamp form) ≡ form_length name form
form_same stamp name (Resident value indexed) = (let same = timed_size stamp value in omega arith)
form_same stamp name (Mapped fields pairs) = refl

attr_same : (stamp : ℕ) (a : Attr) → length (spelling (timed_attr stamp a)) ≡ length (spelling a)
attr_same stamp a = length-spelling (timed_attr stamp a) ∙ form_same stamp (length a.name) a.form ∙ sym (length-spelling a)

bytes_by : (stamp : ℕ) (a : Attr) (attrs : List Attr) (t : Bool) → spelled_bytes (timed_attrs stamp attrs) ≡ spelled_bytes attrs → spelled_bytes (cond t (timed_attr stamp a ∷ attrs) (a ∷ timed_attrs stamp attrs)) ≡ spelled_bytes (a ∷ attrs)
bytes_by stamp a attrs true rest = ap (λ (n : ℕ). n + spelled_bytes attrs) (attr_same stamp a)
bytes_by stamp a attrs false rest = ap (λ (n : ℕ). length (spelling a) + n) rest

bytes_same : (stamp : ℕ) (attrs : List Attr) → spelled_bytes (timed_attrs stamp attrs) ≡ spelled_bytes attrs
bytes_same stamp [] = refl
bytes_same stamp (a ∷ attrs) = bytes_by stamp a attrs (is_info a) (bytes_same stamp attrs)

own_times : (stamp : ℕ) (r : Record) → has_type standard_information r ≡ true → (timed_record stamp r).attrs ≡ timed_attrs stamp r.attrs
own_times stamp r info =
    ap (λ (t : Bool). (cond {A = Record} t (record { head = r.head; attrs = timed_attrs stamp r.attrs }) (record { head = with_next_id r.head; attrs = insert r.attrs (place_of_type standard_information r.attrs) (new_info (new_id r) stamp) })).attrs) info

pub timed_bytes : (stamp : ℕ) (r : Record) → has_type standard_information r ≡ true → written_bytes (timed_record stamp r) ≡ written_bytes r
timed_bytes stamp r info = written_used (timed_record stamp r) ∙ ap used_of (own_times stamp r info) ∙ ap (λ (n : ℕ). 0x38 + n + 8) (bytes_same stamp r.attrs) ∙ sym (written_used r)

-- ---- whether there is standard information

any_info : List Attr → Bool
any_info attrs = list_any (λ (a : Attr). eqb a.head.kind standard_information) attrs

normal_info : (attrs : List Attr) → any_info (map normal attrs) ≡ any_info attrs
unfolding any_info
normal_info [] = refl
normal_info (a ∷ attrs) = ap (λ (b : Bool). eqb a.head.kind standard_information || b) (normal_info attrs)

pub written_info : (r : Record) → has_type standard_information (written_record r) ≡ has_type standard_information r
unfolding has_type any_info
written_info r = normal_info r.attrs

-- the data isn't of that type
data_kind : (a : Attr) → is_attribute_of data_type [] a ≡ true → eqb a.head.kind standard_information ≡ false
data_kind a is = ap (λ (kind : ℕ). eqb kind standard_information) (attribute_kind data_type [] a is).0

without_info : (attrs : List Attr) → any_info (without_stream data_type [] attrs) ≡ any_info attrs
unfolding any_info
without_info [] = refl
without_info (a ∷ attrs) =
    let out : Attr → Bool = λ b. not (is_attribute_of data_type [] b) in
    elim (cases_Bool (is_attribute_of data_type [] a)) [
      | inl is ↦ ap any_info (filter_no out a attrs (ap not is)) ∙ without_info attrs ∙ sym (ap (λ (t : Bool). t || any_info attrs) (data_kind a is))
      | inr is ↦ ap any_info (filter_yes out a attrs (ap not is)) ∙ ap (λ (t : Bool). eqb a.head.kind standard_information || t) (without_info attrs)
    ]

with_info : (new : Attr) (attrs : List Attr) → is_attribute_of data_type [] new ≡ true → any_info (with_stream data_type [] new attrs) ≡ any_info attrs
unfolding any_info
with_info new [] own = refl
with_info new (a ∷ attrs) own = elim (cases_Bool (is_attribute_of data_type [] a)) [
  | inl is ↦
      ap any_info (with_one data_type [] new a attrs is)
      ∙ ap (λ (t : Bool). t || any_info (without_stream data_type [] attrs)) (data_kind new own)
      ∙ without_info attrs
      ∙ sym (ap (λ (t : Bool). t || any_info attrs) (data_kind a is))
  | inr is ↦ ap any_info (with_none data_type [] new a attrs is) ∙ ap (λ (t : Bool). eqb a.head.kind standard_information || t) (with_info new attrs own)
]

placed_by : (e : Extents) (r : Record) (attributes : List Attr) → attributes_of data_type [] r.attrs ≡ attributes → has_type standard_information (placed_first 8 data_type [] e r attributes) ≡ has_type standard_information r
unfolding has_type any_info
placed_by e r [] is = refl
placed_by e r (a ∷ others) is = with_info (placed_attr 8 e a) r.attrs (placed_is 8 data_type [] e a true (first_passes data_type [] r.attrs a others is))

pub placed_info : (e : Extents) (r : Record) → has_type standard_information (placed_record 8 data_type [] e r) ≡ has_type standard_information r
placed_info e r = placed_by e r (attributes_of data_type [] r.attrs) refl

valued_is : (value : List ℕ) (a : Attr) (t : Bool) → is_attribute_of data_type [] a ≡ t → is_attribute_of data_type [] (valued_attr value a) ≡ t
unfolding is_attribute_of
valued_is value a t is = is

valued_by : (value : List ℕ) (r : Record) (attributes : List Attr) → attributes_of data_type [] r.attrs ≡ attributes → has_type standard_information (valued_first data_type [] value r attributes) ≡ has_type standard_information r
unfolding has_type any_info
valued_by value r [] is = refl
valued_by value r (a ∷ others) is = with_info (valued_attr value a) r.attrs (valued_is value a true (first_passes data_type [] r.attrs a others is))

pub valued_info : (value : List ℕ) (r : Record) → has_type standard_information (valued_record data_type [] value r) ≡ has_type standard_information r
valued_info value r = valued_by value r (attributes_of data_type [] r.attrs) refl

-- ---- data with other sizes in a record as it is written

kept : (t : Bool) (a : Attr) (attrs others : List Attr) → others ≡ map normal attrs → cond t (normal a ∷ others) others ≡ map normal (cond t (a ∷ attrs) attrs)
kept true a attrs others same = ap (λ (l : List Attr). normal a ∷ l) same
kept false a attrs others same = same

own_normal : (attrs : List Attr) → filter (is_attribute_of data_type []) (map normal attrs) ≡ map normal (filter (is_attribute_of data_type []) attrs)
unfolding is_attribute_of
own_normal [] = refl
own_normal (a ∷ attrs) = kept (is_attribute_of data_type [] a) a (filter (is_attribute_of data_type []) attrs) (filter (is_attribute_of data_type []) (map normal attrs)) (own_normal attrs)

same_normal : (a : Attr) (t : Bool) → is_attribute_of data_type [] a ≡ t → is_attribute_of data_type [] (normal a) ≡ t
unfolding is_attribute_of
same_normal a t is = is

without_bytes : (attrs : List Attr) → spelled_bytes (without_stream data_type [] (map normal attrs)) ≡ spelled_bytes (without_stream data_type [] attrs)
without_bytes [] = refl
without_bytes (a ∷ attrs) =
    let out : Attr → Bool = λ b. not (is_attribute_of data_type [] b) in
    elim (cases_Bool (is_attribute_of data_type [] a)) [
      | inl is ↦ ap spelled_bytes (filter_no out (normal a) (map normal attrs) (ap not (same_normal a true is))) ∙ without_bytes attrs ∙ sym (ap spelled_bytes (filter_no out a attrs (ap not is)))
      | inr is ↦
          (let whole = ap spelled_bytes (filter_yes out (normal a) (map normal attrs) (ap not (same_normal a false is))) in
          let part = ap spelled_bytes (filter_yes out a attrs (ap not is)) in
          omega (arith, whole, part, normal_length a, without_bytes attrs))
    ]

with_bytes : (new : Attr) (attrs : List Attr) → spelled_bytes (with_stream data_type [] new (map normal attrs)) ≡ spelled_bytes (with_stream data_type [] new attrs)
with_bytes new [] = refl
with_bytes new (a ∷ attrs) = elim (cases_Bool (is_attribute_of data_type [] a)) [
  | inl is ↦
      (let whole = ap spelled_bytes (with_one data_type [] new (normal a) (map normal attrs) (same_normal a true is)) in
      let part = ap spelled_bytes (with_one data_type [] new a attrs is) in
      omega (arith, whole, part, without_bytes attrs))
  | inr is ↦
      (let whole = ap spelled_bytes (with_none data_type [] new (normal a) (map normal attrs) (same_normal a false is)) in
      let part = ap spelled_bytes (with_none data_type [] new a attrs is) in
      omega (arith, whole, part, normal_length a, with_bytes new attrs))
]

-- of a record in which the data was placed
module _ (e f : Extents) (r : Record) (a : Attr) (others : List Attr) (some : attributes_of data_type [] r.attrs ≡ a ∷ others) where
  abbrev new : Attr
  new = placed_attr 8 e a

  abbrev q : Record
  q = placed_record 8 data_type [] e r

  attrs_are : q.attrs ≡ with_stream data_type [] new r.attrs
  attrs_are = ap (λ (l : List Attr). (placed_first 8 data_type [] e r l).attrs) some

  first_own : (b : Attr) × (rest : List Attr) × (filter (is_attribute_of data_type []) r.attrs ≡ b ∷ rest)
  unfolding attributes_of
  first_own = some_by (filter (is_attribute_of data_type []) r.attrs) a others some

  own : is_attribute_of data_type [] new ≡ true
  own = placed_is 8 data_type [] e a true (first_passes data_type [] r.attrs a others some)

  one : filter (is_attribute_of data_type []) q.attrs ≡ new ∷ []
  one = ap (filter (is_attribute_of data_type [])) attrs_are ∙ own_with data_type [] new r.attrs first_own.0 first_own.1 own first_own.2

  pub one_written : attributes_of data_type [] (written_record q).attrs ≡ normal new ∷ []
  unfolding attributes_of
  one_written = ap (sorted_into []) (own_normal q.attrs ∙ ap (map normal) one)

  as_written : (placed_record 8 data_type [] f (written_record q)).attrs ≡ with_stream data_type [] (placed_attr 8 f new) (map normal q.attrs)
  as_written = ap (λ (l : List Attr). (placed_first 8 data_type [] f (written_record q) l).attrs) one_written

  as_stands : (placed_record 8 data_type [] f q).attrs ≡ with_stream data_type [] (placed_attr 8 f new) q.attrs
  as_stands = ap (λ (l : List Attr). (placed_first 8 data_type [] f q l).attrs) (placed_one 8 data_type [] e r a others some)

  pub sized_bytes : f.runs ≡ e.runs → written_bytes (placed_record 8 data_type [] f (written_record q)) ≡ written_bytes q
  sized_bytes same =
      written_used (placed_record 8 data_type [] f (written_record q))
      ∙ ap used_of as_written
      ∙ ap (λ (n : ℕ). 0x38 + n + 8) (with_bytes (placed_attr 8 f new) q.attrs)
      ∙ sym (ap used_of as_stands)
      ∙ sym (written_used (placed_record 8 data_type [] f q))
      ∙ sizes.again 8 data_type [] e f r a others some same
